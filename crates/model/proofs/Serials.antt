-- Request N7: a serial decides nothing. No call looks at the edition or at a serial.
use Prim.Native.Nat.{ℕ, zero, suc}
use mathlib.Core.Path.{◌≡◌, refl, ap, ◌∙◌}
use mathlib.Core.List.{List, [], ◌∷◌, ◌++◌}
use mathlib.Core.Bool.{Bool, true, false, not, ◌&&◌, ◌||◌, cond}
use lib.ListN.{length}
use lib.Dec.{leb, eqb}
use Rattle.model.specs.Base.{all, any, every, below, collect}
use Rattle.model.specs.Config.{Entry, entries, descriptor, hardcoded_of, from1to}
use Rattle.model.specs.State.{
  most_partition,
  State,
  green,
  object_in,
  held,
  well_formed,
  view,
  layout,
  fresh,
  area_length,
}
use Rattle.model.specs.Closure.{
  Fact,
  pair,
  read,
  live,
  conclude,
  derive,
  starts_to,
  added,
  settled,
  grow,
  rounds,
  explored,
  passes,
  surveyed,
  survey,
  confined,
  unnamed,
  offers,
  described,
  follow,
  same_fact,
}
use Rattle.model.specs.Operation.{Parsed, family_of, actor_of, object_at, second_at}
use Rattle.model.specs.Effect.{apply, concerned, answer_bytes, answered}
use Rattle.model.specs.Questions.{
  q11,
  q12,
  q13,
  q14,
  q15,
  q16,
  q17,
  q18,
  q19,
  q20,
  q21,
  q22,
  q23,
  names_partition,
  actor_exists,
  item_exists,
  item_fits,
  transfer,
  confined_after,
  lets_go,
  itself,
  green_item,
  green_items,
  quiet_actor,
  quiet_entry,
  read_entry,
  write_entry,
  zone_of,
  is_kind,
  green_entry,
  confined_in,
  ask,
  judge,
}
use Rattle.model.specs.Gate.{or_else, verdict, outcome}
use Rattle.model.specs.Serials.{marked, Marked}
use Rattle.model.specs.declared.Family.{Family}
use Rattle.model.specs.declared.Family.TheVariants.{
  Write,
  Copy,
  Create,
  Destroy,
  Activate,
  Deactivate,
  Lock,
  Unlock,
}
use Rattle.model.specs.declared.Actor.{Actor}
use Rattle.model.specs.declared.Actor.TheVariants.{Driver, Device, External}
use Rattle.model.specs.declared.Config.{Config}
use Rattle.model.specs.declared.Operation.{Operation}

module _ (config : Config) (edition : ℕ) (serials : List ℕ) where
  abbrev other : Config
  other = marked config edition serials

  entries-same : (v : ℕ) → entries other v ≡ entries config v
  unfolding entries
  entries-same zero = refl
  entries-same (suc v) = refl

  -- the search
  module _ (b : State) (storing : Bool) where
    conclude-same : (s : List Fact) (f : Fact) → conclude other b storing s f ≡ conclude config b storing s f
    conclude-same s (pair o v) = refl
    conclude-same s (read c o v) = λ i. collect (follow config storing s c) (entries-same v i)

    derive-same : (s : List Fact) → derive other b storing s ≡ derive config b storing s
    derive-same s = λ i. collect (λ f. conclude-same s f i) s

    settled_same : (s : List Fact) → settled other b storing s ≡ settled config b storing s
    settled_same s = ap (all (λ f. any (λ g. same_fact f g) s)) (derive-same s)

    round : (t u : Bool) → t ≡ u → (s x y : List Fact) → x ≡ y
        → ◌≡◌ {A = List Fact} (elim t [ true ↦ s | false ↦ x ]) (elim u [ true ↦ s | false ↦ y ])
    round t u e s x y h = λ i. elim (e i) [ true ↦ s | false ↦ h i ]

    grow-same : (fuel : ℕ) (s : List Fact) → grow fuel other b storing s ≡ grow fuel config b storing s
    grow-same zero s = refl
    grow-same (suc fuel) s =
        round (settled other b storing s) (settled config b storing s) (settled_same s) s _ _
        (grow-same fuel (added s (derive other b storing s))
        ∙ ap (λ (l : List Fact). grow fuel config b storing (added s l)) (derive-same s))

    starts-same : (n : ℕ) → starts_to other b n ≡ starts_to config b n
    starts-same zero = refl
    starts-same (suc n) =
        ap (λ (l : List Fact). cond (live config b (suc n)) (pair (suc n) (held b (suc n)) ∷ []) [] ++ l)
        (starts-same n)

    explored-same : explored other b storing ≡ explored config b storing
    unfolding explored
    explored-same =
        grow-same (rounds config b) (starts_to other b config.counts.objects)
        ∙ ap (grow (rounds config b) config b storing) (starts-same config.counts.objects)

  survey-same : (b : State) (ok : ℕ → Entry → Bool) → survey other b ok ≡ survey config b ok
  unfolding survey
  survey-same b ok =
      ap (surveyed other b ok) (explored-same b true)
      ∙ λ i. settled_same b true (explored config b true) i && all (λ f. passed f i) (explored config b true)
    where
      passed : (f : Fact) → passes other ok f ≡ passes config ok f
      passed (pair o v) = refl
      passed (read c o v) = ap (all (ok c)) (entries-same v)

  described-same : (b : State) (c : ℕ) (ok : Entry → Bool) → described other b c ok ≡ described config b c ok
  unfolding described
  described-same b c ok =
      ap (any (offers other c ok)) (explored-same b false) ∙ λ i. any (λ f. offered f i) (explored config b false)
    where
      offered : (f : Fact) → offers other c ok f ≡ offers config c ok f
      offered (pair o v) = refl
      offered (read d o v) = ap (λ (l : List Entry). eqb d c && any ok l) (entries-same v)

  confined-same : (b : State) → confined other b ≡ confined config b
  confined-same b = survey-same b _

  -- what an operation does
  apply-same : (op : Operation) (f : Family) (a : Actor) (b : State) → apply other op f a b ≡ apply config op f a b
  unfolding apply
  apply-same op Write a b = refl
  apply-same op Copy a b = refl
  apply-same op Create a b = refl
  apply-same op Destroy a b = refl
  apply-same op Activate Driver b = refl
  apply-same op Activate Device b = refl
  apply-same op Activate External b = refl
  apply-same op Deactivate Driver b = refl
  apply-same op Deactivate Device b = refl
  apply-same op Deactivate External b = refl
  apply-same op Lock a b = refl
  apply-same op Unlock a b = refl

  -- the questions
  module _ (b : State) (op : Operation) where
    exists_same : (f : Family) (i : ℕ) → item_exists other op f i ≡ item_exists config op f i
    exists_same Write i = refl
    exists_same Copy i = refl
    exists_same Create i = refl
    exists_same Destroy i = refl
    exists_same Activate i = refl
    exists_same Deactivate i = refl
    exists_same Lock i = refl
    exists_same Unlock i = refl

    actor-same : (a : Actor) → actor_exists other a op.subject ≡ actor_exists config a op.subject
    actor-same Driver = refl
    actor-same Device = refl
    actor-same External = refl

    q11-same : (f : Family) (a : Actor) → q11 other op f a ≡ q11 config op f a
    unfolding q11
    q11-same f a =
        λ i. actor-same a i && (not (names_partition f a) || from1to op.partition most_partition)
        && below op.count (λ n. exists_same f n i)

    fits-same : (f : Family) (i : ℕ) → item_fits other op f i ≡ item_fits config op f i
    fits-same Write i = refl
    fits-same Copy i = refl
    fits-same Create i = refl
    fits-same Destroy i = refl
    fits-same Activate i = refl
    fits-same Deactivate i = refl
    fits-same Lock i = refl
    fits-same Unlock i = refl

    q13-same : (f : Family) → q13 other op f ≡ q13 config op f
    unfolding q13
    q13-same f = λ i. below op.count (λ n. fits-same f n i)

    transfer-same : (f : Family) (n : ℕ) → transfer other b op f n ≡ transfer config b op f n
    transfer-same Write n = described-same b op.subject _
    transfer-same Copy n =
        λ i. described-same b op.subject (read_entry (object_at op n)) i
        && (eqb (second_at op n) 0
        || described-same b op.subject (write_entry config (second_at op n) (held b (object_at op n))) i)
    transfer-same Create n = refl
    transfer-same Destroy n = refl
    transfer-same Activate n = refl
    transfer-same Deactivate n = refl
    transfer-same Lock n = refl
    transfer-same Unlock n = refl

    q18-same : (f : Family) (a : Actor) → q18 other b op f a ≡ q18 config b op f a
    unfolding q18
    q18-same f Driver = refl
    q18-same f Device = λ i. below op.count (λ n. transfer-same f n i)
    q18-same f External = refl

    after_same : (f : Family) (a : Actor) → confined_after other b op f a ≡ confined_after config b op f a
    after_same f Driver = confined-same (apply other op f Driver b) ∙ ap (confined config) (apply-same op f Driver b)
    after_same f Device = refl
    after_same f External =
        confined-same (apply other op f External b) ∙ ap (confined config) (apply-same op f External b)

    q19-same : (f : Family) (a : Actor) → q19 other b op f a ≡ q19 config b op f a
    unfolding q19
    q19-same Write a = ap (λ (t : Bool). green b (zone_of b op a) || t) (after_same Write a)
    q19-same Copy a = ap (λ (t : Bool). green b (zone_of b op a) || t) (after_same Copy a)
    q19-same Create a = refl
    q19-same Destroy a = refl
    q19-same Activate a = refl
    q19-same Deactivate a = refl
    q19-same Lock a = refl
    q19-same Unlock a = refl

    lets_same : (moves : ℕ → Bool) (n : ℕ) → lets_go other b moves n ≡ lets_go config b moves n
    lets_same moves n =
        ap (λ (l : List Entry). not (descriptor config n && green b (object_in b n)) || moves n
        || all (λ e. not (moves e.object && eqb (object_in b e.object) (object_in b n))) l)
        (entries-same (held b n))

    leaves-same : (moves : ℕ → Bool) (but : ℕ)
        → (unnamed other b moves but && every config.counts.objects (lets_go other b moves))
        ≡ (unnamed config b moves but && every config.counts.objects (lets_go config b moves))
    leaves-same moves but =
        λ i. survey-same b (λ c e. eqb c but || not (moves e.object)) i
        && every config.counts.objects (λ n. lets_same moves n i)

    q20-same : (f : Family) (a : Actor) → q20 other b op f a ≡ q20 config b op f a
    unfolding q20
    q20-same Write a = refl
    q20-same Copy a = refl
    q20-same Create a = refl
    q20-same Destroy a = refl
    q20-same Activate a = refl
    q20-same Deactivate Driver = leaves-same (concerned config op Driver) (itself op Driver)
    q20-same Deactivate Device = leaves-same (concerned config op Device) (itself op Device)
    q20-same Deactivate External = leaves-same (concerned config op External) (itself op External)
    q20-same Lock a = refl
    q20-same Unlock a = refl

    item-same : (f : Family) (p n : ℕ) → green_item other b op f p n ≡ green_item config b op f p n
    item-same Write p n =
        ap (λ (l : List Entry). not (is_kind config 1 (object_at op n)) || all (green_entry config b p) l)
        (entries-same (second_at op n))
    item-same Copy p n =
        ap (λ (l : List Entry). eqb (second_at op n) 0 || not (is_kind config 1 (second_at op n))
        || all (green_entry config b p) l) (entries-same (held b (object_at op n)))
    item-same Create p n = refl
    item-same Destroy p n = refl
    item-same Activate p n = refl
    item-same Deactivate p n = refl
    item-same Lock p n = refl
    item-same Unlock p n = refl

    items_same : (f : Family) (a : Actor) → green_items other b op f a ≡ green_items config b op f a
    items_same f Driver =
        λ i. not (green b (zone_of b op Driver)) || below op.count (λ n. item-same f (zone_of b op Driver) n i)
    items_same f Device = refl
    items_same f External =
        λ i. not (green b (zone_of b op External)) || below op.count (λ n. item-same f (zone_of b op External) n i)

    quiet_same : (a : Actor) → quiet_actor other op a ≡ quiet_actor config op a
    quiet_same Driver = refl
    quiet_same Device = ap (all (quiet_entry config)) (entries-same (hardcoded_of config op.subject))
    quiet_same External = refl

    q22-same : (f : Family) (a : Actor) → q22 other b op f a ≡ q22 config b op f a
    unfolding q22
    q22-same Write a = items_same Write a
    q22-same Copy a = items_same Copy a
    q22-same Create a = refl
    q22-same Destroy a = refl
    q22-same Activate a = ap (λ (t : Bool). not (green b op.partition) || t) (quiet_same a)
    q22-same Deactivate a = refl
    q22-same Lock a = refl
    q22-same Unlock a = refl

    in_same : (a : Actor) → confined_in other b op a ≡ confined_in config b op a
    in_same Driver = refl
    in_same Device =
        confined-same (apply other op Activate Device b) ∙ ap (confined config) (apply-same op Activate Device b)
    in_same External = refl

    q21-same : (f : Family) (a : Actor) → q21 other b op f a ≡ q21 config b op f a
    unfolding q21
    q21-same Write a = refl
    q21-same Copy a = refl
    q21-same Create a = refl
    q21-same Destroy a = refl
    q21-same Activate a = in_same a
    q21-same Deactivate a = refl
    q21-same Lock a = refl
    q21-same Unlock a = refl

    judge-same : (f : Family) (a : Actor) → judge other b op f a ≡ judge config b op f a
    unfolding judge
    judge-same f a =
        λ i. ask 11 (q11-same f a i) (ask 12 (q12 op f) (ask 13 (q13-same f i) (ask 14 (q14 b op f a)
        (ask 15 (q15 b op f) (ask 16 (q16 b op f a) (ask 23 (q23 b op f a) (ask 17 (q17 b op f a)
        (ask 18 (q18-same f a i) (ask 19 (q19-same f a i) (ask 20 (q20-same f a i) (ask 22 (q22-same f a i)
        (ask 21 (q21-same f a i) 0))))))))))))

  formed-same : (room : ℕ) (b : State) → well_formed room other b ≡ well_formed room config b
  unfolding well_formed
  formed-same room b = refl

  fresh-same : (room : ℕ) → fresh room other ≡ fresh room config
  unfolding fresh
  fresh-same room = refl

  verdict-same : (room : ℕ) (r : Parsed) (area answer : List ℕ)
      → verdict room other r area answer ≡ verdict room config r area answer
  verdict-same room r area answer =
      λ i. ask 7 (eqb (length area) (area_length room)) (ask 8 (leb answer_bytes (length answer))
      (ask 9 (formed-same room (view room area) i) (or_else r.0
      (judge-same (view room area) r.1 (family_of r.1.code) (actor_of r.1.code) i))))

  outcome-same : (room n : ℕ) (op : Operation) (area answer : List ℕ)
      → outcome room n other op area answer ≡ outcome room n config op area answer
  outcome-same room zero op area answer =
      λ i. (
        0,
        layout (apply-same op (family_of op.code) (actor_of op.code) (view room area) i),
        answered op (family_of op.code) (view room area) answer,
      )
  outcome-same room (suc n) op area answer = refl

-- the theorem: two configurations that differ in edition and serials alone get the same answer, areas and fresh state
pub serials_silent : (config other : Config) → Marked config other → (room : ℕ)
    → ((r : Parsed) (area answer : List ℕ) → verdict room other r area answer ≡ verdict room config r area answer)
    × ((n : ℕ) (op : Operation) (area answer : List ℕ)
    → outcome room n other op area answer ≡ outcome room n config op area answer)
    × (fresh room other ≡ fresh room config)
serials_silent config other (edition, serials, e) room = (
  (λ r area answer. ap (λ (c : Config). verdict room c r area answer) e
      ∙ verdict-same config edition serials room r area answer),
  (λ n op area answer. ap (λ (c : Config). outcome room n c op area answer) e
      ∙ outcome-same config edition serials room n op area answer),
  ap (fresh room) e ∙ fresh-same config edition serials room,
)
