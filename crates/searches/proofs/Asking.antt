-- Questions 18 to 22 from their parts. Assumes nothing.
use Prim.Native.Nat.{ℕ, zero, suc}
use mathlib.Core.Path.{◌≡◌, refl, sym, ap, ◌∙◌}
use mathlib.Core.Bool.{Bool, true, false, not, cond, ◌&&◌, ◌||◌, true≢false, false≢true}
use Rattle.model.specs.Base.{below}
use Rattle.model.specs.State.{State, green}
use Rattle.model.specs.Effect.{apply}
use Rattle.model.specs.Closure.{confined}
use Rattle.model.specs.Questions.{transfer, zone_of, q18, q19, q20, q21, q22, ask}
use Rattle.model.specs.Gate.{applied}
use Rattle.model.specs.declared.Family.{Family}
use Rattle.model.specs.declared.Family.TheVariants.{Write, Copy, Activate, Deactivate}
use Rattle.model.specs.declared.Actor.{Actor}
use Rattle.model.specs.declared.Actor.TheVariants.{Driver, Device, External}
use Rattle.model.specs.declared.Config.{Config}
use Rattle.model.specs.declared.Operation.{Operation}
use Rattle.std.specs.Prelude.{Option, Some, None}
use Rattle.std.specs.Option.{is_some}
use Rattle.closure.specs.declared.search.Finding.{Finding}
use Rattle.closure.specs.Search.{finding_means}
use Rattle.closure.proofs.Answering.{nothing_of}
use Rattle.green.specs.Rule.{by_device}
use Rattle.searches.specs.Ready.{Asked}
use Rattle.searches.specs.Asking.{stores, leaves, activates, enters, follows}
use Rattle.searches.proofs.Readying
use Rattle.searches.proofs.Unnamed.{q20_free}

-- a write or a copy that 22 refuses is in a green zone, so that 19 is a yes
stored : (g c i : Bool) → not g || i ≡ false → ask 19 (g || c) (ask 22 (not g || i) 0) ≡ 22
stored true c i h = rw h
stored false c i h = absurd (true≢false h)

-- a search that found nothing
pub none_of : (q : ℕ) (r : Option Finding) (n t : Bool) → is_some r ≡ not n
    → (finding_means (suc q) r).0 ≡ ask (suc q) t 0 → n ≡ t
none_of q (Some e) true t h k = absurd (true≢false h)
none_of q (Some e) false t h k = nothing_of q (Some e) t k
none_of q None true t h k = nothing_of q None t k
none_of q None false t h k = absurd (false≢true h)

-- question 18
module _ (config : Config) (b : State) (op : Operation) where
  below_all : (n : ℕ) (p : ℕ → Bool) → ((i : ℕ) → p i ≡ true) → below n p ≡ true
  below_all zero p h = refl
  below_all (suc n) p h = rw (below_all n p h, h n)

  free : (f : Family) → stores f ≡ false → (i : ℕ) → transfer config b op f i ≡ true
  free Write h i = absurd (true≢false h)
  free Copy h i = absurd (true≢false h)
  free f h i = refl

  pub q18-other : (f : Family) (a : Actor) → by_device a ≡ false → true ≡ q18 config b op f a
  unfolding q18
  q18-other f Device h = absurd (true≢false h)
  q18-other f a h = refl

  pub q18_free : (f : Family) (a : Actor) → stores f ≡ false → true ≡ q18 config b op f a
  unfolding q18
  q18_free f Device h = sym (below_all op.count (transfer config b op f) (free f h))
  q18_free f a h = refl

  pub q18_items : (f : Family) (a : Actor) → by_device a ≡ true → {r : Bool}
      → r ≡ below op.count (transfer config b op f) → r ≡ q18 config b op f a
  unfolding q18
  q18_items f Device h e = e
  q18_items f Driver h e = absurd (false≢true h)
  q18_items f External h e = absurd (false≢true h)

  or_true : (t : Bool) → true ≡ t || true
  or_true true = refl
  or_true false = refl

  -- questions 19 and 21: at most one of them is put to an operation
  pub q19-device : (f : Family) (a : Actor) → by_device a ≡ true → true ≡ q19 config b op f a
  unfolding q19
  q19-device f Driver h = absurd (false≢true h)
  q19-device Write Device h = or_true (green b (zone_of b op Device))
  q19-device Copy Device h = or_true (green b (zone_of b op Device))
  q19-device f Device h = refl
  q19-device f External h = absurd (false≢true h)

  pub q19_free : (f : Family) (a : Actor) → stores f ≡ false → true ≡ q19 config b op f a
  unfolding q19
  q19_free Write a h = absurd (true≢false h)
  q19_free Copy a h = absurd (true≢false h)
  q19_free f a h = refl

  pub q21_free : (f : Family) (a : Actor) → enters f a ≡ false → true ≡ q21 config b op f a
  unfolding q21
  q21_free Activate Device h = absurd (true≢false h)
  q21_free f a h = refl

  pub q22_free : (f : Family) (a : Actor) → stores f ≡ false → enters f a ≡ false → true ≡ q22 config b op f a
  unfolding q22
  q22_free Write a h k = absurd (true≢false h)
  q22_free Copy a h k = absurd (true≢false h)
  q22_free Activate Device h k = absurd (true≢false k)
  q22_free Activate a h k = or_true (not (green b op.partition))
  q22_free f a h k = refl

  abbrev both : Family → Actor → Bool
  both f a = q19 config b op f a && q21 config b op f a

  -- in a green zone 19 is a yes, and elsewhere the search's answer
  in_green : (g c : Bool) → not g ≡ false → true ≡ ((g || c) && true)
  in_green true c h = refl
  in_green false c h = absurd (true≢false h)

  elsewhere : (g c : Bool) → not g ≡ true → c ≡ ((g || c) && true)
  elsewhere true c h = absurd (false≢true h)
  elsewhere false true h = refl
  elsewhere false false h = refl

  by_device_lem : (g : Bool) → true ≡ ((g || true) && true)
  by_device_lem true = refl
  by_device_lem false = refl

  pub neither_put : (f : Family) (a : Actor) → follows b op f a ≡ false → true ≡ both f a
  unfolding q19 q21
  neither_put Write Device h = by_device_lem (green b (zone_of b op Device))
  neither_put Write a h = in_green (green b (zone_of b op a)) _ h
  neither_put Copy Device h = by_device_lem (green b (zone_of b op Device))
  neither_put Copy a h = in_green (green b (zone_of b op a)) _ h
  neither_put Activate Device h = absurd (true≢false h)
  neither_put f a h = refl

  either_put : (f : Family) (a : Actor) → follows b op f a ≡ true → confined config (apply config op f a b) ≡ both f a
  unfolding q19 q21
  either_put Write Device h = absurd (false≢true h)
  either_put Write a h = elsewhere (green b (zone_of b op a)) _ h
  either_put Copy Device h = absurd (false≢true h)
  either_put Copy a h = elsewhere (green b (zone_of b op a)) _ h
  either_put Activate Device h = refl
  either_put f a h = absurd (false≢true h)

  -- question 22: where it says no, those before it are not put
  pub green-number : (f : Family) (a : Actor) → q22 config b op f a ≡ false
      → ask 19 (q19 config b op f a) (ask 20 (q20 config b op f a) (ask 22 (q22 config b op f a)
      (ask 21 (q21 config b op f a) 0))) ≡ 22
  unfolding q19 q20 q21 q22
  green-number Write Device h = absurd (true≢false h)
  green-number Write a h = stored (green b (zone_of b op a)) _ _ h
  green-number Copy Device h = absurd (true≢false h)
  green-number Copy a h = stored (green b (zone_of b op a)) _ _ h
  green-number Activate a h = rw h
  green-number f a h = absurd (true≢false h)

-- where 22 says yes, the rest is as if it were not asked
pub green_passed : (config : Config) (b : State) (op : Operation) (f : Family) (a : Actor)
    → q22 config b op f a ≡ true
    → ask 19 (q19 config b op f a) (ask 20 (q20 config b op f a) (ask 22 (q22 config b op f a)
    (ask 21 (q21 config b op f a) 0)))
    ≡ ask 19 (q19 config b op f a) (ask 20 (q20 config b op f a) (ask 21 (q21 config b op f a) 0))
green_passed config b op f a h = rw h

pub both_yes : (x y : Bool) → x && y ≡ true → (x ≡ true) × (y ≡ true)
both_yes true y h = (refl, h)
both_yes false y h = absurd (false≢true h)

second_no : (x y : Bool) → true ≡ x → x && y ≡ false → y ≡ false
second_no true y e h = h
second_no false y e h = absurd (true≢false e)

first_no_lem : (x y : Bool) → true ≡ y → x && y ≡ false → x ≡ false
first_no_lem true true e h = absurd (true≢false h)
first_no_lem true false e h = absurd (true≢false e)
first_no_lem false y e h = refl

-- questions 19 and 21: the number of the one that says no; where either is put, 20 is not
pub next-number : (config : Config) (b : State) (op : Operation) (f : Family) (a : Actor)
    → q19 config b op f a && q21 config b op f a ≡ false
    → ask 19 (q19 config b op f a) (ask 20 (q20 config b op f a) (ask 21 (q21 config b op f a) 0))
    ≡ cond (enters f a) 21 19
next-number config b op f a h = go (enters f a) refl
  where
    staying : (f : Family) → activates f ≡ true → leaves f ≡ false
    staying Deactivate e = absurd (false≢true e)
    staying f e = refl

    go : (t : Bool) → enters f a ≡ t
        → ask 19 (q19 config b op f a) (ask 20 (q20 config b op f a) (ask 21 (q21 config b op f a) 0)) ≡ cond t 21 19
    go true e =
        let (active, device) = both_yes (activates f) (by_device a) e in
        let yes₁₉ = q19-device config b op f a device in
        let yes₂₀ = q20_free config b op f a (staying f active) in
        let no₂₁ = second_no (q19 config b op f a) (q21 config b op f a) yes₁₉ h in
        rw (← yes₁₉, ← yes₂₀, no₂₁)
    go false e =
        let no₁₉ = first_no_lem (q19 config b op f a) (q21 config b op f a) (q21_free config b op f a e) h in
        rw no₁₉

pub follows_next : (config : Config) (b : State) (op : Operation) (f : Family) (a : Actor) → Asked config op f a
    → follows b op f a ≡ true → {r : Bool} → r ≡ confined config (applied config op b)
    → r ≡ (q19 config b op f a && q21 config b op f a)
follows_next config b op f a asked h p =
    p ∙ (ap (confined config) (Readying.next-state config op f a b asked) ∙ either_put config b op f a h)
