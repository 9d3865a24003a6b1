-- What a search over the words of the closure answers is what the rules, and the model's computed search, say.
use Prim.Native.Nat.{ℕ, suc, ◌+◌, ◌-◌}
use native.Mathlib.Omega.{arith}
use mathlib.Core.Path.{◌≡◌, refl, sym, ap, subst, ◌∙◌}
use mathlib.Core.Bool.{Bool, true, false, not, ◌&&◌, ◌||◌}
use mathlib.Core.List.{List, Memᴰ}
use lib.Dec.{eqb}
use lib.ListN.{get_or}
use Rattle.model.specs.Config.{kind_of, descriptor, Entry, reads, writes, entries}
use Rattle.model.specs.State.{State}
use Rattle.model.specs.Closure.{Collected, Reads, start, stored, own, next, crosses, survey, confined, unnamed}
use Rattle.model.specs.Questions.{ask}
use Rattle.model.specs.declared.Devices.{Devices}
use Rattle.model.specs.declared.Config.{Config}
use Rattle.model.proofs.Lists.{no_both, not-true}
use Rattle.model.proofs.Entries.{entry_place_lem}
use Rattle.model.proofs.ClosureExact.{survey_exact}
use Rattle.scene.specs.Digits.{bit, Has}
use Rattle.scene.specs.Rules.{opens, stores, crossing, naming}
use Rattle.scene.specs.Scene.{Scene, entry_of, count_of, In, ValuesOk}
use Rattle.scene.specs.Devices.{with_devices}
use Rattle.std.specs.Prelude.{Option, Some, None}
use Rattle.closure.specs.Words.{ReaderIn, PairIn, Sound, Closed}
use Rattle.closure.specs.Search.{
  Fines,
  IsStrange,
  Finds,
  Ended,
  Suspected,
  Hit,
  Answers,
  finding_means,
  is_nothing,
  closure_of,
  IsCrossing,
  IsNaming,
}
use Rattle.closure.specs.declared.search.Finding.{Finding}
use Rattle.scene.proofs.Ranges.{opens_of, stores_of, entry-there}
use Rattle.scene.proofs.Devices.{listed_any, reads_any}

-- words to which no rule adds have all that the rules give
module _ (m : Scene) (k : List ℕ) (closed : Closed m k) where
  opened_in : (c o v p : ℕ) (e : Entry) → ReaderIn k c o → PairIn k o v → Memᴰ e (entries m.config v)
      → reads e ≡ true → descriptor m.config e.object ≡ true → e.object ≡ p → ReaderIn k c p
  opened_in c o v p e r q l h d ep =
      let (j, low, lj, hj, is) = entry_place_lem m.config v l in
      let x = closed.entries c o v j r q (record { low = lj; high = hj }) in
      subst (λ (p : ℕ). ReaderIn k c p) (ap (λ (e : Entry). e.object) (sym is) ∙ ep)
      (x.opened (subst (λ (e : Entry). opens m.config.objects.kind e ≡ true) is (opens_of m.config e h d)))

  stored_in : (c o v p w : ℕ) (e : Entry) → ReaderIn k c o → PairIn k o v → Memᴰ e (entries m.config v)
      → m.storing ≡ true → writes e ≡ true → kind_of m.config e.object ≡ 1 → e.object ≡ p → e.value ≡ w
      → PairIn k p w
  stored_in c o v p w e r q l s h d ep ew =
      let (j, low, lj, hj, is) = entry_place_lem m.config v l in
      let x = closed.entries c o v j r q (record { low = lj; high = hj }) in
      let y =
      x.stored (subst (λ (e : Entry). stores m.config.objects.kind m.storing e ≡ true) is
      (stores_of m.config m.storing e s h d)) in
      subst (λ (p : ℕ). PairIn k p w) (ap (λ (e : Entry). e.object) (sym is) ∙ ep)
      (subst (λ (w : ℕ). PairIn k (entry_of m v j).object w) (ap (λ (e : Entry). e.value) (sym is) ∙ ew) y)

  mutual
    pair_in : {o v : ℕ} → Collected m.config m.storing m.state o v → PairIn k o v
    pair_in (start {o = o} l e) = subst (λ (v : ℕ). PairIn k o v) e (closed.started o l)
    pair_in (stored {c = c} {o = o} {v = v} {p = p} {w = w} on e r l h d ep ew) =
        let (x, y) = read_in r in
        stored_in c o v p w e x y l on h d ep ew

    pub read_in : {c o v : ℕ} → Reads m.config m.storing m.state c o v → ReaderIn k c o × PairIn k o v
    read_in (own {c = c} {o = o} a h q) = (closed.owned c o a h, pair_in q)
    read_in (next {c = c} {o = o} {v = v} {p = p} e r l h d ep q) =
        let (x, y) = read_in r in
        (opened_in c o v p e x y l h d ep, pair_in q)

-- a strange entry by words that are right is a bad one by the rules
module _ (m : Scene) (k f : List ℕ) (bad : ℕ → ℕ → Bool) (ok : ValuesOk m.config) (fines : Fines bad m.config f) where
  abbrev bad_of : ℕ → Entry → Bool
  bad_of c e = bad c e.object

  strange_hit : Sound m k → (c o v j : ℕ) → IsStrange m.config f k c o v j → Hit m bad_of c o v j
  strange_hit s c o v j b =
      let r = b.reading in
      let a = (s o).readers r.0 r.2 r.3 in
      let p = (s o).values v b.paired in
      let e : c - 1 ≡ r.0 = omega (arith, r.1) in
      let i = ok.object_known v j p.value b.there in
      record {
        read = subst (λ (c : ℕ). Reads m.config m.storing m.state c o v) (sym r.1)
            (a.reads v p.collected);
        there = b.there;
        listed = entry-there m ok.no_entries v j b.there;
        is_bad = subst (λ (c : ℕ). bad c (entry_of m v j).object ≡ true) (sym r.1)
            ((fines (entry_of m v j).object i).all r.0 a.device
            (λ h. b.strange (subst (λ (n : ℕ). Has f (entry_of m v j).object n) (sym e) h)));
      }

  -- nothing is strange when all is grown
  pub answers_none : Ended m f k → Answers m bad_of None
  answers_none s = λ c o v e r h b.
      let (x, y) = read_in m k s.closed r in
      let (j, low, lj, hj, is) = entry_place_lem m.config v h in
      let i : In (count_of m v) j = record { low = lj; high = hj } in
      let p = (s.sound o).values v y in
      let n : c ≡ c - 1 + 1 = omega (arith, x.1) in
      (fines (entry_of m v j).object (ok.object_known v j p.value i)).right (c - 1) (s.fine c o v j x y i)
      (subst (λ (c : ℕ). bad c (entry_of m v j).object ≡ true) n
      (subst (λ (e : Entry). bad c e.object ≡ true) is b))

  -- what is strange is found
  pub answers_find : (s w : ℕ) (r : Option Finding) → Finds m.config f k s w r
      → ((n : ℕ) → bit s n ≡ 1 → Suspected m f k n w) → (n : ℕ) × (bit s n ≡ 1) → Answers m bad_of r
  answers_find s w (Some e) l h some =
      strange_hit (h some.0 some.1).sound e.device e.descriptor e.value e.entry l
  answers_find s w None l h some =
      let n = some.0 in
      let x = h n some.1 in
      let p = x.paired in
      let r = p.reading in
      let q : r.0 ≡ n = omega (arith, r.1) in
      let g = x.sound p.object in
      let d = (g.readers r.0 r.2 r.3).device in
      absurd (x.strange (l n p.object (omega (arith, d.high)) some.1 (g.values w p.paired).object
      (subst (λ (n : ℕ). Has k p.object n) q r.3) p.paired x.entry x.there))

-- an answer is one whatever the devices' hardcoded values and serials are
pub answers_any : (config : Config) (b : State) (bad : ℕ → Entry → Bool) (r : Option Finding)
    → Answers (closure_of config b) bad r → (d : Devices) → Answers (closure_of (with_devices d config) b) bad r
answers_any config b bad (Some e) h d =
    record {
      read = reads_any config config.devices d h.read;
      there = h.there;
      listed = listed_any config config.devices d e.value h.listed;
      is_bad = h.is_bad;
    }
answers_any config b bad None h d =
    λ c o v e r l. h c o v e (reads_any config d config.devices r) (listed_any config d config.devices v l)

-- an answer is the computed one
survey-answer : (config : Config) (b : State) (bad ok : ℕ → Entry → Bool)
    → ((c : ℕ) (e : Entry) → ok c e ≡ not (bad c e)) → (r : Option Finding)
    → Answers (closure_of config b) bad r → is_nothing r ≡ survey config b ok
survey-answer config b bad ok is (Some e) h =
    sym (not-true (survey config b ok)
    (λ s. no_both (ok e.device (entry_of (closure_of config b) e.value e.entry))
    ((survey_exact config b ok).0 s e.device e.descriptor e.value h.read _ h.listed)
    (is e.device _ ∙ ap not h.is_bad)))
survey-answer config b bad ok is None h =
    sym ((survey_exact config b ok).1
    (λ c o v r e l. is c e ∙ ap not (not-true (bad c e) (λ t. h c o v e r l t))))

-- and so is its number; and the other way round
pub number_of : (q : ℕ) (r : Option Finding) (t : Bool) → is_nothing r ≡ t → (finding_means q r).0 ≡ ask q t 0
number_of q (Some e) t h = ap (λ (b : Bool). ask q b 0) h
number_of q None t h = ap (λ (b : Bool). ask q b 0) h

pub nothing_of : (q : ℕ) (r : Option Finding) (t : Bool) → (finding_means (suc q) r).0 ≡ ask (suc q) t 0
    → is_nothing r ≡ t
nothing_of q (Some e) true h = absurd (omega arith)
nothing_of q (Some e) false h = refl
nothing_of q None true h = refl
nothing_of q None false h = absurd (omega arith)

module _ (config : Config) (b : State) where
  -- questions 19 and 21
  abbrev Crossing : ℕ → Entry → Bool
  Crossing c e = crossing config.objects.kind b c e.object

  pub crossing-answer : (q : ℕ) (r : Option Finding) → Answers (closure_of config b) Crossing r
      → (finding_means q r).0 ≡ ask q (confined config b) 0
  unfolding crossing
  crossing-answer q r h =
      number_of q r (confined config b)
      (survey-answer config b Crossing (λ c e. not (crosses config b c e)) (λ c e. refl) r h)

  pub crossing-entry : (q : ℕ) (r : Option Finding) → Answers (closure_of config b) Crossing r
      → IsCrossing config b (finding_means q r)
  unfolding crossing
  crossing-entry q (Some e) h = λ k.
      record { read = h.read; there = h.there; listed = h.listed; is_bad = h.is_bad }
  crossing-entry q None h = λ k. absurd (k refl)

  -- question 20
  module _ (table : List ℕ) (but : ℕ) where
    abbrev Naming : ℕ → Entry → Bool
    Naming c e = naming table but c e.object

    abbrev concerned : ℕ → Bool
    concerned o = eqb (get_or table o 0) 1

    de_morgan : (s t : Bool) → s || not t ≡ not (not s && t)
    de_morgan true t = refl
    de_morgan false t = refl

    pub naming-answer : (r : Option Finding) → Answers (closure_of config b) Naming r
        → (finding_means 20 r).0 ≡ ask 20 (unnamed config b concerned but) 0
    unfolding naming
    naming-answer r h =
        number_of 20 r (unnamed config b concerned but)
        (survey-answer config b Naming (λ c e. eqb c but || not (concerned e.object))
        (λ c e. de_morgan (eqb c but) (concerned e.object)) r h)

    pub naming-entry : (r : Option Finding) → Answers (closure_of config b) Naming r
        → IsNaming config b concerned but (finding_means 20 r)
    unfolding naming
    naming-entry (Some e) h = λ k.
        record { read = h.read; there = h.there; listed = h.listed; is_bad = h.is_bad }
    naming-entry None h = λ k. absurd (k refl)
