-- Document 02, N5: what it means that the rule of green zones (question 22) and the stricter question 20 say no.
use Prim.Native.Nat.{ℕ, ◌<◌}
use mathlib.Core.Path.{◌≡◌, refl, sym, ap, ◌∙◌}
use mathlib.Core.Logic.{◌⊎◌, inl, inr, ◌↔◌}
use mathlib.Core.List.{Memᴰ}
use mathlib.Core.Bool.{Bool, true, false, not, ◌&&◌, ◌||◌, true≢false, false≢true}
use lib.Dec.{eqb}
use borrow.Author.Tests.{eqb-true, eqb-false, eq-eqb, ne_eqb}
use Rattle.model.specs.Base.{all, every, below}
use Rattle.model.specs.Config.{kind_of, from1to, descriptor, Entry, writes, entries}
use Rattle.model.specs.State.{State, green, object_in, held}
use Rattle.model.specs.Operation.{object_at, second_at}
use Rattle.model.specs.Effect.{concerned}
use Rattle.model.specs.Questions.{is_kind, lets_go, quiet_entry, green_entry, green_value, green_item}
use Rattle.model.specs.Demand2.{StoresValue, WritesDescriptor, BreaksRule}
use Rattle.model.specs.declared.Family.{Family}
use Rattle.model.specs.declared.Family.TheVariants.{
  Write,
  Copy,
  Create,
  Destroy,
  Activate,
  Deactivate,
  Lock,
  Unlock,
}
use Rattle.model.specs.declared.Actor.{Actor}
use Rattle.model.specs.declared.Config.{Config}
use Rattle.model.specs.declared.Operation.{Operation}
use Rattle.model.proofs.Lists.{
  and_l,
  both_true,
  no_both,
  not-true,
  from1to-low,
  from1to-high,
  every_at,
  every_fails,
  below_at,
  below_fails,
  all_mem,
  all-fails,
}

pub not-false : (t : Bool) → not t ≡ false → t ≡ true
not-false true h = refl
not-false false h = sym h

module _ (config : Config) where
  -- an entry writes a kind 1 object exactly if it is not a quiet one
  pub loud_entry : (e : Entry) → (quiet_entry config e ≡ false) ↔ WritesDescriptor config e
  loud_entry e = (
    (λ h. let q = split (is_kind config 1 e.object) (writes e) h in
        (eqb-true (kind_of config e.object) 1 q.0, q.1)),
    λ q. joined (is_kind config 1 e.object) (writes e) (eq-eqb (kind_of config e.object) 1 q.0) q.1,
  )
    where
      split : (s t : Bool) → not s || not t ≡ false → (s ≡ true) × (t ≡ true)
      split true t h = (refl, not-false t h)
      split false t h = absurd (true≢false h)

      joined : (s t : Bool) → s ≡ true → t ≡ true → not s || not t ≡ false
      joined true t h k = ap not k
      joined false t h k = absurd (false≢true h)

  module _ (b : State) (p : ℕ) where
    -- an entry breaks the rule of zone p exactly if it is not a green one
    breaking_entry : (e : Entry) → (green_entry config b p e ≡ false) ↔ BreaksRule config b p e
    breaking_entry e = (λ h. to (split at hard (quiet_entry config e) h), from)
      where
        at : Bool
        at = eqb (object_in b e.object) p

        hard : Bool
        hard = is_kind config 4 e.object

        split : (s t u : Bool) → s && not t && u ≡ false → (s ≡ false) ⊎ ((t ≡ true) ⊎ (u ≡ false))
        split true true u h = inr (inl refl)
        split true false u h = inr (inr h)
        split false t u h = inl refl

        to : (at ≡ false) ⊎ ((hard ≡ true) ⊎ (quiet_entry config e ≡ false)) → BreaksRule config b p e
        to (inl h) = inl (eqb-false (object_in b e.object) p h)
        to (inr (inl h)) = inr (inl (eqb-true (kind_of config e.object) 4 h))
        to (inr (inr h)) = inr (inr ((loud_entry e).0 h))

        elsewhere : (s t u : Bool) → s ≡ false → s && not t && u ≡ false
        elsewhere true t u h = absurd (true≢false h)
        elsewhere false t u h = refl

        hardwired : (s t u : Bool) → t ≡ true → s && not t && u ≡ false
        hardwired true true u h = refl
        hardwired true false u h = absurd (false≢true h)
        hardwired false t u h = refl

        loud : (s t u : Bool) → u ≡ false → s && not t && u ≡ false
        loud true true u h = refl
        loud true false u h = h
        loud false t u h = refl

        from : BreaksRule config b p e → green_entry config b p e ≡ false
        from (inl h) = elsewhere at hard (quiet_entry config e) (ne_eqb (object_in b e.object) p h)
        from (inr (inl h)) = hardwired at hard (quiet_entry config e) (eq-eqb (kind_of config e.object) 4 h)
        from (inr (inr h)) = loud at hard (quiet_entry config e) ((loud_entry e).1 h)

    value_no : (v : ℕ) → (green_value config b p v ≡ false)
        ↔ ((e : Entry) × Memᴰ e (entries config v) × BreaksRule config b p e)
    value_no v = (
      (λ h. let (e, m, k) = all-fails (green_entry config b p) (entries config v) h in
          (e, m, (breaking_entry e).0 k)),
      λ q. let (e, m, k) = q in
          not-true (green_value config b p v)
          (λ h. no_both (green_entry config b p e) (all_mem (green_entry config b p) m h) ((breaking_entry e).1 k)),
    )

    module _ (op : Operation) where
      -- item i stores a value with an entry that breaks the rule
      abbrev ItemBreaks : Family → ℕ → Type 0
      ItemBreaks f i =
          (v : ℕ) × (e : Entry) × StoresValue config b op f i v × Memᴰ e (entries config v)
          × BreaksRule config b p e

      item_no : (f : Family) (i : ℕ) → green_item config b op f p i ≡ false → ItemBreaks f i
      item_no Write i h =
          let q = wrote (is_kind config 1 (object_at op i)) _ h in
          let (e, m, k) = (value_no (second_at op i)).0 q.1 in
          (second_at op i, e, (eqb-true (kind_of config (object_at op i)) 1 q.0, refl), m, k)
        where
          wrote : (s t : Bool) → not s || t ≡ false → (s ≡ true) × (t ≡ false)
          wrote true t h = (refl, h)
          wrote false t h = absurd (true≢false h)
      item_no Copy i h =
          let q = copied (eqb (second_at op i) 0) (is_kind config 1 (second_at op i)) _ h in
          let (e, m, k) = (value_no (held b (object_at op i))).0 q.2 in (
            held b (object_at op i),
            e,
            (eqb-false (second_at op i) 0 q.0, eqb-true (kind_of config (second_at op i)) 1 q.1, refl),
            m,
            k,
          )
        where
          copied : (s t u : Bool) → s || not t || u ≡ false → (s ≡ false) × (t ≡ true) × (u ≡ false)
          copied true t u h = absurd (true≢false h)
          copied false true u h = (refl, refl, h)
          copied false false u h = absurd (true≢false h)
      item_no Create i h = absurd (true≢false h)
      item_no Destroy i h = absurd (true≢false h)
      item_no Activate i h = absurd (true≢false h)
      item_no Deactivate i h = absurd (true≢false h)
      item_no Lock i h = absurd (true≢false h)
      item_no Unlock i h = absurd (true≢false h)

      item_breaks : (f : Family) (i : ℕ) → ItemBreaks f i → green_item config b op f p i ≡ false
      item_breaks Write i (v, e, s, m, k) =
          stored (is_kind config 1 (object_at op i)) _ (eq-eqb (kind_of config (object_at op i)) 1 s.0)
          (ap (green_value config b p) s.1) ((value_no v).1 (e, m, k))
        where
          stored : (s t : Bool) {u : Bool} → s ≡ true → t ≡ u → u ≡ false → not s || t ≡ false
          stored true t h j k = j ∙ k
          stored false t h j k = absurd (false≢true h)
      item_breaks Copy i (v, e, s, m, k) =
          stored (eqb (second_at op i) 0) (is_kind config 1 (second_at op i)) _ (ne_eqb (second_at op i) 0 s.0)
          (eq-eqb (kind_of config (second_at op i)) 1 s.1) (ap (green_value config b p) s.2)
          ((value_no v).1 (e, m, k))
        where
          stored : (r s t : Bool) {u : Bool} → r ≡ false → s ≡ true → t ≡ u → u ≡ false → r || not s || t ≡ false
          stored true s t g h j k = absurd (true≢false g)
          stored false true t g h j k = j ∙ k
          stored false false t g h j k = absurd (false≢true h)
      item_breaks Create i (v, e, s, m, k) = absurd s
      item_breaks Destroy i (v, e, s, m, k) = absurd s
      item_breaks Activate i (v, e, s, m, k) = absurd s
      item_breaks Deactivate i (v, e, s, m, k) = absurd s
      item_breaks Lock i (v, e, s, m, k) = absurd s
      item_breaks Unlock i (v, e, s, m, k) = absurd s

      -- question 22 says no of the items exactly if one of them breaks the rule
      pub items_no : (f : Family) → (below op.count (green_item config b op f p) ≡ false)
          ↔ ((i v : ℕ) × (e : Entry) × (i < op.count) × StoresValue config b op f i v
          × Memᴰ e (entries config v) × BreaksRule config b p e)
      items_no f = (
        (λ h. let (i, l, k) = below_fails op.count (green_item config b op f p) (ap not h) in
            let (v, e, s, m, r) = item_no f i k in (i, v, e, l, s, m, r)),
        λ q. let (i, v, e, l, s, m, r) = q in
            not-true (below op.count (green_item config b op f p))
            (λ h. no_both (green_item config b op f p i) (below_at op.count (green_item config b op f p) h i l)
            (item_breaks f i (v, e, s, m, r))),
      )

-- a descriptor that stays in a green zone holds a value with an entry that names an object that leaves this zone
abbrev pub Clinging : Config → State → Operation → Actor → Type 0
Clinging config b op a =
    (n : ℕ) × (e : Entry) × (descriptor config n ≡ true) × (green b (object_in b n) ≡ true)
    × (concerned config op a n ≡ false) × Memᴰ e (entries config (held b n))
    × (concerned config op a e.object ≡ true) × (object_in b e.object ≡ object_in b n)

module _ (config : Config) (b : State) (op : Operation) (a : Actor) where
  abbrev lets_entry : ℕ → Entry → Bool
  lets_entry n e = not (concerned config op a e.object && eqb (object_in b e.object) (object_in b n))

  clings : (n : ℕ) → lets_go config b (concerned config op a) n ≡ false → Clinging config b op a
  clings n h =
      let q = parts (descriptor config n) (green b (object_in b n)) (concerned config op a n) _ h in
      let (e, m, k) = all-fails (lets_entry n) (entries config (held b n)) q.3 in
      let r = named (concerned config op a e.object) (eqb (object_in b e.object) (object_in b n)) k in
      (n, e, q.0, q.1, q.2, m, r.0, eqb-true (object_in b e.object) (object_in b n) r.1)
    where
      parts : (s t u w : Bool) → not (s && t) || u || w ≡ false
          → (s ≡ true) × (t ≡ true) × (u ≡ false) × (w ≡ false)
      parts true true false w h = (refl, refl, refl, h)
      parts true true true w h = absurd (true≢false h)
      parts true false u w h = absurd (true≢false h)
      parts false t u w h = absurd (true≢false h)

      named : (s t : Bool) → not (s && t) ≡ false → (s ≡ true) × (t ≡ true)
      named true true h = (refl, refl)
      named true false h = absurd (true≢false h)
      named false t h = absurd (true≢false h)

  pub lets_no : (every config.counts.objects (lets_go config b (concerned config op a)) ≡ false)
      ↔ Clinging config b op a
  lets_no = (
    (λ h. let (n, low, high, k) =
        every_fails config.counts.objects (lets_go config b (concerned config op a)) h in clings n k),
    λ q. let (n, e, d, g, s, m, k, i) = q in
        let x : from1to n config.counts.objects ≡ true = search and_l in
        not-true (every config.counts.objects (lets_go config b (concerned config op a)))
        (λ h. broken (descriptor config n && green b (object_in b n)) (concerned config op a n)
        (all (lets_entry n) (entries config (held b n))) (both_true d g) s
        (every_at config.counts.objects (lets_go config b (concerned config op a)) h n
        (from1to-low n config.counts.objects x) (from1to-high n config.counts.objects x))
        (λ t. entry (concerned config op a e.object) (eqb (object_in b e.object) (object_in b n)) k
        (eq-eqb (object_in b e.object) (object_in b n) i) (all_mem (lets_entry n) m t))),
  )
    where
      broken : (s u w : Bool) → s ≡ true → u ≡ false → not s || u || w ≡ true → (w ≡ true → ⊥) → ⊥
      broken true true w h k r f = true≢false k
      broken true false w h k r f = f r
      broken false u w h k r f = false≢true h

      entry : (s t : Bool) → s ≡ true → t ≡ true → not (s && t) ≡ true → ⊥
      entry true true h k r = false≢true r
      entry true false h k r = false≢true k
      entry false t h k r = false≢true h
