-- Laws of the operation's definitions by cases, in the form in which the readers' proofs cite them.
-- Assumes nothing.
use Prim.Native.Nat.{ℕ, suc, ◌+◌, ◌-◌, ◌<◌, ◌≤◌}
use mathlib.Core.Path.{◌≡◌, refl, sym, ◌∙◌, subst}
use mathlib.Core.List.{List, ◌++◌, append_assoc}
use mathlib.Core.Bool.{Bool, true, false, cond, ◌&&◌, false≢true}
use native.Mathlib.Omega.{arith}
use lib.ListN.{length, take, drop}
use lib.Seq.{sets, sets-eq, drop-drop}
use Rattle.model.specs.State.{content_bytes}
use lib.Dec.{leb, ltb}
use borrow.Author.Tests.{leb-true}
use Rattle.model.specs.Number.{
  most_number,
  most_bytes,
  lead,
  value_of,
  shortest,
  formed_to,
  form_at,
  form_to,
  head_to,
  number_at,
  number_to,
}
use Rattle.model.specs.Operation.{read, refused, onward, and_then, turns}
use Rattle.model.specs.declared.Fault.{Fault}
use Rattle.model.specs.declared.Fault.TheVariants.{Cut, Form}
use Rattle.model.specs.Num.{Num}
use Rattle.model.specs.Num.{Got, Bad}
use Rattle.model.specs.declared.Operation.{Operation}
use Rattle.model.specs.Parse.{Parse}

-- a number that is read is at most the largest
right : (a b : Bool) → a && b ≡ true → b ≡ true
right true b h = h
right false b h = absurd (false≢true h)

abbrev Bounded : Num → Type 0
Bounded (Bad f) = Unit {0}
Bounded (Got v next) = v ≤ most_number

small_got : (t : Bool) (v next : ℕ) (f : Fault) → (t ≡ true → v ≤ most_number) → Bounded (cond t (Got v next) (Bad f))
small_got true v next f h = h refl
small_got false v next f h = tt

small_or : (t : Bool) (n : Num) (f : Fault) → Bounded n → Bounded (cond t n (Bad f))
small_or true n f h = h
small_or false n f h = tt

small_form : (at : ℕ) (t : List ℕ) (n : ℕ) → Bounded (form_at at t n)
unfolding form_to formed_to
small_form at t n =
    small_got (ltb n most_bytes && shortest t n && leb (value_of t n) most_number) (value_of t n) (at + n + 1) Form
    (λ h. leb-true (value_of t n) most_number
    (right (ltb n most_bytes && shortest t n) (leb (value_of t n) most_number) h))

small-number : (s : List ℕ) (at : ℕ) → Bounded (number_at s at)
unfolding number_to head_to
small-number s at =
    small_or (ltb (lead (drop at s)) (length (drop at s))) (form_at at (drop at s) (lead (drop at s))) Cut
    (small_form at (drop at s) (lead (drop at s)))

pub number_small : (s : List ℕ) (at : ℕ) {v next : ℕ} → number_at s at ≡ Got v next → v ≤ most_number
number_small s at e = subst Bounded e (small-number s at)

-- sixteen bytes put down in others
pub pasted : (raw : List ℕ) (to : ℕ) (v : List ℕ) → length v ≡ content_bytes → to + content_bytes ≤ length raw
    → take to raw ++ (v ++ drop (to + content_bytes - to) (drop to raw)) ≡ sets raw to v
pasted raw to v e h =
    let n : to + (to + content_bytes - to) ≡ to + length v = omega arith in
    rw (drop-drop, n, ← append_assoc) (sym (sets-eq v raw to (omega arith)))

-- a loop over n items, at item i: the item goes on, refuses, or all are read
module _ (f : ℕ → ℕ → Operation → Parse) (n i at : ℕ) (op : Operation) where
  turns_more : i < n → turns f (n - i) i at op ≡ and_then (f i at op) (turns f (n - (i + 1)) (i + 1))
  unfolding turns
  turns_more h =
      let e : n - i ≡ suc (n - (i + 1)) = omega arith in
      rw e

  pub turns_go : i < n → (next : ℕ) (more : Operation) → read next more ≡ f i at op
      → turns f (n - i) i at op ≡ turns f (n - (i + 1)) (i + 1) next more
  unfolding and_then onward read
  turns_go h next more e = turns_more h ∙ rw (← e)

  pub turns_stop : i < n → refused ≡ f i at op → refused ≡ turns f (n - i) i at op
  unfolding and_then onward refused
  turns_stop h e = sym (turns_more h ∙ rw (← e))

  pub turns_end : n ≤ i → turns f (n - i) i at op ≡ read at op
  unfolding turns
  turns_end h =
      let e : n - i ≡ 0 = omega arith in
      rw e

-- ---- what the check reads of a loop over items
pub ruleset turns_laws = (turns_go, turns_stop, turns_end)
