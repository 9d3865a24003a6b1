-- What the tests of the questions say of a configuration, a state and an operation.
use Prim.Native.Nat.{ℕ, ◌≤◌}
use mathlib.Core.Path.{◌≡◌}
use mathlib.Core.Logic.{◌⊎◌, inl, inr}
use mathlib.Core.Bool.{true}
use native.Mathlib.Omega.{arith}
use lib.Dec.{leb, eqb}
use borrow.Author.Tests.{eqb-true, le-leb}
use Rattle.model.specs.Config.{from1to}
use Rattle.model.specs.State.{
  State,
  object_in,
  content_of,
  existing,
  assigned,
  with_owner,
  right_place,
  right_content,
  right_object,
  well_formed,
}
use Rattle.model.specs.declared.Config.{Config}
use Rattle.model.proofs.Lists.{and_l, and_r, or_true, from1to-low, from1to-high, every_at}
use Rattle.model.proofs.Facts.{cond_true}

-- a well formed state has owned objects with their owners
right-object : (room : ℕ) (config : Config) (b : State) → well_formed room config b ≡ true → (n : ℕ) → 1 ≤ n → n ≤ room
    → right_object config b n ≡ true
unfolding well_formed
right-object room config b h n low high = every_at room (λ n. right_object config b n) (search (and_l, and_r)) n low
    high

-- an active object is in a partition that exists
pub place_exists : (room : ℕ) (config : Config) → config.counts.objects ≤ room → (b : State)
    → well_formed room config b ≡ true → (n : ℕ) → from1to n config.counts.objects ≡ true → (object_in b n ≡ 0 → ⊥)
    → existing b (object_in b n) ≡ true
place_exists room config fits b h n x some =
    let low = from1to-low n config.counts.objects x in
    let high = from1to-high n config.counts.objects x in
    go (or_true (and_l (assigned b (object_in b n)) (with_owner config b n)
    (cond_true (leb n config.counts.objects) _ _
    (and_l (right_place config b n) (right_content config n (content_of b n))
    (right-object room config b h n low (omega (arith, fits))))
    (le-leb n config.counts.objects high))))
  where
    go : (eqb (object_in b n) 0 ≡ true) ⊎ (existing b (object_in b n) ≡ true) → existing b (object_in b n) ≡ true
    go (inl z) = absurd (some (eqb-true (object_in b n) 0 z))
    go (inr k) = k
