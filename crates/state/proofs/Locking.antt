-- Question 9, the locks of devices: where all their bytes are 0, all are right.
use Prim.Native.Nat.{ℕ, ◌+◌, ◌-◌, ◌≤◌}
use mathlib.Core.Path.{◌≡◌, sym, ap, ◌∙◌}
use mathlib.Core.List.{List}
use native.Mathlib.Omega.{arith}
use lib.ListN.{get_or}
use lib.Dec.{eqb}
use borrow.Author.Tests.{eq-eqb}
use Rattle.std.specs.Int.{w128, from_le_bytes}
use Rattle.model.specs.Config.{most_devices}
use Rattle.model.specs.State.{content_bytes, locks_from, lock_place, right_lock, view}
use Rattle.model.specs.declared.Config.{Config}
use Rattle.model.proofs.Lists.{every_intro}
use Rattle.model.proofs.StateBytes.{lock_byte}
use Rattle.state.specs.Splice.{part}
use Rattle.state.specs.Formed.{locks_right}
use Rattle.state.proofs.Words.{number_zero}

-- where all sixteen bytes are 0 there is none
pub locks_zero : (room : ℕ) (config : Config) (s c : List ℕ) (w : ℕ) → c ≡ part s (locks_from room) content_bytes
    → w ≡ from_le_bytes w128 c → w ≡ 0 → eqb w 0 ≡ locks_right config (view room s)
unfolding locks_right
locks_zero room config s c w f e z =
    eq-eqb w 0 z ∙ sym (every_intro most_devices (λ c. right_lock config (view room s) c) λ c l k.
    let a : get_or s (locks_from room + (c - 1)) 0 ≡ 0 = number_zero s (locks_from room) here (c - 1) (omega arith) in
    let q : get_or s (lock_place room c) 0 ≡ 0 = ap (λ (x : ℕ). get_or s x 0) (place c l) ∙ a in
    rw (lock_byte room s c l k ∙ q))
  where
    here : from_le_bytes w128 (part s (locks_from room) content_bytes) ≡ 0
    here = ap (from_le_bytes w128) (sym f) ∙ (sym e ∙ z)

    place : (c : ℕ) → 1 ≤ c → lock_place room c ≡ locks_from room + (c - 1)
    place c l = omega arith
