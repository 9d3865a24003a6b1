-- `sound::entries_all` meets its contract: the entries from i on pass exactly if all do. Assumes nothing.
use Prim.Native.Nat.{ℕ, ◌≤◌, ◌-◌, ◌+◌, ◌*◌}
use mathlib.Core.Bool.{Bool}
use mathlib.Core.Path.{◌≡◌}
use Rattle.model.specs.Config.{entry_bytes, Entry, entry_at}
use Rattle.sound.specs.Sound.{far_place, all_from}
use Rattle.sound.proofs.entries_all.Given as goal

abbrev pub invariant-loop-i : goal.invariant-loop-i
invariant-loop-i g l =
    (p : Entry → Bool)
    → ((at : ℕ) (r : Bool) → at ≤ far_place → goal.F-post g l.passes at r → r ≡ p (entry_at l.values.entries at))
    → all_from p l.values.entries (l.from + entry_bytes * l.i) (l.k - l.i) ≡ all_from p l.values.entries l.from l.k
