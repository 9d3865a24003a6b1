-- Document 02, N6: a device that is locked stays in no partition.
use Rattle.std.specs.Prelude.{ℕ, ◌≡◌, List, [], ◌∷◌, Bool, true, false, ◌&&◌, eqb}
use Rattle.model.specs.ConfigFile.{load}
use Rattle.model.specs.State.{State, device_in, lock_of}
use Rattle.model.specs.Closure.{Reads}
use Rattle.model.specs.Operation.{lock_code, unlock_code, read_operation}
use Rattle.model.specs.Gate.{make_fresh, operate}
use Rattle.model.specs.Separation.{Call, answers_of, area_after, after_call, operations_of, final}
use Rattle.model.specs.declared.Config.{Config}

-- document 02, N6: an operation, answered n, that takes the lock off device c
abbrev pub unlocks : List ℕ → ℕ → ℕ → Bool
unlocks bytes n c =
    eqb n 0 && eqb (read_operation bytes).1.code unlock_code && eqb (read_operation bytes).1.subject c

-- document 02, N6: device c is in no partition after each call of a list, up to the first that takes its lock off
abbrev pub KeptOut : Config → State → ℕ → List (List ℕ) → List ℕ → Type 0
KeptOut config b c [] ns = Unit {0}
KeptOut config b c (t ∷ ts) [] = Unit {0}
KeptOut config b c (t ∷ ts) (n ∷ ns) =
    (device_in (after_call config b t n) c ≡ 0)
    × (unlocks t n c ≡ false → KeptOut config (after_call config b t n) c ts ns)

-- document 02, N6: what holds of device c after a list of calls
pub record LockedOut (file : List ℕ) (config : Config) (area : List ℕ) (calls : List Call) (c : ℕ) : Type 0 where
  -- it is in no partition, and no entry in the closure is its
  pub outside : device_in (final file config area calls) c ≡ 0
  pub no_entry : (o v : ℕ) → Reads config true (final file config area calls) c o v → ⊥
  -- nor does any list of calls from there bring it in before its lock is off
  pub later : (more : List Call) → KeptOut config (final file config area calls) c (operations_of more)
      (answers_of file (area_after file area calls) more)

-- document 02, N6: for every list of calls from a fresh state, and every device whose lock is 1 in the plain book
-- after it
abbrev pub LocksOut : Type 0
LocksOut =
    (file area : List ℕ) → (make_fresh file area).0 ≡ 0 → (calls : List Call) (c : ℕ)
    → lock_of (final file (load file).config (make_fresh file area).1 calls) c ≡ 1
    → LockedOut file (load file).config (make_fresh file area).1 calls c

-- document 02, N6: from an accepted lock on, up to the next accepted unlock of the same device
abbrev pub LockedSince : Type 0
LockedSince =
    (file area : List ℕ) → (make_fresh file area).0 ≡ 0 → (calls : List Call) (bytes answer : List ℕ)
    → (operate file (area_after file (make_fresh file area).1 calls) bytes answer).0 ≡ 0
    → (read_operation bytes).1.code ≡ lock_code → (more : List Call)
    → KeptOut (load file).config
    (after_call (load file).config (final file (load file).config (make_fresh file area).1 calls) bytes 0)
    (read_operation bytes).1.subject (operations_of more)
    (answers_of file (operate file (area_after file (make_fresh file area).1 calls) bytes answer).1 more)
