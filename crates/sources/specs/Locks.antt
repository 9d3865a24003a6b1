-- Document 02, N6: a device that is locked stays in no partition.
use Rattle.std.specs.Prelude.{ℕ, ◌≡◌, List, true}
use Rattle.model.specs.State.{device_in, lock_of}
use Rattle.model.specs.Closure.{Reads}
use Rattle.model.specs.Operation.{lock_code, read_operation}
use Rattle.sources.specs.Gate.{Source, config_of, fresh_on, operate_on}
use Rattle.model.specs.Separation.{Call, after_call, operations_of}
use Rattle.sources.specs.Separation.{answers_of, area_after, final}
use Rattle.model.specs.Locks.{KeptOut}

-- document 02, N6: what holds of device c after a list of calls
pub record LockedOut (source : Source) (area : List ℕ) (calls : List Call) (c : ℕ) : Type 0 where
  -- it is in no partition, and no entry in the closure is its
  pub outside : device_in (final source area calls) c ≡ 0
  pub no_entry : (o v : ℕ) → Reads (config_of source) true (final source area calls) c o v → ⊥
  -- nor does any list of calls from there bring it in before its lock is off
  pub later : (more : List Call) → KeptOut (config_of source) (final source area calls) c (operations_of more)
      (answers_of source (area_after source area calls) more)

-- document 02, N6: for every list of calls from a fresh state, and every device whose lock is 1 in the plain book
-- after it
abbrev pub LocksOutOn : Source → Type 0
LocksOutOn source =
    (area : List ℕ) → (fresh_on source area).0 ≡ 0 → (calls : List Call) (c : ℕ)
    → lock_of (final source (fresh_on source area).1 calls) c ≡ 1
    → LockedOut source (fresh_on source area).1 calls c

-- document 02, N6: from an accepted lock on, up to the next accepted unlock of the same device
abbrev pub LockedSinceOn : Source → Type 0
LockedSinceOn source =
    (area : List ℕ) → (fresh_on source area).0 ≡ 0 → (calls : List Call) (bytes answer : List ℕ)
    → (operate_on source (area_after source (fresh_on source area).1 calls) bytes answer).0 ≡ 0
    → (read_operation bytes).1.code ≡ lock_code → (more : List Call)
    → KeptOut (config_of source) (after_call (config_of source) (final source (fresh_on source area).1 calls) bytes 0)
    (read_operation bytes).1.subject (operations_of more)
    (answers_of source (operate_on source (area_after source (fresh_on source area).1 calls) bytes answer).1 more)
