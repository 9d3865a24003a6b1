-- One place of a state changed, and a configuration of which only what a state needs is known.
use Rattle.std.specs.Prelude.{ℕ, List, [], set}
use Rattle.model.specs.Base.{put}
use Rattle.model.specs.State as Columns
use Rattle.model.specs.State.{State}
use Rattle.model.specs.declared.Counts.{Counts}
use Rattle.model.specs.declared.Config.{Config}

-- the status of partition p, or the partition of driver d, device c or object n, or its contents, or the lock of c
unfoldable pub with_status : State → ℕ → ℕ → State
with_status b p v = Columns.with_status b (set b.status p v)

unfoldable pub with_driver : State → ℕ → ℕ → State
with_driver b d p = Columns.with_driver b (put b.driver d p)

unfoldable pub with_device : State → ℕ → ℕ → State
with_device b c p = Columns.with_device b (put b.device c p)

unfoldable pub with_object : State → ℕ → ℕ → State
with_object b n p = Columns.with_object b (put b.object n p)

unfoldable pub with_content : State → ℕ → List ℕ → State
with_content b n c = Columns.with_content b (put b.content n c)

unfoldable pub with_lock : State → ℕ → ℕ → State
with_lock b c v = Columns.with_lock b (put b.lock c v)

-- the configuration with these counts and columns, and no values; edition and serials are not looked at
unfoldable pub objects_lent : ℕ → ℕ → List ℕ → List ℕ → List ℕ → List ℕ → Config
objects_lent objects values kind class owner hardcoded =
    record {
      counts = record { edition = 0; drivers = 0; devices = 0; objects = objects; values = values };
      objects = record { kind = kind; class = class; owner = owner };
      devices = record { hardcoded = hardcoded; serial = [] };
      values = record { count = []; entries = [] };
    }

-- the same with all counts
unfoldable pub lent : Counts → List ℕ → List ℕ → List ℕ → List ℕ → Config
lent counts kind class owner hardcoded =
    record {
      counts = counts;
      objects = record { kind = kind; class = class; owner = owner };
      devices = record { hardcoded = hardcoded; serial = [] };
      values = record { count = []; entries = [] };
    }
