-- Document 02, N6: state areas as they were before there were locks.
use Rattle.std.specs.Prelude.{ℕ, ◌+◌, ◌*◌, List, ◌++◌, Bool, ◌&&◌, drop, replicate, leb, eqb}
use Rattle.model.specs.Base.{all, every}
use Rattle.model.specs.Config.{most_drivers, most_devices}
use Rattle.model.specs.State.{
  partition_count,
  record_bytes,
  green_status,
  State,
  status_of,
  driver_in,
  device_in,
  window,
  partitions_in,
  contents_in,
  drivers_from,
  devices_from,
  records_from,
  object_records,
  right_object,
  right_assignment,
}
use Rattle.model.specs.declared.Config.{Config}

-- the locks that an older area becomes a new one by
abbrev pub no_locks : List ℕ
no_locks = replicate most_devices 0

-- the length of an older area with `room` object records
abbrev pub older_length : ℕ → ℕ
older_length room = records_from + record_bytes * room

-- the columns that it shows, without a lock
unfoldable pub older_view : ℕ → List ℕ → State
older_view room s =
    record {
      status = window partition_count s;
      driver = window most_drivers (drop drivers_from s);
      device = window most_devices (drop devices_from s);
      object = partitions_in room (drop records_from s);
      content = contents_in room (drop records_from s);
      lock = no_locks;
    }

unfoldable pub older_layout : State → List ℕ
older_layout b = b.status ++ (b.driver ++ (b.device ++ object_records b.object b.content))

-- question 9 by the older rules
unfoldable pub older_formed : ℕ → Config → State → Bool
older_formed room config b =
    eqb (status_of b 0) 0 && all (λ s. leb s green_status) b.status
    && every most_drivers (λ d. right_assignment b config.counts.drivers d (driver_in b d))
    && every most_devices (λ c. right_assignment b config.counts.devices c (device_in b c))
    && every room (λ n. right_object config b n)
