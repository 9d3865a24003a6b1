-- The counts of a configuration are within its columns.
use Rattle.std.specs.Prelude.{◌≤◌}
use Rattle.model.specs.Config.{most_drivers, most_devices, most_objects, most_values}
use Rattle.model.specs.declared.Counts.{Counts}

pub record Within (counts : Counts) : Type 0 where
  pub drivers : counts.drivers ≤ most_drivers
  pub devices : counts.devices ≤ most_devices
  pub objects : counts.objects ≤ most_objects
  pub values : counts.values ≤ most_values
