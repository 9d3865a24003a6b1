-- A configuration with other devices: other hardcoded values and other serials. How many devices there are stands among
-- the counts, and stays.
use Rattle.model.specs.declared.Devices.{Devices}
use Rattle.model.specs.declared.Config.{Config}

abbrev pub with_devices : Devices → Config → Config
with_devices d config = record config { devices = d }
