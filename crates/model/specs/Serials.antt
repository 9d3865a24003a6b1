-- Request N7: configurations that differ in edition and serials alone.
use Rattle.std.specs.Prelude.{ℕ, ◌≡◌, List}
use Rattle.model.specs.declared.Config.{Config}

-- a configuration with another edition and other serials
abbrev pub marked : Config → ℕ → List ℕ → Config
marked config edition serials =
    record {
      counts = record {
        edition = edition;
        drivers = config.counts.drivers;
        devices = config.counts.devices;
        objects = config.counts.objects;
        values = config.counts.values;
      };
      objects = config.objects;
      devices = record { hardcoded = config.devices.hardcoded; serial = serials };
      values = config.values;
    }

-- two that differ in these alone
abbrev pub Marked : Config → Config → Type 0
Marked config other = (edition : ℕ) × (serials : List ℕ) × (other ≡ marked config edition serials)
