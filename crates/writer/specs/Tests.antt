-- Question 3 of a serial.
use Rattle.std.specs.Prelude.{ℕ, cond, leb}
use Rattle.model.specs.Config.{serial_edition, most_serial}

-- request N7: the largest serial of an edition; in one that has no serials, each is 0
unfoldable pub serial_most : ℕ → ℕ
serial_most edition = cond (leb serial_edition edition) most_serial 0
