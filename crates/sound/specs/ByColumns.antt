-- Question 6 by the columns that it looks at. proofs/ByColumns has that it is the model's.
use Rattle.std.specs.Prelude.{ℕ, List, Bool, not, ◌&&◌, get_or, eqb}
use Rattle.model.specs.Config.{from1to, Entry}
use Rattle.model.specs.declared.Counts.{Counts}
use Rattle.sound.specs.Sound.{every_to, value_passes}

-- the hardcoded value of device c may name object o, with n objects
unfoldable pub may_name : List ℕ → List ℕ → List ℕ → ℕ → ℕ → ℕ → Bool
may_name kind class owner n c o =
    (from1to o n && eqb (get_or class o 0) 2 && eqb (get_or owner o 0) c) && not (eqb (get_or kind o 0) 4)

unfoldable pub entry_passes : List ℕ → List ℕ → List ℕ → ℕ → ℕ → Entry → Bool
entry_passes kind class owner n c e = may_name kind class owner n c e.object

-- the hardcoded value of device c passes, with n objects
unfoldable pub device_restrained : ℕ → List ℕ → List ℕ → List ℕ → List ℕ → List ℕ → List ℕ → ℕ → Bool
device_restrained n kind class owner hardcoded count table c =
    value_passes (entry_passes kind class owner n c) count table (get_or hardcoded c 0)

-- question 6, with these counts
unfoldable pub restrained_by : Counts → List ℕ → List ℕ → List ℕ → List ℕ → List ℕ → List ℕ → Bool
restrained_by counts kind class owner hardcoded count table =
    every_to counts.devices (device_restrained counts.objects kind class owner hardcoded count table)
