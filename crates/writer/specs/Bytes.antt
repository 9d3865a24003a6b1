-- The bytes of a configuration's file group by group. proofs/Putting has that they are the model's.
use Rattle.std.specs.Prelude.{ℕ, ◌+◌, ◌*◌, List, [], ◌++◌, cond, get_or, leb}
use Rattle.model.specs.Number.{most_bytes, bytes_of}
use Rattle.model.specs.Config.{most_devices, most_objects, most_values, most_entries, serial_edition, entry_place}
use Rattle.model.specs.ConfigWrite.{rows_from}
use Rattle.model.specs.declared.Objects.{Objects}
use Rattle.model.specs.declared.Devices.{Devices}
use Rattle.model.specs.declared.Values.{Values}

-- how long a value is at most, and a file, whatever numbers stand in the columns: as long as each can be
abbrev pub any_value_bytes : ℕ
any_value_bytes = most_bytes * (1 + 3 * most_entries)

abbrev pub any_file_bytes : ℕ
any_file_bytes = most_bytes * (5 + 3 * most_objects + 2 * most_devices) + any_value_bytes * most_values

-- three numbers, one after the other
unfoldable pub three : ℕ → ℕ → ℕ → List ℕ
three a b c = bytes_of a ++ (bytes_of b ++ bytes_of c)

-- kind, class and owner of object o
unfoldable pub object_bytes : Objects → ℕ → List ℕ
object_bytes t o = three (get_or t.kind o 0) (get_or t.class o 0) (get_or t.owner o 0)

-- request N7: a value number and, in an edition that has serials, a serial
unfoldable pub with_serial : ℕ → ℕ → ℕ → List ℕ
with_serial edition number serial = bytes_of number ++ cond (leb serial_edition edition) (bytes_of serial) []

-- value number and serial of device c
unfoldable pub device_bytes : ℕ → Devices → ℕ → List ℕ
device_bytes edition t c = with_serial edition (get_or t.hardcoded c 0) (get_or t.serial c 0)

-- entry j, from 1, of value v
unfoldable pub entry_bytes_of : Values → ℕ → ℕ → List ℕ
entry_bytes_of t v j =
    three (get_or t.entries (entry_place v j) 0) (get_or t.entries (entry_place v j + 1) 0)
    (get_or t.entries (entry_place v j + 2) 0)

-- value v: its entry count, and then its entries
unfoldable pub value_bytes : Values → ℕ → List ℕ
value_bytes t v = bytes_of (get_or t.count v 0) ++ rows_from (entry_bytes_of t v) (get_or t.count v 0) 0
