-- Request N1: the file of a configuration, and the questions that are put to a configuration before it is written.
use Rattle.std.specs.Prelude.{ℕ, zero, suc, ◌+◌, ◌*◌, ◌≤◌, ◌≡◌, List, [], ◌∷◌, ◌++◌}
use Rattle.std.specs.Prelude.{Bool, true, false, ◌&&◌, cond, length, get_or, drop, leb, eqb}
use Rattle.model.specs.Base.{all, any, every}
use Rattle.model.specs.Number.{bytes_of, bytes_to}
use Rattle.model.specs.Config.{
  most_drivers,
  most_devices,
  most_objects,
  most_values,
  most_entries,
  most_edition,
  most_serial,
  most_kind,
  most_class,
  most_mode,
  entry_bytes,
  entry_place,
  kind_of,
  class_of,
  owner_of,
  hardcoded_of,
  serial_of,
  entry_at,
}
use Rattle.model.specs.ConfigFile.{
  Row,
  done,
  field,
  absent,
  counts_row,
  object_row,
  device_row,
  value_row,
  entry_row,
  paired,
  restrained,
}
use Rattle.model.specs.declared.Counts.{Counts}
use Rattle.model.specs.declared.Objects.{Objects}
use Rattle.model.specs.declared.Devices.{Devices}
use Rattle.model.specs.declared.Values.{Values}
use Rattle.model.specs.declared.Config.{Config}
use Rattle.model.specs.Written.{Written}
use Rattle.model.specs.Written.{Length, Refused, Short}

-- N1: what stands for each of the n numbers after i, in the order of the file
unfoldable pub rows_from : {A : Type 0} → (ℕ → List A) → ℕ → ℕ → List A
rows_from g zero i = []
rows_from g (suc n) i = g (i + 1) ++ rows_from g n (i + 1)

-- document 01, 'Line file': the numbers of each row, as a configuration has them
abbrev pub counts_numbers : Counts → List ℕ
counts_numbers counts = counts.edition ∷ counts.drivers ∷ counts.devices ∷ counts.objects ∷ counts.values ∷ []

abbrev pub object_numbers : Objects → ℕ → List ℕ
object_numbers t o = get_or t.kind o 0 ∷ get_or t.class o 0 ∷ get_or t.owner o 0 ∷ []

abbrev pub device_numbers : Devices → ℕ → List ℕ
device_numbers t c = get_or t.hardcoded c 0 ∷ get_or t.serial c 0 ∷ []

abbrev pub entry_numbers : Values → ℕ → ℕ → List ℕ
entry_numbers t v j =
    get_or t.entries (entry_place v j) 0 ∷ get_or t.entries (entry_place v j + 1) 0
    ∷ get_or t.entries (entry_place v j + 2) 0 ∷ []

abbrev pub count_numbers : Values → ℕ → List ℕ
count_numbers t v = get_or t.count v 0 ∷ []

-- N1: a row with its numbers
pub record Filled : Type 0 where
  pub row : Row
  pub numbers : List ℕ

-- document 01, 'Line file': the rows of object o, of device c, of value v
abbrev pub object_rows : Counts → Objects → ℕ → List Filled
object_rows counts t o = record { row = object_row counts; numbers = object_numbers t o } ∷ []

abbrev pub device_rows : Counts → Devices → ℕ → List Filled
device_rows counts t c = record { row = device_row counts; numbers = device_numbers t c } ∷ []

abbrev pub entry_rows : Counts → List ℕ → Values → ℕ → ℕ → List Filled
entry_rows counts kinds t v j = record { row = entry_row counts kinds; numbers = entry_numbers t v j } ∷ []

abbrev pub value_rows : Counts → List ℕ → Values → ℕ → List Filled
value_rows counts kinds t v =
    record { row = value_row; numbers = count_numbers t v }
    ∷ rows_from (entry_rows counts kinds t v) (get_or t.count v 0) 0

-- N1: the rows of all objects, devices and values
abbrev pub object_table : Config → List Filled
object_table config = rows_from (object_rows config.counts config.objects) config.counts.objects 0

abbrev pub device_table : Config → List Filled
device_table config = rows_from (device_rows config.counts config.devices) config.counts.devices 0

abbrev pub value_table : Config → List Filled
value_table config =
    rows_from (value_rows config.counts config.objects.kind config.values) config.counts.values 0

-- document 01, 'Line file': the bytes of the numbers of a row, and of rows in order
unfoldable pub row_bytes : Row → List ℕ → List ℕ
row_bytes done vs = []
row_bytes (field low high rest) [] = []
row_bytes (field low high rest) (v ∷ vs) = bytes_of v ++ row_bytes (rest v) vs
row_bytes (absent rest) [] = []
row_bytes (absent rest) (v ∷ vs) = row_bytes rest vs

unfoldable pub rows_bytes : List Filled → List ℕ
rows_bytes [] = []
rows_bytes (r ∷ rs) = row_bytes r.row r.numbers ++ rows_bytes rs

-- N1: how long a row is at most in a file: edition and counts; an object, whose owner is a driver or a device; an entry
abbrev pub most_counts_bytes : ℕ
most_counts_bytes =
    bytes_to most_edition + bytes_to most_drivers + bytes_to most_devices + bytes_to most_objects + bytes_to most_values

abbrev pub most_object_bytes : ℕ
most_object_bytes = bytes_to most_kind + bytes_to most_class + bytes_to (most_drivers + most_devices)

abbrev pub most_entry_bytes : ℕ
most_entry_bytes = bytes_to most_objects + bytes_to most_mode + bytes_to most_values

-- N1: how long a value is at most in a file: its entry count, and its entries
abbrev pub most_value_bytes : ℕ
most_value_bytes = bytes_to most_entries + most_entry_bytes * most_entries

-- N1, N7: how long a device is at most in a file: its value number, and its serial
abbrev pub most_device_bytes : ℕ
most_device_bytes = bytes_to most_values + bytes_to most_serial

-- N1: how long a file is at most: edition and counts, objects, devices and values
abbrev pub most_written : ℕ
most_written =
    most_counts_bytes + most_object_bytes * most_objects + most_device_bytes * most_devices
    + most_value_bytes * most_values

-- N1: the file of a configuration
unfoldable pub file_of : Config → List ℕ
file_of config =
    row_bytes counts_row (counts_numbers config.counts)
    ++ (rows_bytes (object_table config) ++ (rows_bytes (device_table config) ++ rows_bytes (value_table config)))

-- question 3: the numbers of a row are in the ranges by which it is read
unfoldable pub in_row : Row → List ℕ → Bool
in_row done [] = true
in_row done (v ∷ vs) = false
in_row (field low high rest) [] = false
in_row (field low high rest) (v ∷ vs) = leb low v && leb v high && in_row (rest v) vs
in_row (absent rest) [] = false
in_row (absent rest) (v ∷ vs) = eqb v 0 && in_row rest vs

-- question 3 of a row with its numbers
abbrev pub right_row : Filled → Bool
right_row r = in_row r.row r.numbers

-- question 3 of every field, in the order of the file
unfoldable pub in_ranges : Config → Bool
in_ranges config =
    in_row counts_row (counts_numbers config.counts)
    && every config.counts.objects (λ o. all right_row (object_rows config.counts config.objects o))
    && every config.counts.devices (λ c. all right_row (device_rows config.counts config.devices c))
    && every config.counts.values
    (λ v. all right_row (value_rows config.counts config.objects.kind config.values v))

-- N1: the first of questions 3, 5 and 6 that a configuration answers with no, or 0
abbrev pub ask_first : ℕ → Bool → ℕ → ℕ
ask_first q true rest = rest
ask_first q false rest = q

unfoldable pub write_question : Config → ℕ
write_question config =
    ask_first 3 (in_ranges config) (ask_first 5 (paired config) (ask_first 6 (restrained config) 0))

-- N1: the answer of the writer to a configuration and an area of `room` bytes, and the area that it leaves
abbrev pub writing : ℕ → ℕ → ℕ → Written
writing zero needed room = cond (leb needed room) (Length needed) (Short needed)
writing (suc q) needed room = Refused (suc q)

unfoldable pub write_answer : Config → ℕ → Written
write_answer config room = writing (write_question config) (length (file_of config)) room

abbrev pub after_writing : Written → List ℕ → List ℕ → List ℕ
after_writing (Length n) file area = file ++ drop n area
after_writing (Refused q) file area = area
after_writing (Short n) file area = area

unfoldable pub write_area : Config → List ℕ → List ℕ
write_area config area = after_writing (write_answer config (length area)) (file_of config) area

-- N1: two configurations tell the same file
pub record SameFile (config other : Config) : Type 0 where
  pub counts : config.counts ≡ other.counts
  pub kind : (n : ℕ) → 1 ≤ n → n ≤ config.counts.objects → kind_of config n ≡ kind_of other n
  pub class : (n : ℕ) → 1 ≤ n → n ≤ config.counts.objects → class_of config n ≡ class_of other n
  pub owner : (n : ℕ) → 1 ≤ n → n ≤ config.counts.objects → owner_of config n ≡ owner_of other n
  pub hardcoded : (c : ℕ) → 1 ≤ c → c ≤ config.counts.devices → hardcoded_of config c ≡ hardcoded_of other c
  pub serial : (c : ℕ) → 1 ≤ c → c ≤ config.counts.devices
      → serial_of config c ≡ serial_of other c
  pub count : (v : ℕ) → 1 ≤ v → v ≤ config.counts.values
      → get_or config.values.count v 0 ≡ get_or other.values.count v 0
  pub entry : (v j : ℕ) → 1 ≤ v → v ≤ config.counts.values → 1 ≤ j → j ≤ get_or config.values.count v 0
      → entry_at config.values.entries (entry_place v j) ≡ entry_at other.values.entries (entry_place v j)

-- N1: the places of each column that numbers of the configuration name
abbrev pub places_to : ℕ → List ℕ
places_to n = rows_from (λ o. o ∷ []) n 0

abbrev pub entry_places : ℕ → ℕ → List ℕ
entry_places v j = entry_place v j ∷ (entry_place v j + 1) ∷ (entry_place v j + 2) ∷ []

abbrev pub value_places : List ℕ → ℕ → List ℕ
value_places count v = rows_from (entry_places v) (get_or count v 0) 0

abbrev pub table_places : List ℕ → ℕ → List ℕ
table_places count n = rows_from (value_places count) n 0

-- N1: a column of n bytes is 0 at every place that is not named
pub record ZeroBut (n : ℕ) (places : List ℕ) (column : List ℕ) : Type 0 where
  pub size : length column ≡ n
  pub zeros : (p : ℕ) → any (eqb p) places ≡ false → get_or column p 0 ≡ 0

-- N1: no byte that the file does not tell is other than 0, as in every configuration that is loaded
pub record Trimmed (config : Config) : Type 0 where
  pub kind : ZeroBut (suc most_objects) (places_to config.counts.objects) config.objects.kind
  pub class : ZeroBut (suc most_objects) (places_to config.counts.objects) config.objects.class
  pub owner : ZeroBut (suc most_objects) (places_to config.counts.objects) config.objects.owner
  pub hardcoded : ZeroBut (suc most_devices) (places_to config.counts.devices) config.devices.hardcoded
  pub serial : ZeroBut (suc most_devices) (places_to config.counts.devices) config.devices.serial
  pub count : ZeroBut (suc most_values) (places_to config.counts.values) config.values.count
  pub entries : ZeroBut (entry_bytes * suc (most_entries * suc most_values))
      (table_places config.values.count config.counts.values) config.values.entries
