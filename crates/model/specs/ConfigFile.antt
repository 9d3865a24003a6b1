-- Document 01, 'Line file' and questions 1 to 6: the configuration that a file tells, or the first refusal.
use Rattle.std.specs.Prelude.{ℕ, zero, suc, ◌+◌, List, [], ◌∷◌, Bool, true, false}
use Rattle.std.specs.Prelude.{not, cond, ◌&&◌, ◌||◌, length, get_or, set, leb, eqb}
use Rattle.model.specs.Base.{all, every}
use Rattle.model.specs.Number.{most_number, number_to}
use Rattle.model.specs.Config.{
  most_drivers,
  most_devices,
  most_values,
  most_entries,
  serial_edition,
  most_serial,
  Limits,
  latest,
  most_kind,
  most_class,
  most_mode,
  entry_place,
  blank_objects,
  blank_devices,
  blank_values,
  blank,
  kind_of,
  class_of,
  hardcoded_of,
  owns,
  hardcoded_to,
  Entry,
  entries,
}
use Rattle.model.specs.NumberMeans.{num_means}
use Rattle.model.specs.Num.{Num}
use Rattle.model.specs.Num.{Got, Bad}
use Rattle.model.specs.Field.{Field}
use Rattle.model.specs.Field.{Value, No}
use Rattle.model.specs.Reading.{Reading}
use Rattle.model.specs.Reading.{At, Refused}
use Rattle.model.specs.Head.{Head}
use Rattle.model.specs.Head.{Counted, Stopped}
use Rattle.model.specs.declared.Counts.{Counts}
use Rattle.model.specs.declared.Objects.{Objects}
use Rattle.model.specs.declared.Devices.{Devices}
use Rattle.model.specs.declared.Values.{Values}
use Rattle.model.specs.declared.Config.{Config}
use Rattle.model.specs.Loaded.{Loaded}

-- the question, 1 or 2, that a number answers with no
abbrev pub num_question : Num → ℕ
num_question n = (num_means n).0

-- questions 1 to 3 of one number, in this order; 3: is it in its field's range?
unfoldable pub ranged : ℕ → ℕ → Num → Field
ranged low high (Got v next) = cond (leb low v && leb v high) (Value v next) (No 3)
ranged low high (Bad f) = No (num_question (Bad f))

-- a field where numbers are at most `most`; request N7 made that larger, so readers of files have it as a parameter
unfoldable pub field_to : ℕ → List ℕ → ℕ → ℕ → ℕ → Field
field_to most s at low high = ranged low high (number_to most s at)

abbrev pub field_at : List ℕ → ℕ → ℕ → ℕ → Field
field_at = field_to most_number

-- the question of a field, a reading or counts that are refused
abbrev pub field_question : Field → ℕ
field_question (Value v next) = 0
field_question (No q) = q

abbrev pub reading_question : Reading → ℕ
reading_question (At next) = 0
reading_question (Refused q) = q

abbrev pub head_question : Head → ℕ
head_question (Counted n next) = 0
head_question (Stopped q) = q

-- 'The questions': a number and the next place go on to what follows, or the first number that fails decides
unfoldable pub on_field : {R : Type 0} → (ℕ → R) → Field → (ℕ → ℕ → R) → R
on_field stop (Value v next) k = k v next
on_field stop (No q) k = stop q

-- how far a table is read, and what it then holds
pub record Progress (T : Type 0) : Type 0 where
  pub reading : Reading
  pub table : T

unfoldable pub read : {T : Type 0} → T → ℕ → Progress T
read t at = record { reading = At at; table = t }

unfoldable pub stop : {T : Type 0} → T → ℕ → Progress T
stop t q = record { reading = Refused q; table = t }

unfoldable pub on_reading : {R : Type 0} → (ℕ → R) → Reading → (ℕ → R) → R
on_reading stop (At next) k = k next
on_reading stop (Refused q) k = stop q

-- a body for each of the n numbers after i, in order; the first refusal ends them
unfoldable pub turns : {T : Type 0} → (ℕ → ℕ → T → Progress T) → ℕ → ℕ → ℕ → T → Progress T
turns f zero i at t = read t at
turns f (suc n) i at t =
    let p = f (i + 1) at t in
    on_reading (stop p.table) p.reading (λ next. turns f n (i + 1) next p.table)

-- document 01, 'Line file': the numbers of a row in order, each from `low` to `high`; what follows may depend on it. A
-- number that is absent from files of an edition is 0
pub data Row : Type 0 where
  done : Row
  field : ℕ → ℕ → (ℕ → Row) → Row
  absent : Row → Row

-- the numbers of a row, read from a place on
abbrev pub read_row_to : {R : Type 0} → ℕ → List ℕ → ℕ → Row → (ℕ → R) → (List ℕ → ℕ → R) → R
read_row_to most s at done stop k = k [] at
read_row_to most s at (field low high rest) stop k =
    on_field stop (field_to most s at low high) λ v a. read_row_to most s a (rest v) stop (λ vs next. k (v ∷ vs) next)
read_row_to most s at (absent rest) stop k = read_row_to most s at rest stop (λ vs next. k (0 ∷ vs) next)

abbrev pub read_row : {R : Type 0} → List ℕ → ℕ → Row → (ℕ → R) → (List ℕ → ℕ → R) → R
read_row s at row stop k = read_row_to most_number s at row stop k

-- document 01, 'Line file': edition; drivers D, devices V, objects N, values K
abbrev pub counts_row_to : Limits → Row
counts_row_to most =
    field 1 most.edition λ edition.
    field 0 most_drivers λ d.
    field 0 most_devices λ v.
    field 0 most.objects λ n.
    field 0 most_values λ k.
    done

abbrev pub counts_row : Row
counts_row = counts_row_to latest

abbrev pub counts_of : List ℕ → Counts
counts_of vs =
    record {
      edition = get_or vs 0 0;
      drivers = get_or vs 1 0;
      devices = get_or vs 2 0;
      objects = get_or vs 3 0;
      values = get_or vs 4 0;
    }

unfoldable pub counts_to : Limits → List ℕ → Head
counts_to most s =
    read_row_to most.number s 0 (counts_row_to most) Stopped λ vs next.
    Counted (counts_of vs) next

abbrev pub counts_at : List ℕ → Head
counts_at s = counts_to latest s

-- document 01, 'Line file': an owner's number by its class: 0, 1 to D, or 1 to V
unfoldable pub owner_least : ℕ → ℕ
owner_least class = cond (eqb class 0) 0 1

unfoldable pub owner_most : Counts → ℕ → ℕ
owner_most counts class = cond (eqb class 0) 0 (cond (eqb class 1) counts.drivers counts.devices)

unfoldable pub set_object : Objects → ℕ → ℕ → ℕ → ℕ → Objects
set_object t o kind class owner =
    record { kind = set t.kind o kind; class = set t.class o class; owner = set t.owner o owner }

-- document 01, 'Line file': object o has kind; owner class; owner number
abbrev pub object_row : Counts → Row
object_row counts =
    field 1 most_kind λ kind.
    field 0 most_class λ class.
    field (owner_least class) (owner_most counts class) λ owner.
    done

abbrev pub object_of : Objects → ℕ → List ℕ → Objects
object_of t o vs = set_object t o (get_or vs 0 0) (get_or vs 1 0) (get_or vs 2 0)

unfoldable pub object_to : ℕ → List ℕ → Counts → ℕ → ℕ → Objects → Progress Objects
object_to most s counts o at t =
    read_row_to most s at (object_row counts) (stop t) λ vs next. read (object_of t o vs) next

abbrev pub object : List ℕ → Counts → ℕ → ℕ → Objects → Progress Objects
object = object_to most_number

unfoldable pub set_device : Devices → ℕ → ℕ → ℕ → Devices
set_device t v w serial = record { hardcoded = set t.hardcoded v w; serial = set t.serial v serial }

-- request N7: a number that is there from an edition on
abbrev pub since : ℕ → Counts → (Row → Row) → Row → Row
since edition counts f rest = cond (leb edition counts.edition) (f rest) (absent rest)

-- request N7: from edition 2 on, a device's serial
abbrev pub serial_row : Counts → Row
serial_row counts = since serial_edition counts (λ rest. field 0 most_serial λ serial. rest) done

-- document 01, 'Line file', and request N7: device v has the value number 0 to K of its hardcoded descriptor, then its
-- serial
abbrev pub device_row : Counts → Row
device_row counts =
    field 0 counts.values λ w.
    serial_row counts

abbrev pub device_of : Devices → ℕ → List ℕ → Devices
device_of t v vs = set_device t v (get_or vs 0 0) (get_or vs 1 0)

unfoldable pub device_to : ℕ → List ℕ → Counts → ℕ → ℕ → Devices → Progress Devices
device_to most s counts v at t =
    read_row_to most s at (device_row counts) (stop t) λ vs next. read (device_of t v vs) next

abbrev pub device : List ℕ → Counts → ℕ → ℕ → Devices → Progress Devices
device = device_to most_number

-- document 01, 'Line file': a stored value must be 0 unless the object is of kind 1 and the mode is 2 or 3; `kinds` is
-- the column of kinds
unfoldable pub stored_most : Counts → List ℕ → ℕ → ℕ → ℕ
stored_most counts kinds o mode = cond (eqb (get_or kinds o 0) 1 && leb 2 mode) counts.values 0

unfoldable pub set_entry : Values → ℕ → ℕ → ℕ → ℕ → Values
set_entry t place o mode w =
    record { count = t.count; entries = set (set (set t.entries place o) (place + 1) mode) (place + 2) w }

-- document 01, 'Line file': entry j, from 1, of value v has object 1 to N, mode 1 to 3, stored value
abbrev pub entry_row : Counts → List ℕ → Row
entry_row counts kinds =
    field 1 counts.objects λ o.
    field 1 most_mode λ mode.
    field 0 (stored_most counts kinds o mode) λ w.
    done

abbrev pub entry_of : ℕ → Values → ℕ → List ℕ → Values
entry_of v t j vs = set_entry t (entry_place v j) (get_or vs 0 0) (get_or vs 1 0) (get_or vs 2 0)

unfoldable pub entry_to : ℕ → List ℕ → Counts → List ℕ → ℕ → ℕ → ℕ → Values → Progress Values
entry_to most s counts kinds v j at t =
    read_row_to most s at (entry_row counts kinds) (stop t) λ vs next. read (entry_of v t j vs) next

abbrev pub entry : List ℕ → Counts → List ℕ → ℕ → ℕ → ℕ → Values → Progress Values
entry = entry_to most_number

unfoldable pub set_count : Values → ℕ → ℕ → Values
set_count t v n = record { count = set t.count v n; entries = t.entries }

-- document 01, 'Line file': value v has entry count 0 to 6; then each entry
abbrev pub value_row : Row
value_row =
    field 0 most_entries λ n.
    done

unfoldable pub value_to : ℕ → List ℕ → Counts → List ℕ → ℕ → ℕ → Values → Progress Values
value_to most s counts kinds v at t =
    read_row_to most s at value_row (stop t) λ vs next.
    turns (entry_to most s counts kinds v) (get_or vs 0 0) 0 next (set_count t v (get_or vs 0 0))

abbrev pub value : List ℕ → Counts → List ℕ → ℕ → ℕ → Values → Progress Values
value = value_to most_number

-- document 01, 'Line file': objects 1 to N, devices 1 to V, values 1 to K, in order
unfoldable pub objects_to : ℕ → List ℕ → Counts → ℕ → Progress Objects
objects_to most s counts at = turns (object_to most s counts) counts.objects 0 at blank_objects

abbrev pub objects_at : List ℕ → Counts → ℕ → Progress Objects
objects_at = objects_to most_number

unfoldable pub devices_to : ℕ → List ℕ → Counts → ℕ → Progress Devices
devices_to most s counts at = turns (device_to most s counts) counts.devices 0 at blank_devices

abbrev pub devices_at : List ℕ → Counts → ℕ → Progress Devices
devices_at = devices_to most_number

unfoldable pub values_to : ℕ → List ℕ → Counts → List ℕ → ℕ → Progress Values
values_to most s counts kinds at = turns (value_to most s counts kinds) counts.values 0 at blank_values

abbrev pub values_at : List ℕ → Counts → List ℕ → ℕ → Progress Values
values_at = values_to most_number

-- how many of the objects 1 to n pass
abbrev pub how_many : ℕ → (ℕ → Bool) → ℕ
how_many zero p = 0
how_many (suc n) p = how_many n p + cond (p (suc n)) 1 0

-- question 5: each device has exactly one kind 4 object, and each kind 4 object a device as owner
unfoldable pub paired : Config → Bool
paired config =
    every config.counts.devices (λ c. eqb (how_many config.counts.objects (hardcoded_to config c)) 1)
    && every config.counts.objects (λ n. not (eqb (kind_of config n) 4) || eqb (class_of config n) 2)

-- an entry that the hardcoded value of device c may have
abbrev pub own_entry : Config → ℕ → Entry → Bool
own_entry config c e =
    owns config 2 c e.object && not (eqb (kind_of config e.object) 4)

-- question 6: each hardcoded value names only its own device's objects, none of kind 4
unfoldable pub restrained : Config → Bool
restrained config =
    every config.counts.devices (λ c. all (own_entry config c) (entries config (hardcoded_of config c)))

unfoldable pub accepted : Config → Loaded
accepted config = record { answer = 0; config = config }

unfoldable pub refused : ℕ → Loaded
refused q = record { answer = q; config = blank }

-- the rest, if the question is answered with yes; else its number
unfoldable pub ask : ℕ → Bool → Loaded → Loaded
ask q true rest = rest
ask q false rest = refused q

-- question 4: is nothing left over? Then 5, then 6
unfoldable pub judged : List ℕ → ℕ → Config → Loaded
judged s at config = ask 4 (eqb at (length s)) (ask 5 (paired config) (ask 6 (restrained config) (accepted config)))

-- a whole group is read, or its refusal decides
unfoldable pub after_counts : Head → (Counts → ℕ → Loaded) → Loaded
after_counts (Counted n next) k = k n next
after_counts (Stopped q) k = refused q

unfoldable pub after_group : {T : Type 0} → Progress T → (T → ℕ → Loaded) → Loaded
after_group p k = on_reading refused p.reading (k p.table)

-- what follows the counts
unfoldable pub groups_to : ℕ → List ℕ → Counts → ℕ → Loaded
groups_to most s counts at =
    after_group (objects_to most s counts at) λ objects a.
    after_group (devices_to most s counts a) λ devices b.
    after_group (values_to most s counts objects.kind b) λ values end.
    judged s end (record { counts = counts; objects = objects; devices = devices; values = values })

abbrev pub groups_from : List ℕ → Counts → ℕ → Loaded
groups_from = groups_to most_number

-- the configuration that a file within the limits tells, with answer 0; or the first question answered with no
unfoldable pub load_to : Limits → List ℕ → Loaded
load_to most s = after_counts (counts_to most s) (groups_to most.number s)

abbrev pub load : List ℕ → Loaded
load s = load_to latest s
