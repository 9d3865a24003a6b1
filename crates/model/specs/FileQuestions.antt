-- Document 01, 'The questions', 1 to 6: each as a proposition of its own, about the numbers that a configuration file
-- is read for and the configuration that it tells. `load` (ConfigFile) answers with the first that is a no.
use Rattle.std.specs.Prelude.{ℕ, zero, suc, ◌+◌, ◌≤◌, ◌<◌, ◌≡◌, true, cond, length, drop, leb}
use mathlib.Core.List.{List, [], ◌∷◌, ◌++◌, Memᴰ}
use Rattle.model.specs.Number.{lead, value_of, formed}
use Rattle.model.specs.Config.{
  most_drivers,
  most_devices,
  most_objects,
  most_values,
  most_entries,
  most_edition,
  serial_edition,
  most_serial,
  most_kind,
  most_class,
  most_mode,
  blank_objects,
  blank_devices,
  blank_values,
  blank,
}
use Rattle.model.specs.ConfigFile.{
  field_at,
  on_field,
  Progress,
  read,
  stop,
  on_reading,
  counts_at,
  owner_least,
  owner_most,
  object,
  device,
  stored_most,
  entry,
  set_count,
  value,
  objects_at,
  devices_at,
  values_at,
  paired,
  restrained,
}
use Rattle.model.specs.Reading.{At}
use Rattle.model.specs.Head.{Head}
use Rattle.model.specs.Head.{Counted, Stopped}
use Rattle.model.specs.declared.Counts.{Counts}
use Rattle.model.specs.declared.Objects.{Objects}
use Rattle.model.specs.declared.Devices.{Devices}
use Rattle.model.specs.declared.Values.{Values}
use Rattle.model.specs.declared.Config.{Config}

-- a number that the file is read for: the place where it begins, and its field's range
pub record Asked : Type 0 where
  pub at : ℕ
  pub low : ℕ
  pub high : ℕ

-- the file from there on, and the number's value
abbrev pub rest : List ℕ → Asked → List ℕ
rest s a = drop a.at s

abbrev pub size : List ℕ → Asked → ℕ
size s a = value_of (rest s a) (lead (rest s a))

-- question 1: is the number's last byte present? All bytes before it have 128 added
abbrev pub LastByte : List ℕ → Asked → Type 0
LastByte s a = lead (rest s a) < length (rest s a)

-- question 2: has it at most three bytes, shortest form, and a size of at most the largest number?
abbrev pub RightForm : List ℕ → Asked → Type 0
RightForm s a = formed (rest s a) (lead (rest s a)) ≡ true

-- question 3: is it in its field's range?
abbrev pub InRange : List ℕ → Asked → Type 0
InRange s a = (a.low ≤ size s a) × (size s a ≤ a.high)

-- 'In the file the first number that fails decides': a number; and, if it passes, those after it
unfoldable pub asks : List ℕ → ℕ → ℕ → ℕ → (ℕ → ℕ → List Asked) → List Asked
asks s at low high k = record { at = at; low = low; high = high } ∷ on_field (λ q. []) (field_at s at low high) k

-- document 01, 'Line file': edition; drivers D, devices V, objects N, values K
unfoldable pub counts_asked : List ℕ → List Asked
counts_asked s =
    asks s 0 1 most_edition λ edition a.
    asks s a 0 most_drivers λ d b.
    asks s b 0 most_devices λ v c.
    asks s c 0 most_objects λ n e.
    asks s e 0 most_values λ k next.
    []

-- document 01, 'Line file': an object has kind; owner class; owner number
unfoldable pub object_asked : List ℕ → Counts → ℕ → ℕ → Objects → List Asked
object_asked s counts o at t =
    asks s at 1 most_kind λ kind a.
    asks s a 0 most_class λ class b.
    asks s b (owner_least class) (owner_most counts class) λ owner next.
    []

-- document 01, 'Line file', and request N7: a device has the value number 0 to K of its hardcoded descriptor; and, from
-- edition 2 on, its serial
unfoldable pub serial_asked : List ℕ → Counts → ℕ → List Asked
serial_asked s counts at = cond (leb serial_edition counts.edition) (asks s at 0 most_serial λ serial next. []) []

unfoldable pub device_asked : List ℕ → Counts → ℕ → ℕ → Devices → List Asked
device_asked s counts v at t = asks s at 0 counts.values λ w next. serial_asked s counts next

-- document 01, 'Line file': an entry has object 1 to N, mode 1 to 3, stored value
unfoldable pub entry_asked : List ℕ → Counts → List ℕ → ℕ → ℕ → Values → List Asked
entry_asked s counts kinds j at t =
    asks s at 1 counts.objects λ o a.
    asks s a 1 most_mode λ mode b.
    asks s b 0 (stored_most counts kinds o mode) λ w next.
    []

-- those of each of n bodies, in order, as far as they are read (`turns`)
unfoldable pub turns_asked : {T : Type 0} → (ℕ → ℕ → T → List Asked) → (ℕ → ℕ → T → Progress T) → ℕ → ℕ → ℕ → T
    → List Asked
turns_asked g f zero i at t = []
turns_asked g f (suc n) i at t =
    let p = f (i + 1) at t in
    g (i + 1) at t ++ on_reading (λ q. []) p.reading (λ next. turns_asked g f n (i + 1) next p.table)

-- document 01, 'Line file': a value has entry count 0 to 6; then each entry
unfoldable pub value_asked : List ℕ → Counts → List ℕ → ℕ → ℕ → Values → List Asked
value_asked s counts kinds v at t =
    asks s at 0 most_entries λ n next.
    turns_asked (entry_asked s counts kinds) (entry s counts kinds v) n 0 next (set_count t v n)

-- the counts, or a whole group, with the place after them, go on to what follows
unfoldable pub on_head : {R : Type 0} → (ℕ → R) → Head → (Counts → ℕ → R) → R
on_head stop (Counted n next) k = k n next
on_head stop (Stopped q) k = stop q

unfoldable pub on_group : {R T : Type 0} → (ℕ → R) → Progress T → (T → ℕ → R) → R
on_group stop p k = on_reading stop p.reading (k p.table)

-- document 01, 'Line file': objects 1 to N, devices 1 to V, values 1 to K, in order
unfoldable pub objects_asked : List ℕ → Counts → ℕ → List Asked
objects_asked s counts at = turns_asked (object_asked s counts) (object s counts) counts.objects 0 at blank_objects

unfoldable pub devices_asked : List ℕ → Counts → ℕ → List Asked
devices_asked s counts at = turns_asked (device_asked s counts) (device s counts) counts.devices 0 at blank_devices

unfoldable pub values_asked : List ℕ → Counts → List ℕ → ℕ → List Asked
values_asked s counts kinds at =
    turns_asked (value_asked s counts kinds) (value s counts kinds) counts.values 0 at blank_values

-- what follows the objects, and what follows the counts
abbrev pub after_objects : List ℕ → Counts → Objects → ℕ → List Asked
after_objects s counts objects at =
    devices_asked s counts at
    ++ on_group (λ q. []) (devices_at s counts at) (λ devices next. values_asked s counts objects.kind next)

abbrev pub after_counts : List ℕ → Counts → ℕ → List Asked
after_counts s counts at =
    objects_asked s counts at ++ on_group (λ q. []) (objects_at s counts at) (after_objects s counts)

-- document 01, 'Line file': the numbers that the file is read for, in order, up to the first that fails
unfoldable pub asked : List ℕ → List Asked
asked s = counts_asked s ++ on_head (λ q. []) (counts_at s) (after_counts s)

-- document 01, 'Line file': the configuration that the file tells, and how far it is read for it
unfoldable pub told : List ℕ → Progress Config
told s =
    on_head (stop blank) (counts_at s) λ counts a.
    on_group (stop blank) (objects_at s counts a) λ objects b.
    on_group (stop blank) (devices_at s counts b) λ devices c.
    on_group (stop blank) (values_at s counts objects.kind c) λ values end.
    read (record { counts = counts; objects = objects; devices = devices; values = values }) end

-- questions 1 to 6 of a file, each a yes
pub record FileYes (file : List ℕ) : Type 0 where
  pub y1 : (a : Asked) → Memᴰ a (asked file) → LastByte file a
  pub y2 : (a : Asked) → Memᴰ a (asked file) → RightForm file a
  pub y3 : (a : Asked) → Memᴰ a (asked file) → InRange file a
  -- question 4: is nothing left over, where the reading ended?
  pub y4 : (end : ℕ) → (told file).reading ≡ At end → end ≡ length file
  -- question 5: has each device exactly one kind 4 object, and each kind 4 object a device as owner?
  pub y5 : paired (told file).table ≡ true
  -- question 6: does each hardcoded value name only its own device's objects, none of kind 4?
  pub y6 : restrained (told file).table ≡ true
