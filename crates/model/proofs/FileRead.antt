-- Request N1: the rows of a configuration in range are read from their bytes into its tables, group by group.
use Prim.Native.Nat.{ℕ, ◌+◌, ◌≤◌}
use mathlib.Core.Path.{◌≡◌, ◌∙◌}
use mathlib.Core.List.{List, [], ◌∷◌, ◌++◌}
use mathlib.Core.Bool.{Bool, true, false, ◌&&◌, cond}
use native.Mathlib.Omega.{arith}
use lib.ListN.{get_or}
use lib.Dec.{leb, eqb}
use Rattle.model.specs.Base.{all, every}
use Rattle.model.specs.Number.{most_number}
use Rattle.model.specs.Config.{
  most_drivers,
  most_devices,
  most_objects,
  most_values,
  serial_edition,
  most_serial,
  entry_place,
  blank_objects,
  blank_devices,
  blank_values,
}
use Rattle.model.specs.ConfigFile.{
  read,
  stop,
  turns,
  Row,
  read_row,
  counts_row,
  object_row,
  device_row,
  value_row,
  entry_row,
  owner_most,
  set_object,
  object_of,
  object,
  object_to,
  set_device,
  device_of,
  device,
  device_to,
  stored_most,
  set_entry,
  entry_of,
  entry,
  entry_to,
  set_count,
  value,
  value_to,
  objects_at,
  objects_to,
  devices_at,
  devices_to,
  values_at,
  values_to,
  done,
  field,
  absent,
}
use Rattle.model.specs.ConfigWrite.{
  rows_from,
  object_numbers,
  device_numbers,
  entry_numbers,
  count_numbers,
  object_rows,
  device_rows,
  entry_rows,
  value_rows,
  row_bytes,
  rows_bytes,
  in_row,
  right_row,
}
use Rattle.model.specs.declared.Counts.{Counts}
use Rattle.model.specs.declared.Objects.{Objects}
use Rattle.model.specs.declared.Devices.{Devices}
use Rattle.model.specs.declared.Values.{Values}
use Rattle.model.proofs.Lists.{and_l, and_r, every_at}
use Rattle.model.proofs.Rows.{Bounded, here_assoc, row_read, steps, turns-read}
use Rattle.model.proofs.NumberBytes.{Here}
use Rattle.model.proofs.Copied.{rows_all}

-- the counts are within the limits
pub record FewCounts (counts : Counts) : Type 0 where
  pub drivers : counts.drivers ≤ most_drivers
  pub devices : counts.devices ≤ most_devices
  pub objects : counts.objects ≤ most_objects
  pub values : counts.values ≤ most_values

-- no range of a row ends above the largest number
module _ (counts : Counts) (few : FewCounts counts) where
  at_most : (t : Bool) (a b high : ℕ) → a ≤ high → b ≤ high → cond t a b ≤ high
  at_most true a b high p q = p
  at_most false a b high p q = q

  owner_bounded : (class : ℕ) → owner_most counts class ≤ most_number
  unfolding owner_most
  owner_bounded class =
      at_most (eqb class 0) 0 _ most_number (omega arith)
      (at_most (eqb class 1) counts.drivers counts.devices most_number (omega (arith, few.drivers))
      (omega (arith, few.devices)))

  stored_bounded : (kinds : List ℕ) (o mode : ℕ) → stored_most counts kinds o mode ≤ most_number
  unfolding stored_most
  stored_bounded kinds o mode =
      at_most (eqb (get_or kinds o 0) 1 && leb 2 mode) counts.values 0 most_number (omega (arith, few.values))
      (omega arith)

  object_bounded : Bounded (object_row counts)
  object_bounded = (omega arith, λ kind p. (omega arith, λ class q. (owner_bounded class, λ owner r. tt)))

  device_bounded : Bounded (device_row counts)
  device_bounded = (omega (arith, few.values), λ w p. serial (leb serial_edition counts.edition))
    where
      serial : (t : Bool) → Bounded (cond t (field 0 most_serial λ serial. done) (absent done))
      serial true = (omega arith, λ n p. tt)
      serial false = tt

  entry_bounded : (kinds : List ℕ) → Bounded (entry_row counts kinds)
  entry_bounded kinds =
      (omega (arith, few.objects), λ o p. (omega arith, λ mode q. (stored_bounded kinds o mode, λ w r. tt)))

value_bounded : Bounded value_row
value_bounded = (omega arith, λ n p. tt)

pub counts_bounded : Bounded counts_row
counts_bounded =
    (omega arith, λ e p. (omega arith, λ d q. (omega arith, λ v r. (omega arith, λ n t. (omega arith, λ k u. tt)))))

-- one row that stands by itself
one_read : (s : List ℕ) (end : ℕ) {R : Type 0} (stop : ℕ → R) (row : Row) → Bounded row → (vs : List ℕ)
    → all right_row (record { row = row; numbers = vs } ∷ []) ≡ true → (k : List ℕ → ℕ → R) (at : ℕ) (l : List ℕ)
    → Here s end at (rows_bytes (record { row = row; numbers = vs } ∷ []) ++ l)
    → (next : ℕ) × (read_row s at row stop k ≡ k vs next) × Here s end next l
unfolding rows_bytes
one_read s end stop row b vs h k at l p =
    row_read s end stop row b vs (and_l (in_row row vs) true h) k at l (here_assoc s end at (row_bytes row vs) [] l p)

-- a row of a configuration put into its table
abbrev pub object_step : Objects → ℕ → Objects → Objects
object_step src o t = set_object t o (get_or src.kind o 0) (get_or src.class o 0) (get_or src.owner o 0)

abbrev pub device_step : Devices → ℕ → Devices → Devices
device_step src c t = set_device t c (get_or src.hardcoded c 0) (get_or src.serial c 0)

abbrev pub entry_step : Values → ℕ → ℕ → Values → Values
entry_step src v j t =
    set_entry t (entry_place v j) (get_or src.entries (entry_place v j) 0) (get_or src.entries (entry_place v j + 1) 0)
    (get_or src.entries (entry_place v j + 2) 0)

abbrev pub value_step : Values → ℕ → Values → Values
value_step src v t = steps (entry_step src v) (get_or src.count v 0) 0 (set_count t v (get_or src.count v 0))

-- the groups of a file
module _ (s : List ℕ) (end : ℕ) (counts : Counts) (few : FewCounts counts) where
  pub objects-read : (src : Objects) → every counts.objects (λ o. all right_row (object_rows counts src o)) ≡ true
      → (at : ℕ) (l : List ℕ) → Here s end at (rows_bytes (rows_from (object_rows counts src) counts.objects 0) ++ l)
      → (next : ℕ) × (objects_at s counts at ≡ read (steps (object_step src) counts.objects 0 blank_objects) next)
      × Here s end next l
  unfolding objects_to object_to
  objects-read src ok at l h =
      turns-read s end (object_rows counts src) (object_step src) (object s counts) counts.objects
      (λ i less at t l h.
      one_read s end (stop t) (object_row counts) (object_bounded counts few) (object_numbers src (i + 1))
      (every_at counts.objects (λ o. all right_row (object_rows counts src o)) ok (i + 1) (omega arith)
      (omega arith)) (λ vs next. read (object_of t (i + 1) vs) next) at l h)
      at blank_objects l h

  pub devices-read : (src : Devices) → every counts.devices (λ c. all right_row (device_rows counts src c)) ≡ true
      → (at : ℕ) (l : List ℕ) → Here s end at (rows_bytes (rows_from (device_rows counts src) counts.devices 0) ++ l)
      → (next : ℕ) × (devices_at s counts at ≡ read (steps (device_step src) counts.devices 0 blank_devices) next)
      × Here s end next l
  unfolding devices_to device_to
  devices-read src ok at l h =
      turns-read s end (device_rows counts src) (device_step src) (device s counts) counts.devices
      (λ i less at t l h.
      one_read s end (stop t) (device_row counts) (device_bounded counts few) (device_numbers src (i + 1))
      (every_at counts.devices (λ c. all right_row (device_rows counts src c)) ok (i + 1) (omega arith)
      (omega arith)) (λ vs next. read (device_of t (i + 1) vs) next) at l h)
      at blank_devices l h

  module _ (kinds : List ℕ) (src : Values) where
    entries-read : (v : ℕ) → all right_row (rows_from (entry_rows counts kinds src v) (get_or src.count v 0) 0) ≡ true
        → (at : ℕ) (t : Values) (l : List ℕ)
        → Here s end at (rows_bytes (rows_from (entry_rows counts kinds src v) (get_or src.count v 0) 0) ++ l)
        → (next : ℕ)
        × (turns (entry s counts kinds v) (get_or src.count v 0) 0 at t
        ≡ read (steps (entry_step src v) (get_or src.count v 0) 0 t) next)
        × Here s end next l
    unfolding entry_to
    entries-read v ok at t l h =
        turns-read s end (entry_rows counts kinds src v) (entry_step src v) (entry s counts kinds v) (get_or
        src.count v 0)
        (λ i less at t l h.
        one_read s end (stop t) (entry_row counts kinds) (entry_bounded counts few kinds) (entry_numbers src v (i + 1))
        (rows_all right_row (entry_rows counts kinds src v) (get_or src.count v 0) 0 ok (i + 1)
        (omega arith) (omega arith)) (λ vs next. read (entry_of v t (i + 1) vs) next) at l h)
        at t l h

    value_read : (v : ℕ) → all right_row (value_rows counts kinds src v) ≡ true
        → (at : ℕ) (t : Values) (l : List ℕ) → Here s end at (rows_bytes (value_rows counts kinds src v) ++ l)
        → (next : ℕ) × (value s counts kinds v at t ≡ read (value_step src v t) next) × Here s end next l
    unfolding value_to rows_bytes
    value_read v ok at t l h =
        let n = get_or src.count v 0 in
        let rows = rows_from (entry_rows counts kinds src v) n 0 in
        let good = in_row value_row (count_numbers src v) in
        let (a, e, p) =
        row_read s end (stop t) value_row value_bounded (count_numbers src v)
        (and_l good (all right_row rows) ok)
        (λ vs next. turns (entry s counts kinds v) (get_or vs 0 0) 0 next (set_count t v (get_or vs 0 0))) at
        (rows_bytes rows ++ l)
        (here_assoc s end at (row_bytes value_row (count_numbers src v)) (rows_bytes rows) l h) in
        let (next, f, q) =
        entries-read v (and_r good (all right_row rows) ok) a (set_count t v n) l p in
        (next, e ∙ f, q)

    pub values-read : every counts.values (λ v. all right_row (value_rows counts kinds src v)) ≡ true
        → (at : ℕ) (l : List ℕ) → Here s end at (rows_bytes (rows_from (value_rows counts kinds src)
        counts.values 0) ++ l)
        → (next : ℕ) × (values_at s counts kinds at ≡ read (steps (value_step src) counts.values 0 blank_values) next)
        × Here s end next l
    unfolding values_to
    values-read ok at l h =
        turns-read s end (value_rows counts kinds src) (value_step src) (value s counts kinds) counts.values
        (λ i less at t l h.
        value_read (i + 1)
        (every_at counts.values (λ v. all right_row (value_rows counts kinds src v)) ok (i + 1)
        (omega arith) (omega arith)) at t l h)
        at blank_values l h
