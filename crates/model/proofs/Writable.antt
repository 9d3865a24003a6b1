-- Request N1: an accepted configuration is refused by none of the writer's questions.
use Prim.Native.Nat.{ℕ, zero, suc, ◌≤◌, ◌<◌}
use mathlib.Core.Path.{◌≡◌, refl}
use mathlib.Core.List.{List, [], ◌∷◌}
use mathlib.Core.Bool.{Bool, true, false, ◌&&◌, cond}
use native.Mathlib.Omega.{arith}
use lib.ListN.{get_or}
use lib.Dec.{leb, eqb}
use borrow.Author.Tests.{leb-false, eqb-false, eq-eqb}
use Rattle.model.specs.Base.{all}
use Rattle.model.specs.Config.{
  most_drivers,
  most_devices,
  most_objects,
  most_values,
  most_entries,
  most_edition,
  serial_edition,
  most_serial,
  most_kind,
  most_class,
  most_mode,
  hardcoded_of,
  serial_of,
  Entry,
}
use Rattle.model.specs.ConfigFile.{
  done,
  field,
  absent,
  owner_least,
  owner_most,
  serial_row,
  stored_most,
  counts_row,
  load,
}
use Rattle.model.specs.ConfigWrite.{
  counts_numbers,
  object_rows,
  device_rows,
  entry_rows,
  value_rows,
  in_row,
  right_row,
  in_ranges,
  write_question,
}
use Rattle.model.specs.declared.Counts.{Counts}
use Rattle.model.specs.declared.Objects.{Objects}
use Rattle.model.specs.declared.Config.{Config}
use Rattle.model.proofs.Lists.{both_true, every_intro}
use Rattle.model.proofs.Rows.{row_intro, row_done}
use Rattle.model.proofs.Copied.{all-rows}
use Rattle.model.proofs.Accepted.{Few, ObjectRange, EntryRange, Ranges, Sound, load-sound}
use Rattle.model.proofs.FileLoaded.{ranges}

-- the counts
counts_in : (config : Config) → Few config → in_row counts_row (counts_numbers config.counts) ≡ true
counts_in config f =
    let n = config.counts in
    row_intro 1 most_edition _ n.edition _ f.edition-least f.edition-most
    (row_intro 0 most_drivers _ n.drivers _ (omega arith) f.drivers
    (row_intro 0 most_devices _ n.devices _ (omega arith) f.devices
    (row_intro 0 most_objects _ n.objects _ (omega arith) f.objects
    (row_intro 0 most_values _ n.values _ (omega arith) f.values row_done))))

-- an owner's number, by its class
owner_in : (counts : Counts) (class owner : ℕ) → class ≤ most_class → (class ≡ 0 → owner ≡ 0)
    → (class ≡ 1 → (1 ≤ owner) × (owner ≤ counts.drivers)) → (class ≡ 2 → (1 ≤ owner) × (owner ≤ counts.devices))
    → (owner_least class ≤ owner) × (owner ≤ owner_most counts class)
unfolding owner_least owner_most
owner_in counts zero owner h a b c = let e = a refl in (omega arith, omega arith)
owner_in counts (suc zero) owner h a b c = b refl
owner_in counts (suc (suc zero)) owner h a b c = c refl
owner_in counts (suc (suc (suc n))) owner h a b c = absurd (omega arith)

object_in_lem : (counts : Counts) (t : Objects) (o : ℕ) → ObjectRange counts t o
    → all right_row (object_rows counts t o) ≡ true
object_in_lem counts t o r =
    let class = get_or t.class o 0 in
    let owner = get_or t.owner o 0 in
    let w = owner_in counts class owner r.class-most r.external r.by_driver r.by_device_lem in
    both_true
    (row_intro 1 most_kind _ (get_or t.kind o 0) _ r.kind-least r.kind-most
    (row_intro 0 most_class _ class _ (omega arith) r.class-most
    (row_intro (owner_least class) (owner_most counts class) _ owner _ w.0 w.1 row_done)))
    refl

-- a serial, by the edition
serial_in : (config : Config) → Few config → Ranges config → (c : ℕ) → 1 ≤ c → c ≤ config.counts.devices
    → in_row (serial_row config.counts) (serial_of config c ∷ []) ≡ true
unfolding in_row
serial_in config f r c low high = go (leb serial_edition config.counts.edition) refl
  where
    go : (t : Bool) → leb serial_edition config.counts.edition ≡ t
        → in_row (cond t (field 0 most_serial λ serial. done) (absent done)) (serial_of config c ∷ []) ≡ true
    go true e =
        row_intro 0 most_serial (λ serial. done) (serial_of config c) [] (omega arith) (r.serials c low high).0 row_done
    go false e =
        let older : config.counts.edition < serial_edition = leb-false serial_edition config.counts.edition e in
        let z = (r.serials c low high).1 (omega (arith, older, f.edition-least)) in
        both_true (eq-eqb (serial_of config c) 0 z) refl

device_in_lem : (config : Config) → Few config → Ranges config → (c : ℕ) → 1 ≤ c → c ≤ config.counts.devices
    → all right_row (device_rows config.counts config.devices c) ≡ true
device_in_lem config f r c low high =
    both_true
    (row_intro 0 config.counts.values _ (hardcoded_of config c) _ (omega arith) (r.hardcoded c low high)
    (serial_in config f r c low high))
    refl

-- a stored value, by the object's kind and the mode
stored_in : (counts : Counts) (objects : Objects) (e : Entry) → EntryRange counts objects e
    → e.value ≤ stored_most counts objects.kind e.object e.mode
unfolding stored_most
stored_in counts objects e r = go (eqb (get_or objects.kind e.object 0) 1) refl (leb 2 e.mode) refl
  where
    go : (s : Bool) → eqb (get_or objects.kind e.object 0) 1 ≡ s → (t : Bool) → leb 2 e.mode ≡ t
        → e.value ≤ cond (s && t) counts.values 0
    go true p true q = r.stored-most
    go true p false q =
        let m : e.mode < 2 = leb-false 2 e.mode q in
        let z = r.reading-only (omega (arith, r.mode-least)) in
        omega arith
    go false p t q = let z = r.other-kind (eqb-false _ 1 p) in omega arith

module _ (config : Config) (r : Ranges config) where
  entry_in : (v j : ℕ) → 1 ≤ v → v ≤ config.counts.values → 1 ≤ j → j ≤ get_or config.values.count v 0
      → all right_row (entry_rows config.counts config.objects.kind config.values v j) ≡ true
  entry_in v j low high l m =
      let e = r.places v j low high l m in
      both_true
      (row_intro 1 config.counts.objects _ _ _ e.object-least e.object-most
      (row_intro 1 most_mode _ _ _ e.mode-least e.mode-most
      (row_intro 0 (stored_most config.counts config.objects.kind _ _) _ _ _ (omega arith)
      (stored_in config.counts config.objects _ e) row_done)))
      refl

  value_in_lem : (v : ℕ) → 1 ≤ v → v ≤ config.counts.values
      → all right_row (value_rows config.counts config.objects.kind config.values v) ≡ true
  value_in_lem v low high =
      both_true
      (row_intro 0 most_entries _ (get_or config.values.count v 0) _ (omega arith) (r.few-entries v high) row_done)
      (all-rows right_row (entry_rows config.counts config.objects.kind config.values v)
      (get_or config.values.count v 0) 0 (λ j l m. entry_in v j low high l (omega arith)))

-- N1: what an accepted file tells is in range, and meets 5 and 6
pub sound-writes : (config : Config) → Sound config → write_question config ≡ 0
unfolding write_question
sound-writes config s =
    let n = config.counts in
    let r = s.ranges in
    let in_ranges_lem : in_ranges config ≡ true =
    ranges config (counts_in config s.few)
    (every_intro n.objects (λ o. all right_row (object_rows n config.objects o))
    (λ o low high. object_in_lem n config.objects o (r.objects o low high)))
    (every_intro n.devices (λ c. all right_row (device_rows n config.devices c)) (device_in_lem config s.few r))
    (every_intro n.values (λ v. all right_row (value_rows n config.objects.kind config.values v))
    (value_in_lem config r)) in
    rw (in_ranges_lem, s.pairs, s.wires)

-- N1: a configuration that was loaded is refused by none of the writer's questions
pub loaded_sound : (file : List ℕ) → (load file).answer ≡ 0 → write_question (load file).config ≡ 0
loaded_sound file h = sound-writes (load file).config (load-sound file h)
