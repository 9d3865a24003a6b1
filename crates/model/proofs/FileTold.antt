-- Request N1: the configuration that the file of a configuration tells, column by column.
use Prim.Native.Nat.{ℕ, suc, ◌+◌, ◌*◌, ◌≤◌, ◌<◌}
use mathlib.Core.Path.{◌≡◌, refl, sym, ap, ◌∙◌, subst}
use mathlib.Core.List.{List, [], ◌∷◌}
use mathlib.Core.Bool.{true, false}
use native.Mathlib.Omega.{arith}
use lib.ListN.{get_or, replicate, length-replicate}
use lib.Dec.{eqb}
use borrow.Author.Tests.{eq-eqb}
use Rattle.model.specs.Base.{any}
use Rattle.model.specs.Config.{
  most_devices,
  most_objects,
  most_values,
  most_entries,
  entry_bytes,
  entry_place,
  blank_objects,
  blank_devices,
  blank_values,
  entry_at,
}
use Rattle.model.specs.ConfigFile.{set_object, set_device, set_entry, set_count}
use Rattle.model.specs.ConfigWrite.{
  rows_from,
  SameFile,
  places_to,
  entry_places,
  value_places,
  table_places,
  ZeroBut,
  Trimmed,
}
use Rattle.model.specs.declared.Objects.{Objects}
use Rattle.model.specs.declared.Devices.{Devices}
use Rattle.model.specs.declared.Values.{Values}
use Rattle.model.specs.declared.Config.{Config}
use Rattle.model.proofs.Lists.{or_left, or_right}
use Rattle.model.proofs.FileRead.{FewCounts, device_step, entry_step, object_step, value_step}
use Rattle.model.proofs.Copied.{
  copied_all,
  copied_zeros,
  copy_in,
  copy_at,
  rows-any,
  rows_same,
  steps_copy,
  steps_keep,
}
use Rattle.model.proofs.Rows.{steps}

-- the configuration that the file of a configuration tells
abbrev pub told : Config → Config
told config =
    record {
      counts = config.counts;
      objects = steps (object_step config.objects) config.counts.objects 0 blank_objects;
      devices = steps (device_step config.devices) config.counts.devices 0 blank_devices;
      values = steps (value_step config.values) config.counts.values 0 blank_values;
    }

-- its columns have what is named, and are 0 elsewhere
module _ (config : Config) where
  kinds : (told config).objects.kind
      ≡ copy_at config.objects.kind (places_to config.counts.objects) (replicate (suc most_objects) 0)
  unfolding set_object copy_at
  kinds =
      steps_copy (λ (t : Objects). t.kind) (object_step config.objects) config.objects.kind (λ o. o ∷ [])
      (λ o t. refl) config.counts.objects 0 blank_objects

  classes : (told config).objects.class
      ≡ copy_at config.objects.class (places_to config.counts.objects) (replicate (suc most_objects) 0)
  unfolding set_object copy_at
  classes =
      steps_copy (λ (t : Objects). t.class) (object_step config.objects) config.objects.class (λ o. o ∷ [])
      (λ o t. refl) config.counts.objects 0 blank_objects

  owners : (told config).objects.owner
      ≡ copy_at config.objects.owner (places_to config.counts.objects) (replicate (suc most_objects) 0)
  unfolding set_object copy_at
  owners =
      steps_copy (λ (t : Objects). t.owner) (object_step config.objects) config.objects.owner (λ o. o ∷ [])
      (λ o t. refl) config.counts.objects 0 blank_objects

  hardcodeds : (told config).devices.hardcoded
      ≡ copy_at config.devices.hardcoded (places_to config.counts.devices) (replicate (suc most_devices) 0)
  unfolding set_device copy_at
  hardcodeds =
      steps_copy (λ (t : Devices). t.hardcoded) (device_step config.devices) config.devices.hardcoded
      (λ o. o ∷ []) (λ o t. refl) config.counts.devices 0 blank_devices

  serials : (told config).devices.serial
      ≡ copy_at config.devices.serial (places_to config.counts.devices) (replicate (suc most_devices) 0)
  unfolding set_device copy_at
  serials =
      steps_copy (λ (t : Devices). t.serial) (device_step config.devices) config.devices.serial (λ o. o ∷ [])
      (λ o t. refl) config.counts.devices 0 blank_devices

  entries_keep_count : (v n i : ℕ) (t : Values) → (steps (entry_step config.values v) n i t).count ≡ t.count
  unfolding set_entry
  entries_keep_count v n i t =
      steps_keep (λ (t : Values). t.count) (entry_step config.values v) (λ o t. refl) n i t

  count-column : (told config).values.count
      ≡ copy_at config.values.count (places_to config.counts.values) (replicate (suc most_values) 0)
  unfolding set_count copy_at
  count-column =
      steps_copy (λ (t : Values). t.count) (value_step config.values) config.values.count (λ o. o ∷ [])
      (λ v t. entries_keep_count v (get_or config.values.count v 0) 0
      (set_count t v (get_or config.values.count v 0))) config.counts.values 0 blank_values

  entry_steps : (v : ℕ) (t : Values) → (value_step config.values v t).entries
      ≡ copy_at config.values.entries (value_places config.values.count v) t.entries
  unfolding set_count set_entry copy_at
  entry_steps v t =
      steps_copy (λ (t : Values). t.entries) (entry_step config.values v) config.values.entries (entry_places v)
      (λ j t. refl) (get_or config.values.count v 0) 0 (set_count t v (get_or config.values.count v 0))

  entry-column : (told config).values.entries
      ≡ copy_at config.values.entries (table_places config.values.count config.counts.values)
      (replicate (entry_bytes * suc (most_entries * suc most_values)) 0)
  entry-column =
      steps_copy (λ (t : Values). t.entries) (value_step config.values) config.values.entries
      (value_places config.values.count) entry_steps config.counts.values 0 blank_values

  module _ (few : FewCounts config.counts) where
    -- a place that is named
    at_place : (n k : ℕ) → 1 ≤ k → k ≤ n → any (eqb k) (places_to n) ≡ true
    at_place n k low high =
        rows-any (eqb k) (λ o. o ∷ []) n 0 k low (omega arith) (or_left (eqb k k) false (eq-eqb k k refl))

    at_column : (src : List ℕ) (n size k : ℕ) → 1 ≤ k → k ≤ n → n < size
        → get_or src k 0 ≡ get_or (copy_at src (places_to n) (replicate size 0)) k 0
    at_column src n size k low high less =
        sym (copy_in src (places_to n) (replicate size 0) k (omega (arith, length-replicate {A = ℕ} size 0))
        (at_place n k low high))

    module _ (small : (v : ℕ) → 1 ≤ v → v ≤ config.counts.values → get_or
        config.values.count v 0 ≤ most_entries) where
      at_table : (v j d : ℕ) → 1 ≤ v → v ≤ config.counts.values → 1 ≤ j → j ≤ get_or config.values.count v 0
          → d < 3 → any (eqb (entry_place v j + d)) (entry_places v j) ≡ true
          → get_or config.values.entries (entry_place v j + d) 0
          ≡ get_or (told config).values.entries (entry_place v j + d) 0
      at_table v j d lv hv lj hj ld named =
          let place = entry_place v j + d in
          let room = entry_bytes * suc (most_entries * suc most_values) in
          sym (ap (λ (l : List ℕ). get_or l place 0) entry-column
          ∙ copy_in config.values.entries (table_places config.values.count config.counts.values)
          (replicate room 0) place
          (omega (arith, length-replicate {A = ℕ} room 0, few.values, small v lv hv))
          (rows-any (eqb place) (value_places config.values.count) config.counts.values 0 v lv (omega arith)
          (rows-any (eqb place) (entry_places v) (get_or config.values.count v 0) 0 j lj (omega arith) named)))

      first : (p : ℕ) → any (eqb (p + 0)) (p ∷ (p + 1) ∷ (p + 2) ∷ []) ≡ true
      first p = or_left (eqb (p + 0) p) _ (eq-eqb (p + 0) p (omega arith))

      second : (p : ℕ) → any (eqb (p + 1)) (p ∷ (p + 1) ∷ (p + 2) ∷ []) ≡ true
      second p =
          or_right (eqb (p + 1) p) _ (or_left (eqb (p + 1) (p + 1)) _ (eq-eqb (p + 1) (p + 1) refl))

      third : (p : ℕ) → any (eqb (p + 2)) (p ∷ (p + 1) ∷ (p + 2) ∷ []) ≡ true
      third p =
          or_right (eqb (p + 2) p) _
          (or_right (eqb (p + 2) (p + 1)) _ (or_left (eqb (p + 2) (p + 2)) false (eq-eqb (p + 2) (p + 2) refl)))

      same-entry : (v j : ℕ) → 1 ≤ v → v ≤ config.counts.values → 1 ≤ j → j ≤ get_or config.values.count v 0
          → entry_at config.values.entries (entry_place v j) ≡ entry_at (told config).values.entries (entry_place v j)
      same-entry v j lv hv lj hj =
          let p = entry_place v j in
          let z : p + 0 ≡ p = omega arith in
          let a = at_table v j 0 lv hv lj hj (omega arith) (first p) in
          let a₀ : get_or config.values.entries p 0 ≡ get_or (told config).values.entries p 0 =
          subst (λ (q : ℕ). get_or config.values.entries q 0 ≡ get_or (told config).values.entries q 0) z a in
          let b = at_table v j 1 lv hv lj hj (omega arith) (second p) in
          let c = at_table v j 2 lv hv lj hj (omega arith) (third p) in
          λ i. record { object = a₀ i; mode = b i; value = c i }

      pub told_same : SameFile config (told config)
      told_same = record {
        counts = refl;
        kind = λ n low high.
            at_column config.objects.kind config.counts.objects (suc most_objects) n low high
            (omega (arith, few.objects))
            ∙ ap (λ (l : List ℕ). get_or l n 0) (sym kinds);
        class = λ n low high.
            at_column config.objects.class config.counts.objects (suc most_objects) n low high
            (omega (arith, few.objects))
            ∙ ap (λ (l : List ℕ). get_or l n 0) (sym classes);
        owner = λ n low high.
            at_column config.objects.owner config.counts.objects (suc most_objects) n low high
            (omega (arith, few.objects))
            ∙ ap (λ (l : List ℕ). get_or l n 0) (sym owners);
        hardcoded = λ n low high.
            at_column config.devices.hardcoded config.counts.devices (suc most_devices) n low high
            (omega (arith, few.devices))
            ∙ ap (λ (l : List ℕ). get_or l n 0) (sym hardcodeds);
        serial = λ n low high.
            at_column config.devices.serial config.counts.devices (suc most_devices) n low high
            (omega (arith, few.devices))
            ∙ ap (λ (l : List ℕ). get_or l n 0) (sym serials);
        count = λ n low high.
            at_column config.values.count config.counts.values (suc most_values) n low high
            (omega (arith, few.values))
            ∙ ap (λ (l : List ℕ). get_or l n 0) (sym count-column);
        entry = same-entry;
      }

  -- the places that are not named are 0 in it
  at_unnamed : (src : List ℕ) (n : ℕ) (places column : List ℕ) → column ≡ copy_at src places (replicate n 0)
      → ZeroBut n places column
  at_unnamed src n places column e = subst (ZeroBut n places) (sym e) (copied_zeros src n places)

  pub told-zeros : (few : FewCounts config.counts) → Trimmed (told config)
  told-zeros few = record {
    kind = at_unnamed config.objects.kind _ _ _ kinds;
    class = at_unnamed config.objects.class _ _ _ classes;
    owner = at_unnamed config.objects.owner _ _ _ owners;
    hardcoded = at_unnamed config.devices.hardcoded _ _ _ hardcodeds;
    serial = at_unnamed config.devices.serial _ _ _ serials;
    count = at_unnamed config.values.count _ _ _ count-column;
    entries =
        subst (λ (places : List ℕ). ZeroBut (entry_bytes * suc (most_entries * suc most_values)) places
        (told config).values.entries)
        (rows_same (value_places config.values.count) (value_places (told config).values.count)
        config.counts.values 0
        (λ v low high.
        ap (λ (n : ℕ). rows_from (entry_places v) n 0)
        (at_column few config.values.count config.counts.values (suc most_values) v low (omega arith)
        (omega (arith, few.values))
        ∙ ap (λ (l : List ℕ). get_or l v 0) (sym count-column))))
        (at_unnamed config.values.entries _ _ _ entry-column);
  }

  -- a configuration with 0 at every place that is not named is the one that its file tells
  pub told_trimmed : Trimmed config → told config ≡ config
  told_trimmed t =
      let k = kinds ∙ copied_all config.objects.kind _ _ t.kind in
      let c = classes ∙ copied_all config.objects.class _ _ t.class in
      let o = owners ∙ copied_all config.objects.owner _ _ t.owner in
      let h = hardcodeds ∙ copied_all config.devices.hardcoded _ _ t.hardcoded in
      let sn = serials ∙ copied_all config.devices.serial _ _ t.serial in
      let n = count-column ∙ copied_all config.values.count _ _ t.count in
      let e = entry-column ∙ copied_all config.values.entries _ _ t.entries in
      λ i. record {
        counts = config.counts;
        objects = record { kind = k i; class = c i; owner = o i };
        devices = record { hardcoded = h i; serial = sn i };
        values = record { count = n i; entries = e i };
      }
