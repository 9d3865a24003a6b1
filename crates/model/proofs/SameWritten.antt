-- Request N1: two configurations that tell the same file are answered alike by the writer, and leave the same area. So
-- what no number of a configuration names is neither looked at nor refused.
use Prim.Native.Nat.{ℕ}
use mathlib.Core.Path.{◌≡◌, refl, sym, ap, ◌∙◌}
use mathlib.Core.List.{List, [], ◌∷◌}
use mathlib.Core.Bool.{Bool, true, false, ◌&&◌}
use lib.ListN.{length}
use Rattle.model.specs.Base.{all, every}
use Rattle.model.specs.ConfigFile.{counts_row, object_row, device_row, paired, restrained}
use Rattle.model.specs.ConfigWrite.{
  counts_numbers,
  object_rows,
  device_rows,
  value_rows,
  in_row,
  right_row,
  in_ranges,
  ask_first,
  write_question,
  writing,
  write_answer,
  after_writing,
  write_area,
  SameFile,
}
use Rattle.model.specs.declared.Counts.{Counts}
use Rattle.model.specs.declared.Config.{Config}
use Rattle.model.proofs.SameFile.{every-same, same-paired, same-restrained, value-rows, same_bytes_lem}
use Rattle.model.proofs.FileWritten.{ranges_asked, hardcoded-within, value-rows-same}

module _ (config other : Config) (same : SameFile config other) where
  -- question 3
  objects-asked : every config.counts.objects (λ o. all right_row (object_rows config.counts config.objects o))
      ≡ every config.counts.objects (λ o. all right_row (object_rows config.counts other.objects o))
  objects-asked =
      every-same config.counts.objects _ _ (λ o low high.
      let k = same.kind o low high in
      let l = same.class o low high in
      let m = same.owner o low high in
      λ x. all right_row (record { row = object_row config.counts; numbers = k x ∷ l x ∷ m x ∷ [] } ∷ []))

  devices-asked : every config.counts.devices (λ c. all right_row (device_rows config.counts config.devices c))
      ≡ every config.counts.devices (λ c. all right_row (device_rows config.counts other.devices c))
  devices-asked =
      every-same config.counts.devices _ _ (λ c low high.
      let h = same.hardcoded c low high in
      let e = same.serial c low high in
      λ x. all right_row (record { row = device_row config.counts; numbers = h x ∷ e x ∷ [] } ∷ []))

  values-asked : every config.counts.values
      (λ v. all right_row (value_rows config.counts config.objects.kind config.values v))
      ≡ every config.counts.values
      (λ v. all right_row (value_rows config.counts other.objects.kind other.values v))
  values-asked =
      every-same config.counts.values _ _ (λ v low high.
      ap (all right_row) (value-rows config other same config.objects.kind v low high)
      ∙ value-rows-same config.counts config.objects.kind other.objects.kind same.kind other.values v)

  pub same_ranges : in_ranges config ≡ in_ranges other
  unfolding in_ranges
  same_ranges =
      let o = objects-asked in
      let d = devices-asked in
      let v = values-asked in
      let f : Counts → Bool = λ counts.
      in_row counts_row (counts_numbers counts)
      && every counts.objects (λ o. all right_row (object_rows counts other.objects o))
      && every counts.devices (λ c. all right_row (device_rows counts other.devices c))
      && every counts.values (λ v. all right_row (value_rows counts other.objects.kind other.values v)) in
      (λ x. in_row counts_row (counts_numbers config.counts) && o x && d x && v x) ∙ ap f same.counts

  -- the first of questions 3, 5 and 6; entries behind a hardcoded number are looked at only if it is in range
  pub same_question : write_question config ≡ write_question other
  unfolding write_question
  same_question = go (in_ranges config) refl
    where
      ask_both : (a b c : Bool) → ℕ
      ask_both a b c = ask_first 3 a (ask_first 5 b (ask_first 6 c 0))

      go : (a : Bool) → in_ranges config ≡ a
          → ask_both (in_ranges config) (paired config) (restrained config)
          ≡ ask_both (in_ranges other) (paired other) (restrained other)
      go true h =
          let a = same_ranges in
          let b = same-paired config other same in
          let c = same-restrained config other same (hardcoded-within config (ranges_asked config h)) in
          λ x. ask_both (a x) (b x) (c x)
      go false h =
          let e : in_ranges other ≡ false = sym same_ranges ∙ h in
          (λ x. ask_both (h x) (paired config) (restrained config))
          ∙ λ x. ask_both (sym e x) (paired other) (restrained other)

  -- N1: two lines that differ only where nothing is named are answered alike, and leave the same area
  pub same_answer : (room : ℕ) → write_answer config room ≡ write_answer other room
  unfolding write_answer
  same_answer room =
      let q = same_question in
      let f = same_bytes_lem config other same in
      λ x. writing (q x) (length (f x)) room

  pub same_area : (area : List ℕ) → write_area config area ≡ write_area other area
  unfolding write_area
  same_area area =
      let a = same_answer (length area) in
      let f = same_bytes_lem config other same in
      λ x. after_writing (a x) (f x) area
