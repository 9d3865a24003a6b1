-- Request N1: the file of a configuration that meets questions 3, 5 and 6 loads as that configuration in all that a
-- file tells.
use Prim.Native.Nat.{ℕ, zero, suc, ◌+◌, ◌≤◌}
use mathlib.Core.Path.{◌≡◌, refl, sym, ap, ◌∙◌, subst}
use mathlib.Core.List.{List, [], ◌∷◌, ◌++◌, append-nil}
use mathlib.Core.Bool.{Bool, true, false, ◌&&◌, cond}
use native.Mathlib.Omega.{arith}
use lib.ListN.{length, get_or}
use lib.Dec.{leb, eqb}
use borrow.Author.Tests.{leb-true, eq-eqb}
use Rattle.model.specs.Base.{all, every}
use Rattle.model.specs.Config.{
  most_drivers,
  most_devices,
  most_objects,
  most_values,
  most_entries,
  most_mode,
  hardcoded_of,
  most_edition,
}
use Rattle.model.specs.ConfigFile.{
  Progress,
  read,
  on_reading,
  done,
  field,
  counts_row,
  value_row,
  entry_row,
  counts_of,
  counts_to,
  stored_most,
  objects_at,
  devices_at,
  values_at,
  paired,
  restrained,
  accepted,
  ask,
  judged,
  after_counts,
  after_group,
  groups_from,
  groups_to,
  load_to,
  load,
}
use Rattle.model.specs.ConfigWrite.{
  rows_from,
  counts_numbers,
  entry_numbers,
  count_numbers,
  object_rows,
  device_rows,
  entry_rows,
  value_rows,
  object_table,
  device_table,
  value_table,
  row_bytes,
  rows_bytes,
  file_of,
  in_row,
  right_row,
  in_ranges,
  ask_first,
  write_question,
  SameFile,
  Trimmed,
}
use Rattle.model.specs.Head.{Head}
use Rattle.model.specs.Head.{Counted, Stopped}
use Rattle.model.specs.declared.Counts.{Counts}
use Rattle.model.specs.declared.Values.{Values}
use Rattle.model.specs.declared.Config.{Config}
use Rattle.model.specs.Loaded.{Loaded}
use Rattle.model.proofs.Lists.{and_l, and_r, every_at}
use Rattle.model.proofs.FileRead.{FewCounts, counts_bounded, devices-read, objects-read, values-read}
use Rattle.model.proofs.NumberBytes.{Here}
use Rattle.model.proofs.SameFile.{every-same, same-paired, same-restrained, value-bytes-same}
use Rattle.model.proofs.Rows.{row_head, row_read}
use Rattle.model.proofs.FileTold.{told, told_same, told_trimmed}

-- what question 3 of the writer tells
pub few-counts : (counts : Counts) → in_row counts_row (counts_numbers counts) ≡ true → FewCounts counts
few-counts counts h =
    let e = row_head 1 most_edition _ counts.edition _ h in
    let d = row_head 0 most_drivers _ counts.drivers _ e.2 in
    let v = row_head 0 most_devices _ counts.devices _ d.2 in
    let n = row_head 0 most_objects _ counts.objects _ v.2 in
    let k = row_head 0 most_values _ counts.values _ n.2 in
    record { drivers = d.1; devices = v.1; objects = n.1; values = k.1 }

pub record RangesAsked (config : Config) : Type 0 where
  pub few : FewCounts config.counts
  pub counts : in_row counts_row (counts_numbers config.counts) ≡ true
  pub objects : every config.counts.objects
      (λ o. all right_row (object_rows config.counts config.objects o)) ≡ true
  pub devices : every config.counts.devices
      (λ c. all right_row (device_rows config.counts config.devices c)) ≡ true
  pub values : every config.counts.values
      (λ v. all right_row (value_rows config.counts config.objects.kind config.values v)) ≡ true

pub ranges_asked : (config : Config) → in_ranges config ≡ true → RangesAsked config
unfolding in_ranges
ranges_asked config h =
    let c : in_row counts_row (counts_numbers config.counts) ≡ true = search (and_l, and_r) in
    record {
      few = few-counts config.counts c;
      counts = c;
      objects = search (and_l, and_r);
      devices = search (and_l, and_r);
      values = search (and_l, and_r);
    }

module _ (config : Config) (r : RangesAsked config) where
  pub few-entries : (v : ℕ) → 1 ≤ v → v ≤ config.counts.values → get_or config.values.count v 0 ≤ most_entries
  unfolding in_row
  few-entries v low high =
      let k =
      every_at config.counts.values
      (λ v. all right_row (value_rows config.counts config.objects.kind config.values v))
      r.values v low high in
      leb-true (get_or config.values.count v 0) most_entries (search (and_l, and_r))

  pub hardcoded-within : (c : ℕ) → 1 ≤ c → c ≤ config.counts.devices → hardcoded_of config c ≤ config.counts.values
  unfolding in_row
  hardcoded-within c low high =
      let k =
      every_at config.counts.devices
      (λ c. all right_row (device_rows config.counts config.devices c)) r.devices c low high in
      leb-true (hardcoded_of config c) config.counts.values (search (and_l, and_r))

-- an entry's ranges by columns of kinds that agree
under : (b x y : Bool) → (b ≡ true → x ≡ y) → b && x ≡ b && y
under true x y h = h refl
under false x y h = refl

entry-row-same : (counts : Counts) (k l : List ℕ) → ((n : ℕ) → 1 ≤ n → n ≤ counts.objects → get_or k n 0 ≡ get_or l n 0)
    → (vs : List ℕ) → in_row (entry_row counts k) vs ≡ in_row (entry_row counts l) vs
unfolding in_row stored_most
entry-row-same counts k l h [] = refl
entry-row-same counts k l h (o ∷ vs) =
    under (leb 1 o && leb o counts.objects) _ _ λ g.
    let e =
    h o (leb-true 1 o (and_l (leb 1 o) (leb o counts.objects) g))
    (leb-true o counts.objects (and_r (leb 1 o) (leb o counts.objects) g)) in
    ap (λ (x : ℕ).
    in_row (field 1 most_mode λ mode. field 0 (cond (eqb x 1 && leb 2 mode) counts.values 0) λ w. done) vs) e

pub value-rows-same : (counts : Counts) (k l : List ℕ)
    → ((n : ℕ) → 1 ≤ n → n ≤ counts.objects → get_or k n 0 ≡ get_or l n 0)
    → (src : Values) (v : ℕ) → all right_row (value_rows counts k src v) ≡ all right_row (value_rows counts l src v)
unfolding rows_from
value-rows-same counts k l h src v =
    ap (λ (t : Bool). in_row value_row (count_numbers src v) && t) (go (get_or src.count v 0) 0)
  where
    go : (n i : ℕ) → all right_row (rows_from (entry_rows counts k src v) n i) ≡ all right_row (rows_from
        (entry_rows counts l src v) n i)
    go zero i = refl
    go (suc n) i =
        let e = entry-row-same counts k l h (entry_numbers src v (i + 1)) in
        let r = go n (i + 1) in
        λ x. e x && r x

-- the whole file
after_read : {T : Type 0} (p : Progress T) (t : T) (next : ℕ) (k : T → ℕ → Loaded) → p ≡ read t next
    → after_group p k ≡ k t next
unfolding after_group on_reading read
after_read p t next k e = rw e

judged-yes : (s : List ℕ) (at : ℕ) (config : Config) → at ≡ length s → paired config ≡ true → restrained config ≡ true
    → judged s at config ≡ accepted config
unfolding judged ask
judged-yes s at config e p q = rw (eq-eqb at (length s) e, p, q)

-- the configuration that a file tells is accepted, whatever else stood in memory
pub written-told : (config : Config) → in_ranges config ≡ true → paired config ≡ true → restrained config ≡ true
    → load (file_of config) ≡ accepted (told config)
unfolding load_to groups_to file_of after_counts counts_to
written-told config h p q =
    let r = ranges_asked config h in
    let s = file_of config in
    let n = config.counts in
    let os = rows_bytes (object_table config) in
    let ds = rows_bytes (device_table config) in
    let vs = rows_bytes (value_table config) in
    let same = told_same config r.few (few-entries config r) in
    let start : Here s (length s) 0 (row_bytes counts_row (counts_numbers n) ++ (os ++ (ds ++ vs))) =
    record { rest = refl; total = omega arith } in
    let (a, ea, ha) =
    row_read s (length s) Stopped counts_row counts_bounded (counts_numbers n) r.counts (λ vs next. Counted
    (counts_of vs) next) 0
    (os ++ (ds ++ vs)) start in
    let (b, eb, hb) = objects-read s (length s) n r.few config.objects r.objects a (ds ++ vs) ha in
    let (c, ec, hc) = devices-read s (length s) n r.few config.devices r.devices b vs hb in
    let values : every n.values (λ v. all right_row (value_rows n (told config).objects.kind
    config.values v)) ≡ true =
    sym (every-same n.values (λ v. all right_row (value_rows n config.objects.kind config.values v))
    (λ v. all right_row (value_rows n (told config).objects.kind config.values v)) (λ v low high.
    value-rows-same n config.objects.kind (told config).objects.kind same.kind config.values v))
    ∙ r.values in
    let (d, ed, hd) =
    values-read s (length s) n r.few (told config).objects.kind config.values values c []
    (subst (Here s (length s) c)
    (value-bytes-same n config.objects.kind (told config).objects.kind config.values n.values
    ∙ sym (append-nil (rows_bytes (rows_from (value_rows n (told config).objects.kind config.values)
    n.values 0)))) hc) in
    let z = hd.total in
    ap (λ (x : Head). after_counts x (groups_from s)) ea
    ∙ (after_read (objects_at s n a) (told config).objects b _ eb
    ∙ (after_read (devices_at s n b) (told config).devices c _ ec
    ∙ (after_read (values_at s n (told config).objects.kind c) (told config).values d _ ed
    ∙ judged-yes s d (told config) (omega arith) (sym (same-paired config (told config) same) ∙ p)
    (sym (same-restrained config (told config) same (hardcoded-within config r)) ∙ q))))

-- N1: what the writer's questions let by
asked_zero : (q : ℕ) (t : Bool) (rest : ℕ) → ask_first (suc q) t rest ≡ 0 → (t ≡ true) × (rest ≡ 0)
asked_zero q true rest h = (refl, h)
asked_zero q false rest h = absurd (omega arith)

pub writable : (config : Config) → write_question config ≡ 0
    → (in_ranges config ≡ true) × (paired config ≡ true) × (restrained config ≡ true)
unfolding write_question
writable config h =
    let a = asked_zero 2 (in_ranges config) _ h in
    let b = asked_zero 4 (paired config) _ a.1 in
    let c = asked_zero 5 (restrained config) _ b.1 in
    (a.0, b.0, c.0)

-- N1: a written file loads, as the same configuration in all that a file tells
pub written_loads : (config : Config) → write_question config ≡ 0
    → ((load (file_of config)).answer ≡ 0) × SameFile config (load (file_of config)).config
unfolding accepted
written_loads config h =
    let (a, b, c) = writable config h in
    let e = written-told config a b c in
    let r = ranges_asked config a in (
      ap (λ (l : Loaded). l.answer) e,
      subst (λ (l : Loaded). SameFile config l.config) (sym e) (told_same config r.few (few-entries config r)),
    )

-- N1: if besides the places that are not named are 0, it is that configuration
pub canonical : (config : Config) → write_question config ≡ 0 → Trimmed config → load (file_of config) ≡ accepted config
canonical config h t =
    let (a, b, c) = writable config h in
    written-told config a b c ∙ ap accepted (told_trimmed config t)
