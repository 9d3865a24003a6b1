-- Request N1: the file of a configuration that was loaded is the file that it came from.
use Prim.Native.Nat.{ℕ, ◌+◌, ◌≤◌, ◌<◌}
use mathlib.Core.Path.{◌≡◌, refl, sym, ap, ◌∙◌, subst}
use mathlib.Core.List.{List, [], ◌++◌, append-nil}
use mathlib.Core.Bool.{Bool, true, false}
use native.Mathlib.Omega.{arith}
use lib.ListN.{length, drop}
use lib.Seq.{drop-length}
use lib.Dec.{eqb}
use borrow.Author.Tests.{eqb-true}
use Rattle.model.specs.Base.{all, every}
use Rattle.model.specs.Config.{blank_objects, blank_devices, blank_values}
use Rattle.model.specs.ConfigFile.{
  Progress,
  read,
  on_reading,
  counts_row,
  counts_of,
  counts_to,
  counts_at,
  objects_at,
  devices_at,
  values_at,
  paired,
  restrained,
  accepted,
  refused,
  ask,
  judged,
  after_counts,
  after_group,
  groups_to,
  load_to,
  load,
}
use Rattle.model.specs.ConfigWrite.{
  counts_numbers,
  object_rows,
  device_rows,
  value_rows,
  object_table,
  device_table,
  value_table,
  row_bytes,
  rows_bytes,
  file_of,
  in_row,
  right_row,
  in_ranges,
  Trimmed,
}
use Rattle.model.specs.Reading.{Reading}
use Rattle.model.specs.Reading.{At, Refused}
use Rattle.model.specs.Head.{Head}
use Rattle.model.specs.Head.{Counted, Stopped}
use Rattle.model.specs.declared.Counts.{Counts}
use Rattle.model.specs.declared.Config.{Config}
use Rattle.model.specs.Loaded.{Loaded}
use Rattle.model.proofs.Lists.{both_true, every_intro}
use Rattle.model.proofs.NumberBytes.{Bytes}
use Rattle.model.proofs.GroupsWritten.{
  DevicesFit,
  ObjectsFit,
  ValuesFit,
  devices-written,
  objects-written,
  values-written,
}
use Rattle.model.proofs.Rows.{EndAt, Ended, Written, list_5, row_width, row_written}
use Rattle.model.proofs.FileWritten.{few-counts, ranges_asked, written-told}
use Rattle.model.proofs.FileTold.{told, told-zeros}

-- the counts
abbrev pub HeadTold : (Counts → ℕ → Type 0) → Head → Type 0
HeadTold Q (Counted n next) = Q n next
HeadTold Q (Stopped q) = 1 ≤ q

-- what holds of every refusal holds of an answer, if it holds where all was read and asked
module _ (Q : Loaded → Type 0) (refusal : (q : ℕ) → 1 ≤ q → Q (refused q)) where
  pub ask_holds : (q : ℕ) → 1 ≤ q → (t : Bool) (rest : Loaded) → (t ≡ true → Q rest) → Q (ask q t rest)
  unfolding ask
  ask_holds q low true rest h = h refl
  ask_holds q low false rest h = refusal q low

  pub group_holds : {T : Type 0} (P : ℕ → T → Type 0) (p : Progress T) (k : T → ℕ → Loaded) → Ended P p
      → ((t : T) (next : ℕ) → P next t → p ≡ read t next → Q (k t next)) → Q (after_group p k)
  unfolding after_group on_reading read
  group_holds {T} P p k h go_on = go p.reading p.table h (λ t next q e. go_on t next q e)
    where
      go : (r : Reading) (t : T) → EndAt P r t
          → ((u : T) (next : ℕ) → P next u → record { reading = r; table = t } ≡ read u next → Q (k u next))
          → Q (on_reading refused r (k t))
      go (At next) t h f = f t next h refl
      go (Refused q) t h f = refusal q h

  pub counts_hold : (C : Counts → ℕ → Type 0) (p : Head) (k : Counts → ℕ → Loaded) → HeadTold C p
      → ((n : Counts) (next : ℕ) → C n next → Q (k n next)) → Q (after_counts p k)
  unfolding after_counts
  counts_hold C (Counted n next) k h go_on = go_on n next h
  counts_hold C (Stopped q) k h go_on = refusal q h

-- what an answer of 0 tells: the configuration is in range, and its file is s
record Kept (s : List ℕ) (l : Loaded) : Type 0 where
  ranges : l.answer ≡ 0 → in_ranges l.config ≡ true
  pairs : l.answer ≡ 0 → paired l.config ≡ true
  wires : l.answer ≡ 0 → restrained l.config ≡ true
  file : l.answer ≡ 0 → file_of l.config ≡ s

refused-kept : (s : List ℕ) (q : ℕ) → 1 ≤ q → Kept s (refused q)
unfolding refused
refused-kept s q low = record {
  ranges = λ e. absurd (omega arith);
  pairs = λ e. absurd (omega arith);
  wires = λ e. absurd (omega arith);
  file = λ e. absurd (omega arith);
}

judged-kept : (s : List ℕ) (at : ℕ) (config : Config) → in_ranges config ≡ true
    → (drop at s ≡ [] → file_of config ≡ s) → Kept s (judged s at config)
unfolding judged accepted
judged-kept s at config ranges file =
    ask_holds (Kept s) (refused-kept s) 4 (omega arith) (eqb at (length s)) _ λ rest.
    ask_holds (Kept s) (refused-kept s) 5 (omega arith) (paired config) _ λ pairs.
    ask_holds (Kept s) (refused-kept s) 6 (omega arith) (restrained config) (accepted config) λ wires.
    record {
      ranges = λ e. ranges;
      pairs = λ e. pairs;
      wires = λ e. wires;
      file = λ e. file (ap (λ (i : ℕ). drop i s) (eqb-true at (length s) rest) ∙ drop-length s);
    }

abbrev pub Counting : List ℕ → Counts → ℕ → Type 0
Counting s counts next =
    (in_row counts_row (counts_numbers counts) ≡ true) ×
    (s ≡ row_bytes counts_row (counts_numbers counts) ++ drop next s)

pub counts-kept : (s : List ℕ) → Bytes s → HeadTold (Counting s) (counts_at s)
unfolding counts_to
counts-kept s bytes =
    row_written s bytes (HeadTold (Counting s)) Stopped (λ q low. low) counts_row
    (λ vs next. Counted (counts_of vs) next) 0
    λ vs next r w.
    let five = list_5 vs (row_width counts_row 5 (λ e d v n k. refl) vs r) in
    let all_five : vs ≡ counts_numbers (counts_of vs) = five in
    (ap (in_row counts_row) (sym all_five) ∙ r, w ∙ ap (λ (x : List ℕ). row_bytes counts_row x ++ drop next s) all_five)

pub ranges : (config : Config) → in_row counts_row (counts_numbers config.counts) ≡ true
    → every config.counts.objects
    (λ o. all right_row (object_rows config.counts config.objects o)) ≡ true
    → every config.counts.devices
    (λ c. all right_row (device_rows config.counts config.devices c)) ≡ true
    → every config.counts.values
    (λ v. all right_row (value_rows config.counts config.objects.kind config.values v)) ≡ true
    → in_ranges config ≡ true
unfolding in_ranges
ranges config a b c d = both_true (both_true (both_true a b) c) d

whole : (config : Config) (s : List ℕ) (a b c d : ℕ)
    → s ≡ row_bytes counts_row (counts_numbers config.counts) ++ drop a s
    → drop a s ≡ rows_bytes (object_table config) ++ drop b s → drop b s ≡ rows_bytes (device_table config) ++ drop c s
    → drop c s ≡ rows_bytes (value_table config) ++ drop d s → drop d s ≡ [] → file_of config ≡ s
unfolding file_of
whole config s a b c d p q r t e =
    let z = t ∙ (ap (λ (x : List ℕ). rows_bytes (value_table config) ++ x) e ∙ append-nil (rows_bytes
    (value_table config))) in
    sym (p ∙ ap (λ (x : List ℕ). row_bytes counts_row (counts_numbers config.counts) ++ x)
    (q ∙ ap (λ (x : List ℕ). rows_bytes (object_table config) ++ x)
    (r ∙ ap (λ (x : List ℕ). rows_bytes (device_table config) ++ x) z)))

pub every-right : (n : ℕ) (p : ℕ → Bool) → ((k : ℕ) → 0 < k → k ≤ 0 + n → p k ≡ true) → every n p ≡ true
every-right n p h = every_intro n p (λ i low high. h i low (omega arith))

load_kept : (s : List ℕ) → Bytes s → Kept s (load s)
unfolding load_to groups_to
load_kept s bytes =
    counts_hold (Kept s) (refused-kept s) (Counting s) (counts_at s) _ (counts-kept s bytes) λ counts a hc.
    let few = few-counts counts hc.0 in
    group_holds (Kept s) (refused-kept s) (Written s (object_rows counts) ObjectsFit blank_objects a 0 counts.objects)
    (objects_at s counts a) _ (objects-written s bytes counts a few.objects) λ objects b ho eo.
    group_holds (Kept s) (refused-kept s) (Written s (device_rows counts)
    (DevicesFit s bytes counts) blank_devices b 0 counts.devices)
    (devices_at s counts b) _ (devices-written s bytes counts b few.devices) λ devices c hd ed.
    group_holds (Kept s) (refused-kept s)
    (Written s (value_rows counts objects.kind) (ValuesFit s bytes counts objects.kind)
    blank_values c 0 counts.values) (values_at s counts objects.kind c) _
    (values-written s bytes counts objects.kind c few.values) λ values d hv ev.
    let config : Config = record { counts = counts; objects = objects; devices = devices; values = values } in
    judged-kept s d config
    (ranges config hc.0
    (every-right counts.objects (λ o. all right_row (object_rows counts objects o)) ho.right)
    (every-right counts.devices (λ c. all right_row (device_rows counts devices c)) hd.right)
    (every-right counts.values
    (λ v. all right_row (value_rows counts objects.kind values v)) hv.right))
    (λ end. whole config s a b c d hc.1 ho.bytes hd.bytes hv.bytes end)

-- N1: a loaded file is written as the bytes that it came from
pub loaded_written : (file : List ℕ) → Bytes file → (load file).answer ≡ 0 → file_of (load file).config ≡ file
loaded_written file bytes h = (load_kept file bytes).file h

-- N1: two accepted files with the same configuration are the same file
pub loaded_once : (file other : List ℕ) → Bytes file → Bytes other → (load file).answer ≡ 0 → (load other).answer ≡ 0
    → (load file).config ≡ (load other).config → file ≡ other
loaded_once file other bytes more h k e =
    sym (loaded_written file bytes h) ∙ (ap file_of e ∙ loaded_written other more k)

-- N1: every byte of a loaded configuration that the file does not tell is 0
pub loaded_trimmed : (file : List ℕ) → Bytes file → (load file).answer ≡ 0 → Trimmed (load file).config
unfolding accepted
loaded_trimmed file bytes h =
    let k = load_kept file bytes in
    let config = (load file).config in
    let e : load file ≡ accepted (told config) =
    ap load (sym (k.file h)) ∙ written-told config (k.ranges h) (k.pairs h) (k.wires h) in
    subst Trimmed (sym (ap (λ (l : Loaded). l.config) e))
    (told-zeros config (ranges_asked config (k.ranges h)).few)
