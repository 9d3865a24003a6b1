-- The theorems about records: how long they are, that longer ones are refused, and what request N7 made readable.
use Prim.Native.Nat.{ℕ, zero, suc, ◌≤◌, ◌<◌}
use mathlib.Core.Path.{◌≡◌, refl, sym, ap, ◌∙◌, subst}
use mathlib.Core.Logic.{◌⊎◌, inl, inr}
use mathlib.Core.List.{List}
use mathlib.Core.Bool.{Bool, true, false, ◌&&◌, true≢false}
use native.Mathlib.Omega.{arith}
use lib.ListN.{length}
use lib.Dec.{leb, eqb}
use Rattle.model.specs.Number.{most_number, most_before}
use Rattle.model.specs.State.{State, area_length, view, well_formed}
use Rattle.model.specs.Operation.{
  number_by,
  family_of,
  actor_of,
  after_code_by,
  Parsed,
  ended,
  read_operation_by,
  read_operation,
}
use Rattle.model.specs.Effect.{answer_bytes}
use Rattle.model.specs.Questions.{ask, judge, q11}
use Rattle.model.specs.Gate.{or_else, judged, verdict, Outcome}
use Rattle.sources.specs.Gate.{Source, config_of, file_source, fresh_on, operate_on}
use Rattle.sources.specs.Separation.{final}
use Rattle.model.specs.Parse.{Parse}
use Rattle.model.specs.declared.Config.{Config}
use Rattle.model.proofs.Lists.{not-true, no_both}
use Rattle.model.proofs.OldRecords.{old_records}
use Rattle.model.proofs.Accepted.{Few, load_answers}
use Rattle.sources.proofs.Sources.{Fits, file-fits}
use Rattle.sources.proofs.Calls.{call_answer, fresh_zero}
use Rattle.sources.proofs.Answers.{refusal-leaves}
use Rattle.sources.proofs.Reached.{reached_judged}
use Rattle.continuity.specs.Records.{
  most_record,
  numbers_in,
  within,
  RecordLengths,
  asks11,
  RecordMostOn,
  RecordMost,
  LongRefusedOn,
  LongRefused,
  ReadBefore,
  NewRecordsOn,
  NewRecords,
}
use Rattle.continuity.proofs.RecordLength.{record-whole}
use Rattle.continuity.proofs.RecordMost.{passed_11}
use Rattle.sources.proofs.FileCalls.{file-operate}

pub record_lengths : RecordLengths
record_lengths bytes z = (record-whole most_before most_number (omega arith) bytes z).long

pub record-most_on : (source : Source) → Fits source → RecordMostOn source
record-most_on source fits bytes accepted z h =
    let l = record_lengths bytes z in
    let m = (passed_11 (config_of source) (fits.sound accepted).few bytes z h).0 in
    omega (arith, l, m)

pub record-most : RecordMost
record-most file = record-most_on (file_source file) (file-fits file)

-- question 10 answers 0 or 10
pub read_number : (most : ℕ) (s : List ℕ) → ((read_operation_by most s).0 ≡ 0) ⊎ ((read_operation_by most s).0 ≡ 10)
unfolding read_operation_by ended
read_number most s =
    let p = number_by most s 0 (after_code_by most s) in
    go (eqb p.answer 0 && eqb p.at (length s)) p
  where
    go : (t : Bool) (p : Parse) → ((ended t p).0 ≡ 0) ⊎ ((ended t p).0 ≡ 10)
    go true p = inl refl
    go false p = inr refl

-- where question 11 answers no, the answer of 11 to 23 is 11
pub judged_11 : (config : Config) (b : State) (bytes : List ℕ) → asks11 config bytes ≡ false
    → judged config (read_operation bytes).1 b ≡ 11
unfolding judge
judged_11 config b bytes e =
    let op = (read_operation bytes).1 in
    first (q11 config op (family_of op.code) (actor_of op.code)) _ e
  where
    first : (t : Bool) (rest : ℕ) → t ≡ false → ask 11 t rest ≡ 11
    first true rest e = absurd (true≢false e)
    first false rest e = refl

-- a longer record
module _ (source : Source) (fits : Fits source) (area bytes answer : List ℕ) (few : source.loaded.answer ≤ 6)
    (long : most_record < length bytes) where
  abbrev number : ℕ
  number = (operate_on source area bytes answer).0

  too_long_lem : source.loaded.answer ≡ 0 → (read_operation bytes).0 ≡ 0
      → judged (config_of source) (read_operation bytes).1 (view source.room area) ≡ 11
  too_long_lem accepted z =
      judged_11 (config_of source) (view source.room area) bytes
      (not-true (asks11 (config_of source) bytes)
      (λ h. absurd (let m = record-most_on source fits bytes accepted z h in omega (arith, m, long))))

  in_range : (1 ≤ number) × (number ≤ 11)
  in_range =
      let e = call_answer source area bytes answer in
      let r = all_of source.loaded.answer refl in
      (omega (arith, e, r.0), omega (arith, e, r.1))
    where
      rest : ℕ
      rest = judged (config_of source) (read_operation bytes).1 (view source.room area)

      read : (n : ℕ) → (n ≡ 0) ⊎ (n ≡ 10) → (n ≡ 0 → rest ≡ 11) → (1 ≤ or_else n rest) × (or_else n rest ≤ 11)
      read zero s h = let z = h refl in (omega (arith, z), omega (arith, z))
      read (suc n) (inl e) h = absurd (omega (arith, e))
      read (suc n) (inr e) h = (omega arith, omega (arith, e))

      asked : (t u v : Bool) (n : ℕ) → (1 ≤ n) × (n ≤ 11)
          → (1 ≤ ask 7 t (ask 8 u (ask 9 v n))) × (ask 7 t (ask 8 u (ask 9 v n)) ≤ 11)
      asked true true true n h = h
      asked true true false n h = (omega arith, omega arith)
      asked true false v n h = (omega arith, omega arith)
      asked false u v n h = (omega arith, omega arith)

      all_of : (n : ℕ) → source.loaded.answer ≡ n
          → (1 ≤ or_else n (verdict source.room (config_of source) (read_operation bytes) area answer))
          × (or_else n (verdict source.room (config_of source) (read_operation bytes) area answer) ≤ 11)
      all_of zero e =
          asked (eqb (length area) (area_length source.room)) (leb answer_bytes (length answer))
          (well_formed source.room (config_of source) (view source.room area)) _
          (read (read_operation bytes).0 (read_number most_number bytes) (too_long_lem e))
      all_of (suc n) e = (omega arith, omega (arith, few, e))

  left_alone : (1 ≤ number) × (number ≤ 11) × ((operate_on source area bytes answer).1 ≡ area)
      × ((operate_on source area bytes answer).2 ≡ answer)
  left_alone =
      let r = refusal-leaves source area bytes answer (λ e. omega (arith, e, in_range.0)) in
      (in_range.0, in_range.1, r.0, r.1)

pub long-refused_on : (source : Source) → Fits source → LongRefusedOn source
long-refused_on = left_alone

pub long-refused : LongRefused
long-refused file area bytes answer long =
    subst (λ (x : Outcome). (1 ≤ x.0) × (x.0 ≤ 11) × (x.1 ≡ area) × (x.2 ≡ answer))
    (file-operate file area bytes answer)
    (long-refused_on (file_source file) (file-fits file) area bytes answer (load_answers file) long)

-- a record that request N7 made readable has a number above the limit of before
new_large : (bytes : List ℕ) → (read_operation bytes).0 ≡ 0 → ((read_operation_by most_before bytes).0 ≡ 0 → ⊥)
    → within most_before (numbers_in (read_operation bytes).1) ≡ false
new_large bytes z old =
    not-true (within most_before (numbers_in (read_operation bytes).1)) λ h.
    absurd (old (ap (λ (r : Parsed). r.0) ((record-whole most_before most_number (omega arith) bytes z).less h) ∙ z))

pub read-before : ReadBefore
read-before bytes z = (
  (λ old. subst (λ (r : Parsed). within most_before (numbers_in r.1) ≡ true) (sym (old_records bytes old))
      (record-whole most_before most_before (omega arith) bytes old).high),
  λ h. ap (λ (r : Parsed). r.0) ((record-whole most_before most_number (omega arith) bytes z).less h) ∙ z,
)

-- so that question 11 refuses it
pub new_11 : (config : Config) → Few config → (bytes : List ℕ) → (read_operation bytes).0 ≡ 0
    → ((read_operation_by most_before bytes).0 ≡ 0 → ⊥) → asks11 config bytes ≡ false
new_11 config few bytes z old =
    not-true (asks11 config bytes) λ h.
    absurd (no_both (within most_before (numbers_in (read_operation bytes).1)) (passed_11 config few bytes z h).1
    (new_large bytes z old))

pub new_records_on : (source : Source) → Fits source → NewRecordsOn source
new_records_on source fits bytes z old = (
  new_large bytes z old,
  λ area h calls answer l.
      let few = (fits.sound (fresh_zero source area h).0).few in
      reached_judged source fits area h calls bytes answer l
      ∙ (ap (λ (n : ℕ). or_else n (judged (config_of source) (read_operation bytes).1
      (final source (fresh_on source area).1 calls))) z
      ∙ judged_11 (config_of source) (final source (fresh_on source area).1 calls) bytes
      (new_11 (config_of source) few bytes z old)),
)

pub new_records : NewRecords
new_records file = new_records_on (file_source file) (file-fits file)
