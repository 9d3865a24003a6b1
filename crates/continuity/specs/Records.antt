-- Document 01, 'Operation records': how long an operation's record is, by its numbers, which are in shortest form.
use Rattle.std.specs.Prelude.{ℕ, zero, suc, ◌+◌, ◌≤◌, ◌<◌, ◌≡◌, ◌↔◌, List, []}
use Rattle.std.specs.Prelude.{◌∷◌, ◌++◌, Bool, true, false, cond, length, leb, eqb}
use Rattle.model.specs.Base.{all}
use Rattle.model.specs.Number.{most_before, bytes_to}
use Rattle.model.specs.State.{content_bytes}
use Rattle.model.specs.Operation.{object_at, second_at, form_at, family_of, actor_of, read_operation_by, read_operation}
use Rattle.model.specs.Effect.{answer_bytes}
use Rattle.model.specs.Questions.{q11}
use Rattle.sources.specs.Gate.{Source, config_of, file_source, fresh_on, operate_on}
use Rattle.model.specs.Gate.{operate}
use Rattle.model.specs.Separation.{Call}
use Rattle.sources.specs.Separation.{area_after}
use Rattle.model.specs.declared.Family.{Family}
use Rattle.model.specs.declared.Family.TheVariants.{Write, Copy, Create, Destroy, Activate, Deactivate, Lock, Unlock}
use Rattle.model.specs.declared.Actor.{Actor}
use Rattle.model.specs.declared.Actor.TheVariants.{Driver, Device, External}
use Rattle.model.specs.declared.Config.{Config}
use Rattle.model.specs.declared.Operation.{Operation}

-- document 01, 'Operation records': the bytes of an item of a write (object, form 0 or 1, value number or raw bytes),
-- of a pair of a read, of an object of a list
abbrev pub item_length : ℕ → ℕ → ℕ → ℕ
item_length object second form = bytes_to object + (1 + cond (eqb form 0) (bytes_to second) content_bytes)

abbrev pub pair_length : ℕ → ℕ → ℕ → ℕ
pair_length object second form = bytes_to object + bytes_to second

abbrev pub listed_length : ℕ → ℕ → ℕ → ℕ
listed_length object second form = bytes_to object

-- the bytes of n items from item i on
abbrev pub items_length : (ℕ → ℕ → ℕ → ℕ) → Operation → ℕ → ℕ → ℕ
items_length size op zero i = 0
items_length size op (suc n) i =
    size (object_at op i) (second_at op i) (form_at op i) + items_length size op n (suc i)

abbrev pub counted_length : (ℕ → ℕ → ℕ → ℕ) → Operation → ℕ
counted_length size op = bytes_to op.count + items_length size op op.count 0

-- the bytes of what follows the code
abbrev pub arguments_length : Family → Actor → Operation → ℕ
arguments_length Write a op = bytes_to op.subject + counted_length item_length op
arguments_length Copy a op = bytes_to op.subject + counted_length pair_length op
arguments_length Create a op = bytes_to op.partition
arguments_length Destroy a op = bytes_to op.partition
arguments_length Activate Driver op = bytes_to op.subject + bytes_to op.partition
arguments_length Activate Device op = bytes_to op.subject + bytes_to op.partition
arguments_length Activate External op = bytes_to op.partition + counted_length listed_length op
arguments_length Deactivate Driver op = bytes_to op.subject
arguments_length Deactivate Device op = bytes_to op.subject
arguments_length Deactivate External op = bytes_to op.partition + counted_length listed_length op
arguments_length Lock a op = bytes_to op.subject
arguments_length Unlock a op = bytes_to op.subject

abbrev pub record_length : Operation → ℕ
record_length op = bytes_to op.code + arguments_length (family_of op.code) (actor_of op.code) op

-- the longest record whose numbers name what exists: a code, a driver, a count of 8, and eight times an object number
-- of two bytes, a form and sixteen raw bytes
abbrev pub most_record : ℕ
most_record = 155

-- document 01, 'Operation records': the numbers of an item of a write, of a pair of a read, of an object of a list, but
-- a form
abbrev pub item_numbers : ℕ → ℕ → ℕ → List ℕ
item_numbers object second form = object ∷ cond (eqb form 0) (second ∷ []) []

abbrev pub pair_numbers : ℕ → ℕ → ℕ → List ℕ
pair_numbers object second form = object ∷ second ∷ []

abbrev pub listed_numbers : ℕ → ℕ → ℕ → List ℕ
listed_numbers object second form = object ∷ []

abbrev pub items_numbers : (ℕ → ℕ → ℕ → List ℕ) → Operation → ℕ → ℕ → List ℕ
items_numbers numbers op zero i = []
items_numbers numbers op (suc n) i =
    numbers (object_at op i) (second_at op i) (form_at op i) ++ items_numbers numbers op n (suc i)

-- the numbers of a record, but the code, a count and forms
abbrev pub arguments_numbers : Family → Actor → Operation → List ℕ
arguments_numbers Write a op = op.subject ∷ items_numbers item_numbers op op.count 0
arguments_numbers Copy a op = op.subject ∷ items_numbers pair_numbers op op.count 0
arguments_numbers Create a op = op.partition ∷ []
arguments_numbers Destroy a op = op.partition ∷ []
arguments_numbers Activate Driver op = op.subject ∷ op.partition ∷ []
arguments_numbers Activate Device op = op.subject ∷ op.partition ∷ []
arguments_numbers Activate External op = op.partition ∷ items_numbers listed_numbers op op.count 0
arguments_numbers Deactivate Driver op = op.subject ∷ []
arguments_numbers Deactivate Device op = op.subject ∷ []
arguments_numbers Deactivate External op = op.partition ∷ items_numbers listed_numbers op op.count 0
arguments_numbers Lock a op = op.subject ∷ []
arguments_numbers Unlock a op = op.subject ∷ []

abbrev pub numbers_in : Operation → List ℕ
numbers_in op = arguments_numbers (family_of op.code) (actor_of op.code) op

-- none of some numbers is above a limit
abbrev pub within : ℕ → List ℕ → Bool
within few vs = all (λ v. leb v few) vs

-- document 01, 'Operation records': the length of a record that can be read is that of its numbers
abbrev pub RecordLengths : Type 0
RecordLengths = (bytes : List ℕ) → (read_operation bytes).0 ≡ 0 → length bytes ≡ record_length (read_operation bytes).1

-- a record that can be read and whose numbers name what exists has at most `most_record` bytes
abbrev pub asks11 : Config → List ℕ → Bool
asks11 config bytes =
    let op = (read_operation bytes).1 in
    q11 config op (family_of op.code) (actor_of op.code)

abbrev pub RecordMostOn : Source → Type 0
RecordMostOn source =
    (bytes : List ℕ) → source.loaded.answer ≡ 0 → (read_operation bytes).0 ≡ 0
    → asks11 (config_of source) bytes ≡ true → length bytes ≤ most_record

abbrev pub RecordMost : Type 0
RecordMost = (file : List ℕ) → RecordMostOn (file_source file)

-- as a host can use it: a longer record is refused in any case, by question 11 at the latest, so that a host that
-- refuses it before the call takes nothing away
abbrev pub LongRefusedOn : Source → Type 0
LongRefusedOn source =
    (area bytes answer : List ℕ) → source.loaded.answer ≤ 6 → most_record < length bytes
    → (1 ≤ (operate_on source area bytes answer).0) × ((operate_on source area bytes answer).0 ≤ 11)
    × ((operate_on source area bytes answer).1 ≡ area) × ((operate_on source area bytes answer).2 ≡ answer)

abbrev pub LongRefused : Type 0
LongRefused =
    (file area bytes answer : List ℕ) → most_record < length bytes
    → (1 ≤ (operate file area bytes answer).0) × ((operate file area bytes answer).0 ≤ 11)
    × ((operate file area bytes answer).1 ≡ area) × ((operate file area bytes answer).2 ≡ answer)

-- request N7: a record that can be read now could be read before exactly if none of its numbers is above 65,535
abbrev pub ReadBefore : Type 0
ReadBefore =
    (bytes : List ℕ) → (read_operation bytes).0 ≡ 0
    → ((read_operation_by most_before bytes).0 ≡ 0) ↔ (within most_before (numbers_in (read_operation bytes).1) ≡ true)

-- request N7: a record that can be read now and could not be before has a number above 65,535, and every call with it
-- after a list of calls from a fresh state, with an answer area that is long enough, is answered 11
abbrev pub NewRecordsOn : Source → Type 0
NewRecordsOn source =
    (bytes : List ℕ) → (read_operation bytes).0 ≡ 0 → ((read_operation_by most_before bytes).0 ≡ 0 → ⊥)
    → (within most_before (numbers_in (read_operation bytes).1) ≡ false)
    × ((area : List ℕ) → (fresh_on source area).0 ≡ 0 → (calls : List Call) (answer : List ℕ)
    → answer_bytes ≤ length answer
    → (operate_on source (area_after source (fresh_on source area).1 calls) bytes answer).0 ≡ 11)

abbrev pub NewRecords : Type 0
NewRecords = (file : List ℕ) → NewRecordsOn (file_source file)
