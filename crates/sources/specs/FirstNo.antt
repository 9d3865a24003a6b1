-- Document 01, 'The questions': 'Asked in this order; the first no gives its number. 0 is accepted.' The questions of a
-- file and those of a call, each as one list in the order in which they are asked; a request that adds a question adds
-- a row.
use Rattle.std.specs.Prelude.{ℕ, ◌≡◌, ◌↔◌, ◌⊎◌, List, [], ◌∷◌, ◌++◌, Bool}
use Rattle.std.specs.Prelude.{true, false, cond, ◌&&◌, length, ltb, leb, eqb}
use Rattle.model.specs.Base.{collect}
use Rattle.model.specs.Number.{lead, formed}
use Rattle.model.specs.ConfigFile.{paired, restrained, load}
use Rattle.model.specs.FileQuestions.{Asked, rest, size, asked, told}
use Rattle.model.specs.State.{area_length, view, well_formed}
use Rattle.model.specs.Operation.{family_of, actor_of, read_operation}
use Rattle.model.specs.Effect.{answer_bytes}
use Rattle.model.specs.Questions.{q11, q12, q13, q14, q15, q16, q17, q18, q19, q20, q21, q22, q23}
use Rattle.sources.specs.Gate.{Source, config_of, file_source, fresh_on, operate_on}
use Rattle.model.specs.Gate.{operate}
use Rattle.model.specs.Reading.{Reading}
use Rattle.model.specs.Reading.{At, Refused}

-- a question as it is put: its number, and whether it is a yes
pub record Question : Type 0 where
  pub number : ℕ
  pub yes : Bool

abbrev pub question : ℕ → Bool → Question
question n t = record { number = n; yes = t }

-- each question of a list is a yes
abbrev pub EachYes : List Question → Type 0
EachYes [] = Unit {0}
EachYes (q ∷ qs) = (q.yes ≡ true) × EachYes qs

-- 'the first no gives its number': a question of the list that is a no and has the number, each before it a yes
pub record NoGives (qs : List Question) (n : ℕ) : Type 0 where
  pub before : List Question
  pub no : Question
  pub later : List Question
  pub split : qs ≡ before ++ (no ∷ later)
  pub yes-before : EachYes before
  pub is_no : no.yes ≡ false
  pub number : no.number ≡ n

-- ... '0 is accepted': each is a yes
abbrev pub FirstNo : List Question → ℕ → Type 0
FirstNo qs n = ((n ≡ 0) × EachYes qs) ⊎ NoGives qs n

-- those of a list that are asked before the question with number n; and whether that question is a yes, as it is
-- where the list has none with this number
abbrev pub before : ℕ → List Question → List Question
before n [] = []
before n (q ∷ qs) = cond (eqb q.number n) [] (q ∷ before n qs)

abbrev pub yes_to : ℕ → List Question → Bool
yes_to n [] = true
yes_to n (q ∷ qs) = cond (eqb q.number n) q.yes (yes_to n qs)

-- 'In the file the first number that fails decides the refusal: for each, 1, then 2, then 3.'
abbrev pub number_questions : List ℕ → Asked → List Question
number_questions s a =
    question 1 (ltb (lead (rest s a)) (length (rest s a)))
    ∷ question 2 (formed (rest s a) (lead (rest s a)))
    ∷ question 3 (leb a.low (size s a) && leb (size s a) a.high) ∷ []

-- question 4: nothing is left over where the reading ended
abbrev pub ends_at : ℕ → Reading → Bool
ends_at n (At end) = eqb end n
ends_at n (Refused q) = false

-- questions 1 to 6: of each number that the file is read for, up to the first that fails; then of the file
abbrev pub file_questions : List ℕ → List Question
file_questions s =
    collect (number_questions s) (asked s)
    ++ (question 4 (ends_at (length s) (told s).reading)
    ∷ question 5 (paired (told s).table)
    ∷ question 6 (restrained (told s).table) ∷ [])

-- questions 7 to 23 of a call, in the order in which they are asked
abbrev pub call_questions : Source → List ℕ → List ℕ → List ℕ → List Question
call_questions source area bytes answer =
    let config = config_of source in
    let b = view source.room area in
    let op = (read_operation bytes).1 in
    let f = family_of op.code in
    let a = actor_of op.code in
    question 7 (eqb (length area) (area_length source.room))
    ∷ question 8 (leb answer_bytes (length answer))
    ∷ question 9 (well_formed source.room config b)
    ∷ question 10 (eqb (read_operation bytes).0 0)
    ∷ question 11 (q11 config op f a)
    ∷ question 12 (q12 op f)
    ∷ question 13 (q13 config op f)
    ∷ question 14 (q14 b op f a)
    ∷ question 15 (q15 b op f)
    ∷ question 16 (q16 b op f a)
    ∷ question 23 (q23 b op f a)
    ∷ question 17 (q17 b op f a)
    ∷ question 18 (q18 config b op f a)
    ∷ question 19 (q19 config b op f a)
    ∷ question 20 (q20 config b op f a)
    ∷ question 22 (q22 config b op f a)
    ∷ question 21 (q21 config b op f a) ∷ []

-- making a fresh state puts 7 only
abbrev pub fresh_questions : Source → List ℕ → List Question
fresh_questions source area = question 7 (eqb (length area) (area_length source.room)) ∷ []

-- questions 1 to 6: loading a file answers with the number of the first no
abbrev pub FileFirstNo : Type 0
FileFirstNo = (file : List ℕ) (n : ℕ) → ((load file).answer ≡ n) ↔ FirstNo (file_questions file) n

-- the answer of a call that puts the questions of a list, after what was loaded was answered `loaded`
pub record Gives (loaded : ℕ) (qs : List Question) (answer : ℕ) : Type 0 where
  -- a refusal of what was loaded is the answer
  pub refused : (loaded ≡ 0 → ⊥) → answer ≡ loaded
  -- otherwise the number of the first no is
  pub first : loaded ≡ 0 → (n : ℕ) → (answer ≡ n) ↔ FirstNo qs n
  -- so 0 exactly if each question is a yes, and n exactly if the question with number n is a no and each before it a
  -- yes
  pub accepted : loaded ≡ 0 → (answer ≡ 0) ↔ EachYes qs
  pub each : loaded ≡ 0 → (n : ℕ) → (n ≡ 0 → ⊥) → (answer ≡ n) ↔ (EachYes (before n qs) × (yes_to n qs ≡ false))

-- every call of every source, whatever its areas and its record are
abbrev pub CallFirstNo : Type 0
CallFirstNo =
    (source : Source) (area bytes answer : List ℕ)
    → Gives source.loaded.answer (call_questions source area bytes answer)
    (operate_on source area bytes answer).0

abbrev pub FreshFirstNo : Type 0
FreshFirstNo =
    (source : Source) (area : List ℕ)
    → Gives source.loaded.answer (fresh_questions source area) (fresh_on source area).0

-- questions 1 to 23 of a call with a file, as one list
abbrev pub OperateFirstNo : Type 0
OperateFirstNo =
    (file area bytes answer : List ℕ) (n : ℕ)
    → ((operate file area bytes answer).0 ≡ n)
    ↔ FirstNo (file_questions file ++ call_questions (file_source file) area bytes answer) n
