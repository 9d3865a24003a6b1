-- The first no gives its number: of a list of questions, and of a call.
use Prim.Native.Nat.{ℕ, zero, suc}
use mathlib.Core.Path.{◌≡◌, refl, sym, ap, ◌∙◌, subst}
use mathlib.Core.Logic.{◌↔◌, ◌⊎◌, inl, inr}
use mathlib.Core.List.{List, [], ◌∷◌, ◌++◌}
use mathlib.Core.Bool.{Bool, true, false, not, cond, ◌&&◌, true≢false, false≢true}
use lib.ListN.{length}
use lib.Dec.{eqb, leb}
use borrow.Author.Tests.{eqb-true, eq-eqb}
use Rattle.model.specs.Base.{all}
use Rattle.model.specs.State.{area_length, view, well_formed}
use Rattle.model.specs.Operation.{number, after_code, ended, read_operation_by, read_operation}
use Rattle.model.specs.Effect.{answer_bytes}
use Rattle.model.specs.Questions.{ask, judge}
use Rattle.model.specs.Gate.{or_else, judged, verdict}
use Rattle.sources.specs.Gate.{Source, config_of, fresh_on, operate_on}
use Rattle.sources.specs.FirstNo.{
  Question,
  EachYes,
  FirstNo,
  before,
  yes_to,
  call_questions,
  fresh_questions,
  Gives,
  CallFirstNo,
  FreshFirstNo,
}
use Rattle.model.specs.Parse.{Parse}
use Rattle.model.proofs.Lists.{and_l, and_r, not_eqb, bool_cases}
use Rattle.sources.proofs.Calls.{call_answer}

-- the answer of a list of questions, as they are asked
abbrev pub first : List Question → ℕ
first [] = 0
first (q ∷ qs) = ask q.number q.yes (first qs)

pub first-yes : (qs : List Question) → EachYes qs → first qs ≡ 0
first-yes [] h = refl
first-yes (q ∷ qs) h = ap (λ (t : Bool). ask q.number t (first qs)) h.0 ∙ first-yes qs h.1

-- it is the number of the first no
first_no_lem : (l : List Question) (q : Question) (m : List Question) → EachYes l → q.yes ≡ false
    → first (l ++ (q ∷ m)) ≡ q.number
first_no_lem [] q m h e = ap (λ (t : Bool). ask q.number t (first m)) e
first_no_lem (p ∷ l) q m h e =
    ap (λ (t : Bool). ask p.number t (first (l ++ (q ∷ m)))) h.0 ∙ first_no_lem l q m h.1 e

first_cases : (qs : List Question) → FirstNo qs (first qs)
first_cases [] = inl (refl, tt)
first_cases (q ∷ qs) = go (bool_cases q.yes) (first_cases qs)
  where
    go : (q.yes ≡ true) ⊎ (q.yes ≡ false) → FirstNo qs (first qs) → FirstNo (q ∷ qs) (first (q ∷ qs))
    go (inr e) r =
        inr (record {
          before = [];
          no = q;
          later = qs;
          split = refl;
          yes-before = tt;
          is_no = e;
          number = sym (ap (λ (t : Bool). ask q.number t (first qs)) e);
        })
    go (inl e) (inl (z, y)) = inl (ap (λ (t : Bool). ask q.number t (first qs)) e ∙ z, (e, y))
    go (inl e) (inr r) =
        inr (record {
          before = q ∷ r.before;
          no = r.no;
          later = r.later;
          split = ap (λ (l : List Question). q ∷ l) r.split;
          yes-before = (e, r.yes-before);
          is_no = r.is_no;
          number = r.number ∙ sym (ap (λ (t : Bool). ask q.number t (first qs)) e);
        })

pub first-exact : (qs : List Question) (n : ℕ) → (first qs ≡ n) ↔ FirstNo qs n
first-exact qs n = ((λ e. subst (FirstNo qs) e (first_cases qs)), back)
  where
    back : FirstNo qs n → first qs ≡ n
    back (inl (z, y)) = first-yes qs y ∙ sym z
    back (inr r) =
        ap first r.split ∙ (first_no_lem r.before r.no r.later r.yes-before r.is_no ∙ r.number)

-- where the numbers are different from one another and from 0
abbrev pub apart : List Question → Bool
apart [] = true
apart (q ∷ qs) = not (eqb q.number 0) && (all (λ p. not (eqb p.number q.number)) qs && apart qs)

module _ (n : ℕ) where
  -- no question of a list has the number
  other : (qs : List Question) → all (λ p. not (eqb p.number n)) qs ≡ true → (n ≡ 0 → ⊥) → first qs ≡ n → ⊥
  other [] h z e = z (sym e)
  other (q ∷ qs) h z e = go q.yes e (other qs (and_r (not (eqb q.number n)) _ h) z)
    where
      go : (t : Bool) → ask q.number t (first qs) ≡ n → (first qs ≡ n → ⊥) → ⊥
      go true k r = r k
      go false k r = not_eqb q.number n (and_l (not (eqb q.number n)) _ h) k

pub first_zero : (qs : List Question) → apart qs ≡ true → first qs ≡ 0 → EachYes qs
first_zero [] h e = tt
first_zero (q ∷ qs) h e =
    go (bool_cases q.yes)
    (first_zero qs (and_r (all (λ p. not (eqb p.number q.number)) qs) (apart qs)
    (and_r (not (eqb q.number 0)) _ h)))
  where
    go : (q.yes ≡ true) ⊎ (q.yes ≡ false) → (first qs ≡ 0 → EachYes qs) → EachYes (q ∷ qs)
    go (inl k) r = (k, r (sym (ap (λ (t : Bool). ask q.number t (first qs)) k) ∙ e))
    go (inr k) r =
        absurd (not_eqb q.number 0 (and_l (not (eqb q.number 0)) _ h)
        (sym (ap (λ (t : Bool). ask q.number t (first qs)) k) ∙ e))

-- a question's number is the answer exactly if it is a no and each before it a yes
pub first-each : (qs : List Question) → apart qs ≡ true → (n : ℕ) → (n ≡ 0 → ⊥)
    → (first qs ≡ n) ↔ (EachYes (before n qs) × (yes_to n qs ≡ false))
first-each [] h n z = ((λ e. absurd (z (sym e))), λ y. absurd (true≢false y.1))
first-each (q ∷ qs) h n z =
    go (eqb q.number n) q.yes refl refl (first-each qs (and_r others (apart qs) rest) n z)
  where
    others : Bool
    others = all (λ p. not (eqb p.number q.number)) qs

    rest : others && apart qs ≡ true
    rest = and_r (not (eqb q.number 0)) _ h

    none : q.number ≡ n → first qs ≡ n → ⊥
    none e k =
        other q.number qs (and_l others (apart qs) rest)
        (not_eqb q.number 0 (and_l (not (eqb q.number 0)) _ h))
        (k ∙ sym e)

    go : (s t : Bool) → eqb q.number n ≡ s → q.yes ≡ t
        → (first qs ≡ n) ↔ (EachYes (before n qs) × (yes_to n qs ≡ false))
        → (ask q.number t (first qs) ≡ n)
        ↔ (EachYes (cond s [] (q ∷ before n qs)) × (cond s t (yes_to n qs) ≡ false))
    go true true es et r =
        ((λ e. absurd (none (eqb-true q.number n es) e)), λ y. absurd (true≢false y.1))
    go true false es et r = ((λ e. (tt, refl)), λ y. eqb-true q.number n es)
    go false true es et r = ((λ e. let y = r.0 e in ((et, y.0), y.1)), λ y. r.1 (y.0.1, y.1))
    go false false es et r = (
      (λ e. absurd (true≢false (sym (eq-eqb q.number n e) ∙ es))),
      λ y. absurd (false≢true (sym et ∙ y.0.0)),
    )

-- question 10 as the others are asked
ended_ten : (t : Bool) (parse : Parse) (rest : ℕ)
    → or_else (ended t parse).0 rest ≡ ask 10 (eqb (ended t parse).0 0) rest
unfolding ended
ended_ten true parse rest = refl
ended_ten false parse rest = refl

read_ten : (bytes : List ℕ) (rest : ℕ)
    → or_else (read_operation bytes).0 rest ≡ ask 10 (eqb (read_operation bytes).0 0) rest
unfolding read_operation_by
read_ten bytes rest =
    let parse = number bytes 0 (after_code bytes) in
    ended_ten (eqb parse.answer 0 && eqb parse.at (length bytes)) parse rest

-- a call
module _ (source : Source) (area bytes answer : List ℕ) where
  abbrev questions : List Question
  questions = call_questions source area bytes answer

  pub verdict-first : verdict source.room (config_of source) (read_operation bytes) area answer ≡ first questions
  unfolding judge
  verdict-first =
      ap (λ (n : ℕ). ask 7 (eqb (length area) (area_length source.room)) (ask 8 (leb answer_bytes (length answer))
      (ask 9 (well_formed source.room (config_of source) (view source.room area)) n)))
      (read_ten bytes (judged (config_of source) (read_operation bytes).1 (view source.room area)))

  pub answer-first : (operate_on source area bytes answer).0 ≡ or_else source.loaded.answer (first questions)
  answer-first =
      call_answer source area bytes answer ∙ ap (or_else source.loaded.answer) verdict-first

-- an answer that is that of a list, after what was loaded
answers : (loaded : ℕ) (qs : List Question) (answer : ℕ) → apart qs ≡ true → answer ≡ or_else loaded (first qs)
    → Gives loaded qs answer
answers loaded qs answer differ e =
    record {
      refused = λ h. e ∙ go loaded h (first qs);
      first = λ h n. (
        (λ k. (first-exact qs n).0 (sym (on h) ∙ k)),
        λ y. on h ∙ (first-exact qs n).1 y,
      );
      accepted = λ h. ((λ k. first_zero qs differ (sym (on h) ∙ k)), λ y. on h ∙ first-yes qs y);
      each = λ h n z. (
        (λ k. (first-each qs differ n z).0 (sym (on h) ∙ k)),
        λ y. on h ∙ (first-each qs differ n z).1 y,
      );
    }
  where
    on : loaded ≡ 0 → answer ≡ first qs
    on h = e ∙ ap (λ (n : ℕ). or_else n (first qs)) h

    go : (n : ℕ) → (n ≡ 0 → ⊥) → (m : ℕ) → or_else n m ≡ n
    go zero h m = absurd (h refl)
    go (suc n) h m = refl

-- the theorem, of any source: the numbers of the list are different
pub call_first_no : CallFirstNo
call_first_no source area bytes answer =
    answers source.loaded.answer (call_questions source area bytes answer)
    (operate_on source area bytes answer).0 refl (answer-first source area bytes answer)

pub fresh-first_no : FreshFirstNo
unfolding fresh_on
fresh-first_no source area =
    answers source.loaded.answer (fresh_questions source area) (fresh_on source area).0 refl refl
