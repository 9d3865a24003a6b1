-- Request N3: the first bad record of an area as a host is told it, beside question 9 of the calls.
use Prim.Native.Nat.{ℕ, zero, suc, ◌≤◌, ◌<◌}
use mathlib.Core.Path.{◌≡◌, refl, sym, ap, ◌∙◌}
use mathlib.Core.Logic.{◌↔◌, ◌⊎◌, inl, inr, ⊎_elim}
use mathlib.Core.List.{List}
use mathlib.Core.Bool.{Bool, true, false, ◌&&◌, true≢false, false≢true}
use native.Mathlib.Omega.{arith}
use lib.ListN.{length}
use lib.Dec.{leb, eqb}
use borrow.Author.Tests.{eqb-false, eq-eqb, ne_eqb, le-leb, leb-true}
use Rattle.model.specs.ConfigFile.{load}
use Rattle.model.specs.State.{State, records, area_length, well_formed, head_formed, first_bad}
use Rattle.model.specs.Operation.{read_operation}
use Rattle.model.specs.Effect.{answer_bytes}
use Rattle.model.specs.Questions.{ask}
use Rattle.model.specs.Gate.{or_else, judged, fresh_answer, make_fresh, first_bad_in, operate}
use Rattle.model.specs.Rewriting.{kind_unit, number_of_answer}
use Rattle.model.specs.Demand2.{config_in, state_in}
use Rattle.model.specs.declared.Config.{Config}
use Rattle.model.specs.Written.{Length, Refused}
use Rattle.model.proofs.Facts.{room_most}
use Rattle.model.proofs.Calls.{call_answer}
use Rattle.model.proofs.Walk.{first_bad_lem, formed_walk}
use Rattle.model.proofs.AnswerRange.{later_holds}
use Rattle.model.proofs.FileQuestions.{file-yes}
use Rattle.model.proofs.FreshAnswers.{fresh_zero, fresh-most}
use Rattle.model.proofs.AreaNeeded.{needed_length, needed_refused}

-- no walk yields more than the room
walk_most : (room : ℕ) (config : Config) (b : State) → first_bad room config b ≤ room
walk_most room config b = go (first_bad room config b) refl
  where
    go : (k : ℕ) → first_bad room config b ≡ k → first_bad room config b ≤ room
    go zero e = omega (arith, e)
    go (suc k) e = omega (arith, e, ((first_bad_lem config b room).1 k e).0)

-- questions 1 to 6 of a file, then 7: which of them is answered with no
seven_asked : (n : ℕ) (t : Bool) (q : ℕ) → ((or_else n (ask 7 t 0) ≡ q) × (q ≡ 0 → ⊥))
    ↔ (((n ≡ q) × (q ≡ 0 → ⊥)) ⊎ ((n ≡ 0) × (t ≡ false) × (q ≡ 7)))
seven_asked zero true q = (
  (λ y. absurd (y.1 (sym y.0))),
  λ y. ⊎_elim (λ z. absurd (z.1 (sym z.0))) (λ z. absurd (true≢false z.1)) y,
)
seven_asked zero false q = (
  (λ y. inr (refl, refl, sym y.0)),
  λ y. ⊎_elim (λ z. absurd (z.1 (sym z.0))) (λ z. (sym z.2, λ e. let s = z.2 in omega arith)) y,
)
seven_asked (suc n) t q = ((λ y. inl y), λ y. ⊎_elim (λ z. z) (λ z. let s = z.0 in absurd (omega arith)) y)

-- with 1 to 7 a yes, 9 is the answer exactly if 8 is a yes and 9 is not
nine_asked : (t u : Bool) (rest : ℕ) → (rest ≡ 9 → ⊥)
    → (ask 8 t (ask 9 u rest) ≡ 9) ↔ ((t ≡ true) × (u ≡ false))
nine_asked true true rest other = ((λ e. absurd (other e)), λ y. absurd (true≢false y.1))
nine_asked true false rest other = ((λ e. (refl, refl)), λ y. refl)
nine_asked false u rest other = ((λ e. absurd (omega arith)), λ y. absurd (false≢true y.0))

-- a test of the head and of a walk
head_or_walk : (t : Bool) (k : ℕ) → ((t && eqb k 0) ≡ false) ↔ ((t ≡ false) ⊎ (k ≡ 0 → ⊥))
head_or_walk true k = (
  (λ e. inr (eqb-false k 0 e)),
  λ y. ⊎_elim (λ z. absurd (true≢false z)) (λ z. ne_eqb k 0 z) y,
)
head_or_walk false k = ((λ e. inl refl), λ y. refl)

module _ (file area : List ℕ) where
  abbrev config : Config
  config = config_in file

  abbrev room : ℕ
  room = records config

  abbrev state : State
  state = state_in file area

  -- the number of questions 1 to 7, and the walk's
  abbrev asked : ℕ
  asked = fresh_answer room (load file) area

  abbrev found : ℕ
  found = first_bad room config state

  -- refused by the number of a file that is not accepted; else by 7, where the area has another length
  pub bad_refused : (q : ℕ) → (first_bad_in file area ≡ Refused q)
      ↔ ((((load file).answer ≡ q) × (q ≡ 0 → ⊥))
      ⊎ (((load file).answer ≡ 0) × (length area ≡ area_length room → ⊥) × (q ≡ 7)))
  unfolding first_bad_in
  bad_refused q =
      let n = needed_refused asked found q in
      let s = seven_asked (load file).answer (eqb (length area) (area_length room)) q in (
        (λ e. ⊎_elim inl (λ z. inr (z.0, eqb-false (length area) (area_length room) z.1, z.2)) (s.0 (n.0 e))),
        λ y. n.1 (s.1 (⊎_elim inl (λ z. inr (z.0, ne_eqb (length area) (area_length room) z.1, z.2)) y)),
      )

  -- else the place is the walk's
  pub bad_place : (k : ℕ) → (first_bad_in file area ≡ Length k)
      ↔ (((load file).answer ≡ 0) × (length area ≡ area_length room) × (first_bad room config state ≡ k))
  unfolding first_bad_in make_fresh
  bad_place k =
      let n = needed_length asked found k in
      let f = fresh_zero file area in (
        (λ e. let y = n.0 e in let h = f.0 y.0 in ((file-yes file).1 h.0, h.1, y.1)),
        λ y. n.1 (f.1 ((file-yes file).0 y.0, y.1), y.2),
      )

  -- questions 10 to 23 of an operation's bytes
  abbrev later : List ℕ → ℕ
  later bytes = or_else (read_operation bytes).0 (judged config (read_operation bytes).1 state)

  -- with 1 to 7 a yes, a call puts 8 and 9, and then those
  from_eight : (load file).answer ≡ 0 → length area ≡ area_length room → (bytes answer : List ℕ)
      → (operate file area bytes answer).0
      ≡ ask 8 (leb answer_bytes (length answer)) (ask 9 (well_formed room config state) (later bytes))
  from_eight z e bytes answer =
      call_answer file z area bytes answer ∙ rw (z, eq-eqb (length area) (area_length room) e) refl

  -- a call then answers 9 exactly if its answer area is long enough, and a rule of the head is broken or a place is
  -- found: a broken head alone gives 9 and place 0, and a place gives 9 whatever stands in the head
  pub bad_nine : (k : ℕ) → first_bad_in file area ≡ Length k → (bytes answer : List ℕ)
      → ((operate file area bytes answer).0 ≡ 9)
      ↔ ((answer_bytes ≤ length answer) × ((head_formed config state ≡ false) ⊎ (k ≡ 0 → ⊥)))
  bad_nine k e bytes answer =
      let y = (bad_place k).0 e in
      let c = from_eight y.0 y.1 bytes answer in
      let n = nine_asked (leb answer_bytes (length answer)) (well_formed room config state) (later bytes)
      (later_holds (λ n. n ≡ 9 → ⊥) (λ z. omega arith) (λ n low high z. omega arith) config state bytes) in
      let h = head_or_walk (head_formed config state) k in
      let w : well_formed room config state ≡ (head_formed config state && eqb k 0) =
      formed_walk room config state ∙ ap (λ (j : ℕ). head_formed config state && eqb j 0) y.2 in (
        (λ z. let p = n.0 (sym c ∙ z) in (leb-true answer_bytes (length answer) p.0, h.0 (sym w ∙ p.1))),
        λ z. c ∙ n.1 (le-leb answer_bytes (length answer) z.0, w ∙ h.1 z.1),
      )

  -- whatever is given: 1 to 7, or a place of at most the room
  pub bad_most : ((q : ℕ) × (first_bad_in file area ≡ Refused q) × (1 ≤ q) × (q ≤ 7))
      ⊎ ((k : ℕ) × (first_bad_in file area ≡ Length k) × (k ≤ records config))
  unfolding first_bad_in make_fresh
  bad_most = go asked refl (fresh-most file area)
    where
      go : (q : ℕ) → asked ≡ q → q ≤ 7
          → ((q : ℕ) × (first_bad_in file area ≡ Refused q) × (1 ≤ q) × (q ≤ 7))
          ⊎ ((k : ℕ) × (first_bad_in file area ≡ Length k) × (k ≤ records config))
      go zero e h = inr (found, (needed_length asked found found).1 (e, refl), walk_most room config state)
      go (suc q) e h =
          inl (suc q, (needed_refused asked found (suc q)).1 (e, λ z. omega arith), omega arith, h)

  -- either number is below the unit of kinds, so that C can take the two apart
  pub bad_number : number_of_answer (first_bad_in file area) < kind_unit
  bad_number =
      ⊎_elim (λ y. let e = ap number_of_answer y.1 in omega (arith, e, y.3))
      (λ y. let e = ap number_of_answer y.1 in omega (arith, e, y.2, room_most config.counts.objects)) bad_most
