-- Making a fresh state: accepted exactly if questions 1 to 7 are a yes; it answers 0 to 7; a refusal leaves the area.
use Prim.Native.Nat.{ℕ, zero, suc, ◌≤◌}
use mathlib.Core.Path.{◌≡◌, refl, ◌∙◌}
use mathlib.Core.Logic.{◌↔◌}
use mathlib.Core.List.{List}
use mathlib.Core.Bool.{Bool, true, false}
use native.Mathlib.Omega.{arith}
use lib.ListN.{length}
use lib.Dec.{eqb}
use borrow.Author.Tests.{eqb-true, eq-eqb}
use Rattle.model.specs.ConfigFile.{load}
use Rattle.model.specs.FileQuestions.{FileYes}
use Rattle.model.specs.State.{records, area_length}
use Rattle.model.specs.Questions.{ask}
use Rattle.model.specs.Gate.{or_else, fresh_after, fresh_answer, make_fresh}
use Rattle.model.proofs.Accepted.{load_answers}
use Rattle.model.proofs.FileQuestions.{file-yes}
use Rattle.model.proofs.Facts.{asked}
use Rattle.model.proofs.Calls.{or_else_zero}
use Rattle.model.proofs.Demand2.{ask_true}

-- a question that is answered yes hands on
pub or_zero : (n rest : ℕ) → n ≡ 0 → or_else n rest ≡ rest
or_zero n rest h = rw h

module _ (file area : List ℕ) where
  -- question 7
  abbrev long : Bool
  long = eqb (length area) (area_length (records (load file).config))

  pub fresh_zero : ((make_fresh file area).0 ≡ 0)
      ↔ (FileYes file × (length area ≡ area_length (records (load file).config)))
  unfolding make_fresh
  fresh_zero = (
    (λ h. let h₆ = or_else_zero (load file).answer _ h in let h₇ = asked 6 long 0 h₆.1 in
        ((file-yes file).0 h₆.0, eqb-true _ _ h₇.0)),
    λ y. or_zero (load file).answer _ ((file-yes file).1 y.0) ∙ ask_true 7 long 0 (eq-eqb _ _ y.1),
  )

  pub fresh-most : (make_fresh file area).0 ≤ 7
  unfolding make_fresh
  fresh-most = go (load file).answer long (load_answers file)
    where
      go : (n : ℕ) (t : Bool) → n ≤ 6 → or_else n (ask 7 t 0) ≤ 7
      go zero true h = omega arith
      go zero false h = omega arith
      go (suc n) t h = omega arith

  -- any refusal leaves the state area unchanged
  pub fresh-leaves : ((make_fresh file area).0 ≡ 0 → ⊥) → (make_fresh file area).1 ≡ area
  unfolding make_fresh
  fresh-leaves h = go (fresh_answer (records (load file).config) (load file) area) h
    where
      go : (n : ℕ) → (n ≡ 0 → ⊥) → fresh_after (records (load file).config) n (load file).config area ≡ area
      go zero k = absurd (k refl)
      go (suc n) k = refl
