-- Request N2: the length that a host is told is the one that question 7 asks for.
use Prim.Native.Nat.{ℕ, zero, suc, ◌≤◌, ◌<◌}
use mathlib.Core.Path.{◌≡◌, refl, sym, ap, ◌∙◌}
use mathlib.Core.Logic.{◌↔◌}
use mathlib.Core.List.{List}
use native.Mathlib.Omega.{arith}
use lib.ListN.{length}
use borrow.Author.Tests.{ne_eqb}
use Rattle.model.specs.ConfigFile.{load}
use Rattle.model.specs.State.{records, area_length}
use Rattle.model.specs.Gate.{needed_by, state_bytes, make_fresh, operate}
use Rattle.model.specs.Rewriting.{kind_unit, kind_of_answer, number_of_answer}
use Rattle.model.specs.Written.{Length, Refused}
use Rattle.model.proofs.Accepted.{load_answers}
use Rattle.model.proofs.Facts.{room_most}
use Rattle.model.proofs.Calls.{call_answer}
use Rattle.model.proofs.FileQuestions.{file-yes}
use Rattle.model.proofs.FreshAnswers as Fresh

length_is : (n m : ℕ) → Length n ≡ Length m → n ≡ m
length_is n m e = ap number_of_answer e

refused_is : (p q : ℕ) → Refused p ≡ Refused q → p ≡ q
refused_is p q e = ap number_of_answer e

-- a length is no refusal
apart : (n q : ℕ) → Length n ≡ Refused q → ⊥
apart n q e = let k = ap kind_of_answer e in absurd (omega (arith, k))

pub needed_length : (q n m : ℕ) → (needed_by q n ≡ Length m) ↔ ((q ≡ 0) × (n ≡ m))
needed_length zero n m = ((λ e. (refl, length_is n m e)), λ y. ap Length y.1)
needed_length (suc q) n m = ((λ e. absurd (apart m (suc q) (sym e))), λ y. absurd (let z = y.0 in omega arith))

pub needed_refused : (q n p : ℕ) → (needed_by q n ≡ Refused p) ↔ ((q ≡ p) × (p ≡ 0 → ⊥))
needed_refused zero n p = ((λ e. absurd (apart n p e)), λ y. absurd (y.1 (sym y.0)))
needed_refused (suc q) n p =
    ((λ e. let k = refused_is (suc q) p e in (k, λ z. absurd (omega (arith, k, z)))), λ y. ap Refused y.0)

module _ (file : List ℕ) where
  -- a file that is not accepted is refused with its number
  pub bytes-refused : (q : ℕ) → (state_bytes file ≡ Refused q) ↔ (((load file).answer ≡ q) × (q ≡ 0 → ⊥))
  unfolding state_bytes
  bytes-refused q = needed_refused (load file).answer _ q

  -- a fresh state can be made in an area exactly if it has the length told
  pub bytes_made : (area : List ℕ) → (state_bytes file ≡ Length (length area)) ↔ ((make_fresh file area).0 ≡ 0)
  unfolding state_bytes
  bytes_made area =
      let n = needed_length (load file).answer (area_length (records (load file).config)) (length area) in
      let f = Fresh.fresh_zero file area in (
        (λ e. let y = n.0 e in f.1 ((file-yes file).0 y.0, sym y.1)),
        λ h. let y = f.0 h in n.1 ((file-yes file).1 y.0, sym y.1),
      )

  -- an accepted line refuses every call on an area of another length by 7
  pub bytes-asked : (load file).answer ≡ 0 → (area bytes answer : List ℕ)
      → (state_bytes file ≡ Length (length area) → ⊥) → (operate file area bytes answer).0 ≡ 7
  unfolding state_bytes
  bytes-asked z area bytes answer other =
      let n = area_length (records (load file).config) in
      let no : (length area ≡ n) → ⊥ =
      λ e. other ((needed_length (load file).answer n (length area)).1 (z, sym e)) in
      call_answer file z area bytes answer ∙ rw (z, ne_eqb (length area) n no)

  -- the number told is below the unit of kinds, so that C can take the two apart
  pub bytes-number : number_of_answer (state_bytes file) < kind_unit
  unfolding state_bytes
  bytes-number = go (load file).answer (load_answers file)
    where
      go : (q : ℕ) → q ≤ 6 → number_of_answer (needed_by q (area_length (records (load file).config))) < kind_unit
      go zero h = omega (arith, room_most (load file).config.counts.objects)
      go (suc q) h = omega arith
