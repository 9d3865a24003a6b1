-- Making a fresh state, by its ways out: the file is refused, the area has another length, or it is made.
-- Assumes nothing.
use Prim.Native.Nat.{ℕ, zero, suc}
use mathlib.Core.Path.{◌≡◌, refl}
use mathlib.Core.List.{List}
use mathlib.Core.Bool.{Bool, true, false}
use lib.ListN.{length}
use lib.Dec.{eqb}
use Rattle.model.specs.Answers.{number_of}
use Rattle.model.specs.Config.{blank}
use Rattle.model.specs.ConfigFile.{load, accepted, refused}
use Rattle.model.specs.State.{records, area_length, layout, fresh}
use Rattle.model.specs.Gate.{fresh_answer, fresh_after, make_fresh}
use Rattle.model.specs.Programs.{Made}
use Rattle.model.specs.declared.Config.{Config}
use Rattle.model.specs.declared.Question.{Question}
use Rattle.gate.proofs.Told

module _ (file area : List ℕ) where
  pub file-refused : (q : Question) → refused (number_of q) ≡ load file → Made file area (number_of q) area
  unfolding make_fresh refused
  file-refused q e = rw (← e) (go (number_of q) blank (Told.some q))
    where
      go : (q : ℕ) (config : Config) → (q ≡ 0 → ⊥)
          → let a = fresh_answer (records config) (record { answer = q; config = config }) area in
          (q ≡ a) × (area ≡ fresh_after (records config) a config area)
      go zero config n = absurd (n refl)
      go (suc q) config n = (refl, refl)

  module _ (config : Config) (e : accepted config ≡ load file) {room : ℕ} (k : room ≡ records config) {b : Bool}
      (h : b ≡ eqb (length area) (area_length room)) where
    pub other_length : b ≡ false → Made file area 7 area
    unfolding make_fresh accepted
    other_length f = rw (← e, ← k, ← h, f) (refl, refl)

    pub made : {t : List ℕ} → b ≡ true → t ≡ layout (fresh room config) → Made file area 0 t
    unfolding make_fresh accepted
    made y p = rw (← e, ← k, ← h, y, p) (refl, refl)
