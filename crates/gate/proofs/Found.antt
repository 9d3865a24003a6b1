-- The first bad record of a state area, by its ways out: the file is refused, the area has another length, or the walk
-- decides. Assumes nothing.
use Prim.Native.Nat.{ℕ, zero, suc}
use mathlib.Core.Path.{◌≡◌, refl, ap}
use mathlib.Core.List.{List}
use mathlib.Core.Bool.{Bool, true, false}
use lib.ListN.{length}
use lib.Dec.{eqb}
use Rattle.model.specs.Answers.{number_of}
use Rattle.model.specs.ConfigFile.{load, accepted, refused}
use Rattle.model.specs.State.{records, area_length, view, first_bad}
use Rattle.model.specs.Gate.{or_else, needed_by, first_bad_in}
use Rattle.model.specs.declared.Config.{Config}
use Rattle.model.specs.declared.Question.{Question}
use Rattle.model.specs.Written.{Length, Refused}
use Rattle.gate.proofs.Told

module _ (file area : List ℕ) where
  pub file-refused : (q : Question) → refused (number_of q) ≡ load file
      → Refused (number_of q) ≡ first_bad_in file area
  unfolding first_bad_in refused
  file-refused q e = rw (← e) (go (number_of q) _ _ (Told.some q))
    where
      go : (q n m : ℕ) → (q ≡ 0 → ⊥) → Refused q ≡ needed_by (or_else q n) m
      go zero n m h = absurd (h refl)
      go (suc q) n m h = refl

  module _ (config : Config) (e : accepted config ≡ load file) {room : ℕ} (k : room ≡ records config) {t : Bool}
      (f : t ≡ eqb (length area) (area_length room)) where
    pub length_refused : t ≡ false → Refused 7 ≡ first_bad_in file area
    unfolding first_bad_in accepted
    length_refused x = rw (← e, ← k, ← f, x) refl

    pub place_found : t ≡ true → {place : ℕ} → place ≡ first_bad room config (view room area)
        → Length place ≡ first_bad_in file area
    unfolding first_bad_in accepted
    place_found x p = rw (← e, ← k, ← f, x) (ap Length p)
