-- The length of the state area that a line needs, by its ways out; and that the room for it is small. Assumes nothing.
use Prim.Native.Nat.{ℕ, zero, suc, ◌≤◌}
use mathlib.Core.Path.{◌≡◌, refl, ap, ◌∙◌}
use mathlib.Core.List.{List}
use native.Mathlib.Omega.{arith}
use Rattle.model.specs.Config.{most_objects}
use Rattle.model.specs.Number.{most_number}
use Rattle.model.specs.Answers.{number_of}
use Rattle.model.specs.ConfigFile.{load, accepted, refused}
use Rattle.model.specs.State.{room_for, area_length}
use Rattle.model.specs.Gate.{needed_by, state_bytes}
use Rattle.model.specs.declared.Config.{Config}
use Rattle.model.specs.declared.Question.{Question}
use Rattle.model.specs.Written.{Length, Refused}
use Rattle.model.proofs.Facts.{room_most}
use Rattle.gate.proofs.Told

module _ (n : ℕ) {room : ℕ} (k : room ≡ room_for n) where
  pub room_small : room ≤ most_number
  room_small = omega (arith, k, room_most n)

  pub room_fits : room ≤ most_objects
  room_fits = omega (arith, k, room_most n)

module _ (file : List ℕ) where
  pub needed_refused : (q : Question) → refused (number_of q) ≡ load file → Refused (number_of q) ≡ state_bytes file
  unfolding state_bytes refused
  needed_refused q e = rw (← e) (go (number_of q) _ (Told.some q))
    where
      go : (q m : ℕ) → (q ≡ 0 → ⊥) → Refused q ≡ needed_by q m
      go zero m n = absurd (n refl)
      go (suc q) m n = refl

  pub needed_length : (config : Config) → accepted config ≡ load file → {room : ℕ}
      → room ≡ room_for config.counts.objects → {m : ℕ} → m ≡ area_length room → Length m ≡ state_bytes file
  unfolding state_bytes accepted
  needed_length config e k m = rw (← e) (ap Length (m ∙ ap area_length k))
