-- Request N8: what the theorems about calls need of a source, and that a file has it.
use mathlib.Core.Path.{◌≡◌}
use mathlib.Core.List.{List}
use Prim.Native.Nat.{ℕ, ◌≤◌}
use Rattle.sources.specs.Gate.{Source, config_of, file_source}
use Rattle.model.proofs.Accepted.{Sound, load-sound}
use Rattle.model.proofs.Facts.{objects_room}

-- what was accepted is sound, and the area has a record for each object
pub record Fits (source : Source) : Type 0 where
  pub sound : source.loaded.answer ≡ 0 → Sound (config_of source)
  pub roomy : source.loaded.answer ≡ 0 → (config_of source).counts.objects ≤ source.room

pub file-fits : (file : List ℕ) → Fits (file_source file)
file-fits file =
    record { sound = load-sound file; roomy = λ h. objects_room (config_of (file_source file)) (load-sound file h) }
