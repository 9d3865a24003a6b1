-- Request N7: serials change no call, over files.
use Prim.Native.Nat.{ℕ, zero, suc}
use mathlib.Core.Path.{◌≡◌, refl, sym, ap, ◌∙◌}
use mathlib.Core.List.{List}
use lib.ListN.{length}
use lib.Dec.{eqb}
use Rattle.model.specs.ConfigFile.{load}
use Rattle.model.specs.State.{records, area_length, layout}
use Rattle.model.specs.Operation.{Parsed, read_operation}
use Rattle.model.specs.Questions.{ask}
use Rattle.model.specs.Gate.{or_else, fresh_after, make_fresh, verdict, Outcome, outcome, operate}
use Rattle.model.specs.Serials.{Marked}
use Rattle.model.specs.declared.Config.{Config}
use Rattle.model.proofs.Serials.{serials_silent}
use Rattle.continuity.specs.Files.{SilentFiles}

-- the same number of objects, the same room
same-room : (config other : Config) → Marked config other → records other ≡ records config
same-room config other (edition, serials, e) = ap records e

module _ (room : ℕ) (config other : Config) (same : Marked config other) where
  called : (r : Parsed) (area answer : List ℕ)
      → outcome room (verdict room other r area answer) other r.1 area answer
      ≡ outcome room (verdict room config r area answer) config r.1 area answer
  called r area answer =
      let q = serials_silent config other same room in
      ap (λ (n : ℕ). outcome room n other r.1 area answer) (q.0 r area answer)
      ∙ q.1 (verdict room config r area answer) r.1 area answer

  made : (n : ℕ) (area : List ℕ) → fresh_after room n other area ≡ fresh_after room n config area
  made zero area = ap layout (serials_silent config other same room).2
  made (suc n) area = refl

-- a call and a fresh state by the answer of the file
abbrev number : ℕ → List ℕ → ℕ
number room area = ask 7 (eqb (length area) (area_length room)) 0

abbrev made_on : ℕ → ℕ → Config → List ℕ → ℕ × List ℕ
made_on room n config area = (or_else n (number room area), fresh_after room (or_else n (number room area)) config area)

abbrev called_on : ℕ → ℕ → Config → List ℕ → List ℕ → List ℕ → Outcome
called_on room n config area bytes answer =
    let r = read_operation bytes in
    outcome room (or_else n (verdict room config r area answer)) config r.1 area answer

pub silent_files : SilentFiles
unfolding make_fresh operate
silent_files file other h g same =
    let l = load file in
    let m = load other in
    let e = same-room l.config m.config same in (
      (λ area.
          ap (λ (n : ℕ). made_on (records m.config) n m.config area) g
          ∙ (ap (λ (room : ℕ). made_on room 0 m.config area) e
          ∙ (ap (λ (s : List ℕ). (number (records l.config) area, s))
          (made (records l.config) l.config m.config same (number (records l.config) area) area)
          ∙ ap (λ (n : ℕ). made_on (records l.config) n l.config area) (sym h)))),
      λ area bytes answer.
          ap (λ (n : ℕ). called_on (records m.config) n m.config area bytes answer) g
          ∙ (ap (λ (room : ℕ). called_on room 0 m.config area bytes answer) e
          ∙ (called (records l.config) l.config m.config same (read_operation bytes) area answer
          ∙ ap (λ (n : ℕ). called_on (records l.config) n l.config area bytes answer) (sym h))),
    )
