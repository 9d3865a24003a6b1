-- What separation needs of a state, and what holds of contents after writes and copies.
use Prim.Native.Nat.{ℕ, ◌≤◌}
use mathlib.Core.Path.{◌≡◌, sym, ap, ◌∙◌, subst}
use mathlib.Core.List.{List}
use mathlib.Core.Bool.{true, not, ◌&&◌}
use lib.Dec.{eqb}
use Rattle.model.specs.Base.{nth}
use Rattle.model.specs.Config.{owns, descriptor}
use Rattle.model.specs.State.{State, with_content, device_in, object_in, held}
use Rattle.model.specs.Closure.{live, Collected}
use Rattle.model.specs.Separation.{Hardcoded}
use Rattle.model.specs.declared.Config.{Config}
use Rattle.model.proofs.Confinement.{Confined, fewer_reads}
use Rattle.model.specs.Green.{Green}
use Rattle.model.proofs.Green.{collected-green}
use Rattle.model.proofs.StateLaws.{Shape}

-- what demand 3 needs of a state with `room` object records, kept from call to call: a record for each object, columns
-- of the right length, hardcoded descriptors with the file's value, a device's objects in its partition, no entry in
-- the closure that crosses, and in green zones green values
pub record Kept (room : ℕ) (config : Config) (b : State) : Type 0 where
  pub roomy : config.counts.objects ≤ room
  pub shape : Shape room b
  pub hardcoded : Hardcoded config b
  pub together : (c x : ℕ) → owns config 2 c x ≡ true → object_in b x ≡ device_in b c
  pub confines : Confined config b
  pub greens : Green config b

-- a state with the same partitions whose descriptors hold what was in the closure is confined
pub same-confined : {room : ℕ} (config : Config) (b : State) → Kept room config b → (b' : State)
    → b.object ≡ b'.object → b.device ≡ b'.device
    → ((o : ℕ) → live config b o ≡ true → Collected config true b o (held b' o))
    → Confined config b'
same-confined config b kept b' eo ec g c o v r e m =
    let q = kept.confines c o v
    (fewer_reads config b b' (λ x l. g x
    (subst (λ (s : List ℕ). descriptor config x && not (eqb (nth s x 0) 0) ≡ true) (sym eo) l))
    (λ x l. subst (λ (s : List ℕ). not (eqb (nth s x 0) 0) ≡ true) (sym ec) l) r) e m in
    (q.0, ap (λ (s : List ℕ). nth s e.object 0) (sym eo) ∙ (q.1 ∙ ap (λ (s : List ℕ). nth s c 0) ec))

-- so is a state with other contents green in its green zones, if its descriptors hold what was in the closure
pub same-green : {room : ℕ} (config : Config) (b : State) → Kept room config b → (cs : List (List ℕ))
    → ((o : ℕ) → live config b o ≡ true → Collected config true b o (held (with_content b cs) o))
    → Green config (with_content b cs)
same-green config b kept cs g o l z =
    collected-green config b kept.together kept.confines kept.greens (g o l) z
