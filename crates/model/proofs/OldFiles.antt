-- Request N7: files as they were before there were serials.
use Prim.Native.Nat.{ℕ, ◌≤◌}
use mathlib.Core.Path.{◌≡◌, sym, ap, ◌∙◌, subst}
use mathlib.Core.List.{List}
use native.Mathlib.Nat.{le_refl}
use native.Mathlib.Omega.{arith}
use Rattle.model.specs.Config.{most_objects, latest, first_limits, serial_of}
use Rattle.model.specs.ConfigFile.{load_to, load}
use Rattle.model.specs.Loaded.{Loaded}
use Rattle.model.proofs.Accepted.{load-within, limited_sound}
use Rattle.model.proofs.WiderFiles.{load-wider}

-- a file that was accepted with the old limits of editions and numbers is accepted with the same configuration, of
-- edition 1 and without serials
pub edition_one : (file : List ℕ) → (load_to first_limits file).answer ≡ 0
    → (load file ≡ load_to first_limits file) × ((load file).config.counts.edition ≡ 1)
    × ((c : ℕ) → 1 ≤ c → c ≤ (load file).config.counts.devices → serial_of (load file).config c ≡ 0)
edition_one file h =
    let e : load file ≡ load_to first_limits file =
    load-wider first_limits latest (le_refl most_objects) (omega arith) (omega arith) file h in
    let w = load-within first_limits (le_refl most_objects) (omega arith) file h in
    let so = limited_sound first_limits (le_refl most_objects) (omega arith) file h in
    let one : (load_to first_limits file).config.counts.edition ≡ 1 = omega (arith, w.1, so.few.edition-least) in (
      e,
      ap (λ (l : Loaded). l.config.counts.edition) e ∙ one,
      subst (λ (l : Loaded). (c : ℕ) → 1 ≤ c → c ≤ l.config.counts.devices → serial_of l.config c ≡ 0) (sym e)
          (λ c low high. (so.ranges.serials c low high).1 one),
    )
