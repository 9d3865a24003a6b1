-- Document 02, N5: what the rule of green zones passes, the search passes.
use Rattle.model.specs.State.{driver_in}
use Rattle.model.specs.Effect.{apply}
use Rattle.model.specs.Questions.{q17, q22}
use Rattle.sources.specs.Gate.{Source, config_of, fresh_on}
use Rattle.sources.specs.Separation.{final}
use Rattle.sources.specs.Green.{ReachedGreenOn, GreenPassesOn}
use Rattle.model.specs.declared.Family.TheVariants.{Write, Copy}
use Rattle.model.specs.declared.Actor.TheVariants.{Driver}
use Rattle.model.proofs.ClosureExact.{confined_exact}
use Rattle.sources.proofs.GreenStores.{write_green-confined, copy_green-confined}
use Rattle.sources.proofs.Sources.{Fits}
use Rattle.sources.proofs.Reached.{reached_state}

-- the invariant, over every list of calls from a fresh state
pub reached_green_on : (source : Source) → Fits source → ReachedGreenOn source
reached_green_on source fits area h calls =
    let b = final source (fresh_on source area).1 calls in
    let kept = (reached_state source fits area h calls).0 in
    (kept.greens, (confined_exact (config_of source) b).1 kept.confines)

-- the theorem: over every list of calls from a fresh state
pub green-passes_on : (source : Source) → Fits source → GreenPassesOn source
unfolding q17 q22
green-passes_on source fits area h calls op =
    let config = config_of source in
    let b = final source (fresh_on source area).1 calls in
    let kept = (reached_state source fits area h calls).0 in
    let zone = driver_in b op.subject in (
      (λ p₁₁ p₁₂ p₁₃ p₁₄ p₁₅ p₁₆ p₁₇ p₁₈ g p₂₂.
          (confined_exact config (apply config op Write Driver b)).1
          (write_green-confined config op b kept Driver zone g p₁₃ p₁₇ p₂₂)),
      λ p₁₁ p₁₂ p₁₃ p₁₄ p₁₅ p₁₆ p₁₇ p₁₈ g p₂₂.
          (confined_exact config (apply config op Copy Driver b)).1
          (copy_green-confined config op b kept Driver zone g p₁₃ p₁₇ p₂₂),
    )
