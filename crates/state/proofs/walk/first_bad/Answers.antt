-- `state::walk::first_bad` meets its contract: what the walk found, or 0. Assumes nothing.
use mathlib.Core.Path.{ap, ◌∙◌}
use Rattle.std.specs.Option.{unwrap_or}
use Rattle.state.proofs.Records.{found_or_none}
use Rattle.state.proofs.walk.first_bad.Goals as goal

pub returns : goal.returns
returns c = c.unwrap_or.ensures ∙ (ap (λ r. unwrap_or r 0) c.walk.ensures ∙ found_or_none _)
