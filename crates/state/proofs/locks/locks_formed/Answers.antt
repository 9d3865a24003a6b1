-- `state::locks::locks_formed` meets its contract: no lock, or each is looked at. Assumes nothing.
use mathlib.Core.Path.{refl}
use borrow.Author.Rules.{rules}
use Rattle.model.specs.Config.{most_devices}
use Rattle.model.specs.State.{right_lock}
use Rattle.model.proofs.Ranges.{every_from_all}
use Rattle.state.specs.Shown.{shown}
use Rattle.state.specs.Formed.{locks_right}
use Rattle.state.proofs.Locking.{locks_zero}
use Rattle.state.proofs.locks.locks_formed.Goals as goal

pub returns-then-from_le_bytes-eq0 : goal.returns-then-from_le_bytes-eq0
returns-then-from_le_bytes-eq0 c =
    locks_zero _ _ _ _ _ c.load-locks.ensures c.from_le_bytes.ensures c.if-from_le_bytes-eq0.true

pub returns-else-from_le_bytes-eq0 : goal.returns-else-from_le_bytes-eq0
unfolding locks_right
returns-else-from_le_bytes-eq0 c =
    every_from_all most_devices (right_lock c.args.config.now (shown c.args.area.now)) _ _ _ refl c.all.ensures.ran
    (λ x b q h. search rules)
