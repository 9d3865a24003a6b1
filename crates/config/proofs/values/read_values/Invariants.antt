-- `config::values::read_values` meets its contract: the turns from v on, from the place and the table as they are now,
-- are those from the start. Assumes nothing.
use mathlib.Core.Path.{◌≡◌}
use Rattle.model.specs.ConfigFile.{turns, value}
use Rattle.config.proofs.Readers.{ahead}
use Rattle.config.proofs.values.read_values.Given as goal

abbrev pub invariant-loop-v : goal.invariant-loop-v
invariant-loop-v l =
    ahead (value l.s l.counts l.objects.kind) l.counts.values l.v l.at l.values
    ≡ turns (value l.s l.counts l.objects.kind) l.counts.values 0 l.from l.initial.values
