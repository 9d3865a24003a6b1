-- `config::values::read_value` meets its contract: the turns from j on, from the place and the table as they are now,
-- are those from the start. Assumes nothing.
use mathlib.Core.Path.{◌≡◌}
use Rattle.model.specs.ConfigFile.{turns, entry}
use Rattle.config.proofs.Readers.{ahead}
use Rattle.config.proofs.values.read_value.Given as goal

abbrev pub invariant-loop-j : goal.invariant-loop-j
invariant-loop-j l =
    ahead (entry l.s l.counts l.objects.kind l.v) l.n l.j l.at l.values
    ≡ turns (entry l.s l.counts l.objects.kind l.v) l.n 0 l.next l.initial.values
