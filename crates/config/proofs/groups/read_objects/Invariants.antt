-- `config::groups::read_objects` meets its contract: the turns from o on, from the place and the table as they are now,
-- are those from the start. Assumes nothing.
use mathlib.Core.Path.{◌≡◌}
use Rattle.model.specs.ConfigFile.{turns, object}
use Rattle.config.proofs.Readers.{ahead}
use Rattle.config.proofs.groups.read_objects.Given as goal

abbrev pub invariant-loop-o : goal.invariant-loop-o
invariant-loop-o l =
    ahead (object l.s l.counts) l.counts.objects l.o l.at l.objects
    ≡ turns (object l.s l.counts) l.counts.objects 0 l.from l.initial.objects
