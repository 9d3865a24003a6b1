-- `sound::is_paired` meets its contract: the objects before object o have passed and are counted. Assumes nothing.
use Prim.Native.Nat.{suc}
use mathlib.Core.Path.{◌≡◌}
use lib.ListN.{length}
use Rattle.model.specs.Config.{most_devices}
use Rattle.sound.proofs.Questions
use Rattle.sound.proofs.is_paired.Given as goal

abbrev pub invariant-loop-o : goal.invariant-loop-o
invariant-loop-o l = record {
  size : length l.owned ≡ suc most_devices;
  passed : Questions.EachOwned l.config l.o;
  counted : Questions.Counted l.config l.o l.owned;
}
