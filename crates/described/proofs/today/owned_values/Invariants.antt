-- `described::today::owned_values` meets its contract: the objects below o are looked at. Assumes nothing.
use Prim.Native.Nat.{◌-◌}
use Rattle.state.specs.Shown.{shown}
use Rattle.described.specs.Today.{OwnedWords}
use Rattle.described.proofs.today.owned_values.Given as goal

abbrev pub invariant-loop-o : goal.invariant-loop-o
invariant-loop-o l =
    OwnedWords (l.o - 1) l.config.objects.kind l.config.objects.class l.config.objects.owner (shown l.area) l.device
    l.x
