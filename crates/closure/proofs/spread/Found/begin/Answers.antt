-- `closure::spread::Found::begin` meets its contract: the words below o are set, and their devices given to their
-- values. Assumes nothing.
use lib.ListN.{length, length-set, replicate}
use mathlib.Core.Path.{refl, ◌∙◌}
use native.Mathlib.Omega.{arith}
use Prim.Native.Nat.{◌<◌}
use Rattle.state.specs.Shown.{shown}
use Rattle.scene.specs.Scene.{object_slots, value_slots}
use Rattle.scene.proofs.Widening.{no_digit}
use Rattle.closure.specs.Search.{closure_of}
use Rattle.closure.proofs.Starting.{
  begin_more,
  sound_none,
  get_or_none,
  by_none,
  covers_none,
  seed_by,
  seed_covers,
  seed_marked,
  seed_zero,
}
use Rattle.closure.proofs.Growing.{sound_set}
use Rattle.closure.proofs.spread.Found.begin.Goals as goal

pub loop-o-init : goal.loop-o-init
loop-o-init c = record {
  long = refl;
  rest = λ j h. get_or_none object_slots j;
  by = by_none (replicate object_slots 0) value_slots;
  covers = covers_none object_slots (replicate value_slots 0);
  marked = λ v n e. absurd (no_digit value_slots v n e);
  sound = sound_none (closure_of c.args.config.now (shown c.args.area.now)) object_slots;
  given = λ j h p. absurd (omega (arith, p.low));
}

pub loop-o-preserved : goal.loop-o-preserved
loop-o-preserved c =
    let m = closure_of c.args.config.now (shown c.args.area.now) in
    let o = c.loop-o.o in
    let k = c.loop-o.found.known in
    let t = c.loop-o.found.readers in
    let x = c.first-x.result in
    let b = c.loop-o.invariant in
    let g = c.seed.ensures in
    let few : o < length k = omega (arith, c.loop-o.invariant.long) in
    let zero = b.rest o (omega arith) in
    record {
      long = length-set k o x ∙ b.long;
      rest = seed_zero k t _ o x few zero g b.rest;
      by = seed_by k t _ o x few zero g b.by;
      covers = seed_covers k t _ o x few zero g b.covers;
      marked = seed_marked k t _ o x few zero g b.marked;
      sound = sound_set k o x few b.sound c.first-x.ensures.right;
      given = begin_more m k o x few c.first-x.ensures b.given;
    }
