-- `sound::is_paired` meets its contract: the objects before object o have passed and are counted. Assumes nothing.
use Prim.Native.Nat.{suc}
use native.Mathlib.Omega.{arith}
use mathlib.Core.Path.{refl, sym, ◌∙◌}
use Rattle.model.specs.Config.{most_devices}
use Rattle.sound.specs.Sound.{device_owned}
use Rattle.sound.proofs.Questions
use Rattle.sound.proofs.is_paired.Goals as goal

pub loop-o-init : goal.loop-o-init
loop-o-init c = record {
  size = refl;
  passed = λ n low high. absurd (omega arith);
  counted = Questions.counted_start c.args.config.now (suc most_devices);
}

pub note-requires-clause-owner_bound : goal.note-requires-clause-owner_bound
note-requires-clause-owner_bound c =
    Questions.counted_room c.args.config.now _ _ _ _ (omega arith) c.requires.objects c.loop-o.invariant.counted

pub returns-then-not-note : goal.returns-then-not-note
unfolding device_owned
returns-then-not-note c =
    Questions.paired_no c.args.config.now c.loop-o.o c.loop-o.auto.o (omega arith)
    (sym c.note.ensures.value ∙ c.if-not-note.true)

pub loop-o-preserved : goal.loop-o-preserved
unfolding device_owned
loop-o-preserved c = record {
  size = Questions.note_kept _ _ _ _ c.loop-o.invariant.size c.note.ensures.owned_after;
  passed = Questions.owned_more c.args.config.now c.loop-o.o c.loop-o.invariant.passed
      (sym c.note.ensures.value ∙ c.if-not-note.false);
  counted = Questions.counted_go c.args.config.now _ _ _ c.loop-o.auto.o c.loop-o.invariant.counted
      c.note.ensures.owned_after;
}

pub returns : goal.returns
returns c =
    Questions.paired-rest c.args.config.now c.loop-o.o c.loop-o.owned _ (omega arith) c.loop-o.invariant.passed
    c.loop-o.invariant.counted (omega arith) c.each_has_one.ensures
