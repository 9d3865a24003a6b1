-- `closure::fine::all_unconcerned` meets its contract: the words below o are set. Assumes nothing.
use lib.ListN.{length-set}
use mathlib.Core.Path.{◌∙◌}
use native.Mathlib.Omega.{arith}
use Rattle.scene.specs.Rules.{naming}
use Rattle.closure.specs.Search.{FineWord}
use Rattle.closure.proofs.fine.all_unconcerned.Goals.{then-concerned-o-eq1, else-concerned-o-eq1}
use Rattle.closure.proofs.Finding.{fine_more, fine_free, fine_spared}
use Rattle.closure.proofs.fine.all_unconcerned.Goals as goal

pub loop-o-preserved : goal.loop-o-preserved
loop-o-preserved c =
    let b = c.loop-o in
    let table = c.args.concerned.now in
    let but = c.args.but in
    let devices = c.args.config.now.counts.devices in
    let few = c.requires.few-devices in
    let s = c.left_out-spared in
    let word : FineWord (naming table but) devices b.o c.if-concerned-o-eq1.f =
    elim c.if-concerned-o-eq1.branch [
      | then-concerned-o-eq1 w ↦
          rw w.f-is
          (fine_spared table but devices b.o few w.if-concerned-o-eq1.true s.result s.ensures.by_index
          s.ensures.by_index_2)
      | else-concerned-o-eq1 w ↦ rw w.f-is (fine_free table but devices b.o few w.if-concerned-o-eq1.false)
    ] in (
      length-set b.f b.o _ ∙ b.invariant.0,
      fine_more (naming table but) devices b.f b.o _ (omega (arith, b.invariant.0)) word b.invariant.1,
    )
