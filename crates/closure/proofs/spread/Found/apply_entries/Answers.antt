-- `closure::spread::Found::apply_entries` meets its contract: the entries before j are applied, and name nothing
-- strange. Assumes nothing.
use native.Mathlib.Omega.{arith}
use mathlib.Core.Path.{refl}
use lib.ListN.{get_or}
use Rattle.scene.specs.Scene.{In}
use Rattle.scene.proofs.Digits.{some_bit}
use Rattle.closure.specs.Search.{closure_of}
use Rattle.closure.proofs.Giving.{grew_then}
use Rattle.closure.proofs.Growing.{entry_in, entry-sound, entries_more, strange_more}
use Rattle.closure.proofs.spread.Found.apply_entries.Goals as goal

pub loop-j-preserved : goal.loop-j-preserved
loop-j-preserved c =
    let config = c.args.config.now in
    let r = c.args.r in
    let v = c.args.v in
    let j = c.loop-j.j in
    let b = c.loop-j.invariant in
    let i : In (get_or config.values.count v 0) j = record { low = c.loop-j.auto.j; high = omega arith } in
    let ok = c.requires.values_ok in
    let f = rw c.place_of-at.ensures at c.apply_entry.ensures.followed in
    let some = some_bit 64 r c.requires.some (omega arith) in
    record {
      grew = grew_then b.grew c.apply_entry.ensures.grew;
      sound = λ s each x. entry-sound (closure_of config s) refl c.loop-j.self.known _ r v j f ok.no_entries
          (ok.object_known v j c.requires.value i) (ok.stored_known v j c.requires.value i) i some each
          (b.sound s each x);
      entries_in = λ s. entries_more r v j c.apply_entry.ensures.grew.wider (b.entries_in s)
          (entry_in (closure_of config s) refl c.loop-j.self.known _ r v j f);
      no_strange = strange_more config c.args.fine.now r v j c.strange_at-devices.result c.if-devices-ne0.false
          (rw c.place_of-at.ensures at c.strange_at-devices.ensures) b.no_strange;
    }
