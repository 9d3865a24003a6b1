-- `described::today::opened_values` meets its contract: the entries below j are looked at and put down.
-- Assumes nothing.
use lib.ListN.{get_or}
use mathlib.Core.Path.{◌≡◌, refl, subst}
use native.Mathlib.Omega.{arith}
use Prim.Native.Nat.{ℕ, ◌-◌}
use Rattle.state.specs.Shown.{shown}
use Rattle.scene.specs.Scene.{In, EntryOk}
use Rattle.model.specs.Config.{entry_place}
use Rattle.described.specs.Today.{OpenedBelow}
use Rattle.described.specs.Offers.{NotedBelow}
use Rattle.scene.proofs.Ranges.{entry_ok_lem}
use Rattle.described.proofs.Describing.{opened-start, opened_more}
use Rattle.described.proofs.Offering.{noted-start, noted_more}
use Rattle.described.proofs.today.opened_values.Goals as goal
use Rattle.described.proofs.today.opened_values.Goals.{In-loop-j}

-- the entry at hand is one of the value's
here : (c : In-loop-j) → In (get_or c.args.config.now.values.count c.args.v 0) c.loop-j.j
here c = record { low = omega arith; high = omega (arith, c.from-end.ensures) }

entry : (c : In-loop-j) → EntryOk c.args.config.now.values.entries (entry_place c.args.v c.loop-j.j)
entry c = entry_ok_lem c.requires.values_ok c.args.v c.loop-j.j c.requires.v_le_values (here c)

pub loop-j-init : goal.loop-j-init
loop-j-init c = record { opened = opened-start _ _ _ _ _; noted = noted-start _ _ _ _ }

pub overflow_add-at : goal.overflow_add-at
overflow_add-at c = omega (arith, (entry (goal.at.overflow_add-at c).In-loop-j).place)

pub overflow_mul-at-in-loop-j : goal.overflow_mul-at-in-loop-j
overflow_mul-at-in-loop-j c = omega (arith, (entry (goal.at.overflow_mul-at-in-loop-j c).In-loop-j).place)

pub note-requires : goal.note-requires
note-requires c = entry (goal.at.note-requires c).In-loop-j

pub opened_word-x-requires-clause-entry_ok : goal.opened_word-x-requires-clause-entry_ok
opened_word-x-requires-clause-entry_ok c = entry (goal.at.opened_word-x-requires-clause-entry_ok c).In-loop-j

pub opened_word-x-requires-clause-object : goal.opened_word-x-requires-clause-object
opened_word-x-requires-clause-object c =
    c.requires.values_ok.object_known c.args.v c.loop-j.j c.requires.v_le_values
    (here (goal.at.opened_word-x-requires-clause-object c).In-loop-j)

pub loop-j-preserved : goal.loop-j-preserved
loop-j-preserved c =
    let b = c.loop-j in
    let i : In (get_or c.args.config.now.values.count c.args.v 0) b.j = here (goal.at.loop-j-preserved c).In-loop-j in
    record {
      opened = opened_more _ _ _ _ _ b.j _ b.x _ refl i b.invariant.opened c.opened_word-x.ensures;
      noted = noted_more _ _ _ b.j _ refl i b.invariant.noted c.note.ensures;
    }

pub returns-clause-opened_words : goal.returns-clause-opened_words
returns-clause-opened_words c =
    let b = c.loop-j in
    let values = c.args.config.now.values in
    let e : b.j - 1 ≡ get_or values.count c.args.v 0 = omega (arith, c.from-end.ensures) in
    subst (λ (n : ℕ). OpenedBelow c.args.config.now.objects.kind values.count values.entries (shown c.args.area.now)
    c.args.v n b.x) e b.invariant.opened

pub returns-clause-noted_all : goal.returns-clause-noted_all
returns-clause-noted_all c =
    let b = c.loop-j in
    let values = c.args.config.now.values in
    let e : b.j - 1 ≡ get_or values.count c.args.v 0 = omega (arith, c.from-end.ensures) in
    subst (λ (n : ℕ). NotedBelow values.count values.entries c.args.v n c.args.table.now b.table) e
    b.invariant.noted
