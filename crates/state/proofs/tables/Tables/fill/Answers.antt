-- `state::tables::Tables::fill` meets its contract: three tables, and nothing known of the head. Assumes nothing.
use mathlib.Core.Path.{refl}
use native.Mathlib.Omega.{arith}
use lib.ListN.{length-take}
use Rattle.state.specs.Splice.{part}
use Rattle.state.proofs.Records.{tables_made}
use Rattle.state.proofs.tables.Tables.fill.Goals as goal

pub slice_bounds-save-end-2 : goal.slice_bounds-save-end-2
slice_bounds-save-end-2 c = simp length-take (omega (arith, c.args.area.now.sized))

pub save-requires : goal.save-requires
save-requires c = simp length-take (omega (arith, c.args.area.now.sized))

pub returns : goal.returns
unfolding part
returns c =
    tables_made c.args.area.now.room c.args.area.now.bytes.now c.args.area.now.sized _
    (rw (c.save.ensures, c.requires.named)) (rw (c.save-2.ensures, c.requires.drivers))
    (rw (c.save-3.ensures, c.requires.devices)) c.requires.housed
