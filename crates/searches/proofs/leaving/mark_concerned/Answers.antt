-- `searches::leaving::mark_concerned` meets its contract: one law for each actor. Assumes nothing.
use Rattle.searches.proofs.Marking
use Rattle.searches.proofs.leaving.mark_concerned.Goals as goal

pub mark_listed-requires : goal.mark_listed-requires
mark_listed-requires c =
    c.requires.in_table c.in-External.is

pub returns-in-Driver : goal.returns-in-Driver
returns-in-Driver c =
    Marking.by_driver c.args.config.now c.args.op.now c.in-Driver.is _ c.mark_owned.ensures

pub returns-in-Device : goal.returns-in-Device
returns-in-Device c =
    Marking.by_device_lem c.args.config.now c.args.op.now c.in-Device.is _ c.mark_owned-in-Device.ensures

pub returns-in-External : goal.returns-in-External
returns-in-External c = Marking.by_list c.args.config.now c.args.op.now c.in-External.is _ c.mark_listed.ensures
