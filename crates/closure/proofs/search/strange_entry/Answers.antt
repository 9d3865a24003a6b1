-- `closure::search::strange_entry` meets its contract: where no entry is found, the device may name the object of each.
-- Assumes nothing.
use Rattle.std.proofs.Common.{rules}
use mathlib.Core.Path.{refl}
use lib.ListN.{get_or}
use Rattle.closure.specs.Search.{MayName}
use Rattle.closure.proofs.Firsts.{none_from_find}
use Rattle.closure.proofs.search.strange_entry.Goals as goal

pub returns-clause-none : goal.returns-clause-none
returns-clause-none c =
    none_from_find (get_or c.args.config.now.values.count c.args.v 0)
    (λ j. MayName c.args.config.now c.args.fine.now c.args.i c.args.v j) _ _ c.find.result refl c.find.ensures.ran
    (λ x q k. search rules)
