-- `closure::spread::Found::apply_entry` meets its contract: the kind of the object decides. Assumes nothing.
use native.Mathlib.Omega.{arith}
use Rattle.model.specs.Config.{entry_at}
use Rattle.closure.proofs.Giving.{grew_then}
use Rattle.closure.proofs.Growing.{followed_transfer, followed_hardcoded, followed_none}
use Rattle.closure.proofs.spread.Found.apply_entry.Goals as goal

pub returns-in-1-clause-grew : goal.returns-in-1-clause-grew
returns-in-1-clause-grew c = grew_then c.admit.ensures.grew c.collect.ensures.grew

pub returns-in-1-clause-followed : goal.returns-in-1-clause-followed
returns-in-1-clause-followed c =
    followed_transfer c.args.config.now.objects.kind (entry_at c.args.config.now.values.entries c.args.at) c.args.r
    c.in-1.is c.is_reading.ensures c.is_writing.ensures c.collect.ensures.grew.wider
    c.admit.ensures.added c.collect.ensures.added

pub returns-in-4-clause-followed : goal.returns-in-4-clause-followed
returns-in-4-clause-followed c =
    followed_hardcoded c.args.config.now.objects.kind (entry_at c.args.config.now.values.entries c.args.at) c.args.r
    (λ e. omega arith) c.in-4.is
    c.is_reading-in-4.ensures c.admit-in-4.ensures.added

pub returns-in_default-clause-followed : goal.returns-in_default-clause-followed
returns-in_default-clause-followed c =
    followed_none c.args.config.now.objects.kind (entry_at c.args.config.now.values.entries c.args.at) c.args.r
    (λ e. omega arith) (λ e. omega arith)
