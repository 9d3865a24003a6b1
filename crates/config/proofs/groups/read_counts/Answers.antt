-- `config::groups::read_counts` meets its contract: counts that were read are within the columns. Assumes nothing.
use mathlib.Core.Path.{sym, ◌∙◌}
use Rattle.std.specs.Prelude.{Ok}
use Rattle.config.proofs.Readers
use Rattle.config.proofs.Ranged
use Rattle.config.proofs.groups.read_counts.Goals as goal

pub returns-then-is_counts : goal.returns-then-is_counts
returns-then-is_counts c =
    let e = Ranged.counts_short c.args.s.now c.in-len5-up.len_at_least c.if-objects-lt-ONE_BYTE.true
    (sym c.is_counts.ensures ∙ c.if-is_counts.true) in
    record { value = e; within = Readers.counts_within c.args.s.now (Ok _) e }

pub returns-clause-within : goal.returns-clause-within
returns-clause-within c = Readers.counts_within c.args.s.now _ c.counts_by_fields.ensures
