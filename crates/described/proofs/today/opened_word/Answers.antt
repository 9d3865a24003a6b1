-- `described::today::opened_word` meets its contract: the entry does not read, or what it reads is looked at. Assumes
-- nothing.
use Prim.Native.Nat.{ℕ}
use mathlib.Core.Path.{sym, subst, ◌∙◌}
use Rattle.state.specs.Shown.{shown}
use Rattle.model.specs.Config.{entry_at}
use Rattle.described.specs.Today.{HeldWord}
use Rattle.described.proofs.Describing.{opened_none, opened-held}
use Rattle.described.proofs.today.opened_word.Goals as goal

pub returns-then-not-is_reading : goal.returns-then-not-is_reading
returns-then-not-is_reading c =
    opened_none c.args.config.now.objects.kind (shown c.args.area.now)
    (entry_at c.args.config.now.values.entries c.args.at) (sym c.is_reading.ensures ∙ c.if-not-is_reading.true)

pub returns : goal.returns
returns c =
    opened-held c.args.config.now.objects.kind (shown c.args.area.now)
    (entry_at c.args.config.now.values.entries c.args.at) c.held_word.result
    (sym c.is_reading.ensures ∙ c.if-not-is_reading.false)
    (subst (λ (o : ℕ). HeldWord c.args.config.now.objects.kind (shown c.args.area.now) o c.held_word.result)
    c.from.ensures c.held_word.ensures)
