-- `described::today::owned_word` meets its contract: the object is not the device's hardcoded descriptor, or it is.
-- Assumes nothing.
use mathlib.Core.Bool.{false≢true}
use mathlib.Core.Path.{sym, ◌∙◌}
use Rattle.state.specs.Shown.{shown}
use Rattle.scene.proofs.Ranges.{owned-kind}
use Rattle.described.proofs.Describing.{owned_none, owned-held}
use Rattle.described.proofs.today.owned_word.Goals as goal

pub returns-then-config-o-ne-HARDCODED_KIND : goal.returns-then-config-o-ne-HARDCODED_KIND
returns-then-config-o-ne-HARDCODED_KIND c =
    let config = c.args.config.now in
    owned_none config.objects.kind config.objects.class config.objects.owner
    (shown c.args.area.now) c.args.device c.args.o
    (λ e. c.if-config-o-ne-HARDCODED_KIND.true
    (owned-kind config (shown c.args.area.now) c.args.device c.args.o e))

pub returns-then-not-is_hardcoded_of : goal.returns-then-not-is_hardcoded_of
returns-then-not-is_hardcoded_of c =
    let config = c.args.config.now in
    owned_none config.objects.kind config.objects.class config.objects.owner
    (shown c.args.area.now) c.args.device c.args.o
    (λ e. false≢true (sym (c.if-not-is_hardcoded_of.true) ∙ (c.is_hardcoded_of.ensures ∙ e)))

pub returns : goal.returns
returns c =
    let config = c.args.config.now in
    owned-held config.objects.kind config.objects.class config.objects.owner
    (shown c.args.area.now) c.args.device c.args.o c.held_word.result
    (sym c.is_hardcoded_of.ensures ∙ c.if-not-is_hardcoded_of.false) c.held_word.ensures
