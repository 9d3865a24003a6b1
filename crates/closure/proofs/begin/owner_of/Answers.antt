-- `closure::begin::owner_of` meets its contract: no other device can own o, and this one does if the test says so.
-- Assumes nothing.
use native.Mathlib.Omega.{arith}
use mathlib.Core.Path.{sym, ◌∙◌}
use Rattle.state.specs.Shown.{shown}
use Rattle.closure.proofs.Starting.{own-low, own-high, own_one, own-not}
use Rattle.closure.proofs.begin.owner_of.Goals.{then-c-lt1-via-then-c-lt1, then-c-lt1-via-else-c-lt1+then-config-c}
use Rattle.closure.proofs.begin.owner_of.Goals as goal

pub returns-then-c-lt1 : goal.returns-then-c-lt1
returns-then-c-lt1 c =
    let config = c.args.config.now in
    let b = shown c.args.area.now in
    elim c.then-c-lt1.branch [
      | then-c-lt1-via-then-c-lt1 w ↦ own-low config b c.args.o (omega arith)
      | then-c-lt1-via-else-c-lt1+then-config-c w ↦
          own-high config b c.args.o c.requires.owners_ok c.requires.object (omega arith)
    ]

pub returns-then-is_hardcoded_of : goal.returns-then-is_hardcoded_of
returns-then-is_hardcoded_of c =
    rw c.power.ensures
    (own_one c.args.config.now (shown c.args.area.now) c.args.o c.from-c.result c.from-c.ensures (omega arith)
    (omega arith) (sym c.is_hardcoded_of.ensures ∙ c.if-is_hardcoded_of.true))

pub returns-else-is_hardcoded_of : goal.returns-else-is_hardcoded_of
returns-else-is_hardcoded_of c =
    own-not c.args.config.now (shown c.args.area.now) c.args.o c.from-c.result c.from-c.ensures
    (sym c.is_hardcoded_of.ensures ∙ c.if-is_hardcoded_of.false)
