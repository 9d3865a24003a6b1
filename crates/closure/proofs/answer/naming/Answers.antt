-- `closure::answer::naming` meets its contract: what is found or not is what the model's search says, whatever the
-- devices' hardcoded values and serials are. Assumes nothing.
use Rattle.state.specs.Shown.{shown}
use Rattle.scene.specs.Rules.{naming}
use Rattle.scene.specs.Devices.{with_devices}
use Rattle.closure.proofs.Answering.{answers_any, naming-answer, naming-entry}
use Rattle.closure.proofs.answer.naming.Goals as goal

pub returns-clause-result_value : goal.returns-clause-result_value
returns-clause-result_value c =
    naming-answer c.args.config.now (shown c.args.area.now) c.args.concerned.now c.args.but c.answer.result
    (c.answer.ensures (naming c.args.concerned.now c.args.but) c.all_unconcerned.ensures)

pub returns-clause-naming : goal.returns-clause-naming
returns-clause-naming c =
    naming-entry c.args.config.now (shown c.args.area.now) c.args.concerned.now c.args.but c.answer.result
    (c.answer.ensures (naming c.args.concerned.now c.args.but) c.all_unconcerned.ensures)

pub returns-clause-result_value_any : goal.returns-clause-result_value_any
returns-clause-result_value_any c = λ d.
    let config = c.args.config.now in
    let b = shown c.args.area.now in
    let bad = naming c.args.concerned.now c.args.but in
    naming-answer (with_devices d config) b c.args.concerned.now c.args.but c.answer.result
    (answers_any config b (λ c e. bad c e.object) c.answer.result (c.answer.ensures bad c.all_unconcerned.ensures) d)

pub returns-clause-naming_any : goal.returns-clause-naming_any
returns-clause-naming_any c = λ d.
    let config = c.args.config.now in
    let b = shown c.args.area.now in
    let bad = naming c.args.concerned.now c.args.but in
    naming-entry (with_devices d config) b c.args.concerned.now c.args.but c.answer.result
    (answers_any config b (λ c e. bad c e.object) c.answer.result (c.answer.ensures bad c.all_unconcerned.ensures) d)
