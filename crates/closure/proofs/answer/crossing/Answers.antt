-- `closure::answer::crossing` meets its contract: what is found or not is what the model's search says, whatever the
-- devices' hardcoded values and serials are. Assumes nothing.
use Rattle.state.specs.Shown.{shown}
use Rattle.scene.specs.Rules.{crossing}
use Rattle.scene.specs.Devices.{with_devices}
use Rattle.closure.proofs.Answering.{answers_any, crossing-answer, crossing-entry}
use Rattle.closure.proofs.answer.crossing.Goals as goal

pub returns-clause-result_value : goal.returns-clause-result_value
returns-clause-result_value c = λ q.
    crossing-answer c.args.config.now (shown c.args.area.now) q c.answer.result
    (c.answer.ensures (crossing c.args.config.now.objects.kind (shown c.args.area.now)) c.all_inside.ensures)

pub returns-clause-crossing : goal.returns-clause-crossing
returns-clause-crossing c = λ q.
    crossing-entry c.args.config.now (shown c.args.area.now) q c.answer.result
    (c.answer.ensures (crossing c.args.config.now.objects.kind (shown c.args.area.now)) c.all_inside.ensures)

pub returns-clause-result_value_any : goal.returns-clause-result_value_any
returns-clause-result_value_any c = λ d q.
    let config = c.args.config.now in
    let b = shown c.args.area.now in
    let bad = crossing config.objects.kind b in
    crossing-answer (with_devices d config) b q c.answer.result
    (answers_any config b (λ c e. bad c e.object) c.answer.result (c.answer.ensures bad c.all_inside.ensures) d)

pub returns-clause-crossing_any : goal.returns-clause-crossing_any
returns-clause-crossing_any c = λ d q.
    let config = c.args.config.now in
    let b = shown c.args.area.now in
    let bad = crossing config.objects.kind b in
    crossing-entry (with_devices d config) b q c.answer.result
    (answers_any config b (λ c e. bad c e.object) c.answer.result (c.answer.ensures bad c.all_inside.ensures) d)
