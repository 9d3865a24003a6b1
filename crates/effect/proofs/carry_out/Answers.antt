-- `effect::carry_out` meets its contract: a law for each family. Assumes nothing.
use mathlib.Core.Path.{ap, ◌∙◌}
use Rattle.model.specs.State.{layout}
use Rattle.model.specs.declared.Family.TheVariants.{
  Write,
  Copy,
  Create,
  Destroy,
  Activate,
  Deactivate,
  Lock,
  Unlock,
}
use Rattle.effect.proofs.Moving.{activated, deactivated}
use Rattle.effect.proofs.Effects.{left, did_write, did_copy, did_create, did_destroy, did_lock, did_unlock}
use Rattle.effect.proofs.carry_out.Goals as goal

pub returns-in-Write-clause-area_after : goal.returns-in-Write-clause-area_after
returns-in-Write-clause-area_after c =
    left _ _ _ _ _ Write _ c.in-Write.is c.family_of.ensures c.actor_of-actor.ensures
    (c.write_items.ensures ∙ ap layout (did_write _ _ _ _))

pub returns-in-Copy-clause-area_after : goal.returns-in-Copy-clause-area_after
returns-in-Copy-clause-area_after c =
    left _ _ _ _ _ Copy _ c.in-Copy.is c.family_of.ensures c.actor_of-actor.ensures
    (c.copy_contents.ensures.area_after ∙ ap layout (did_copy _ _ _ _))

pub returns-in-Create-clause-area_after : goal.returns-in-Create-clause-area_after
returns-in-Create-clause-area_after c =
    left _ _ _ _ _ Create _ c.in-Create.is c.family_of.ensures c.actor_of-actor.ensures
    (c.set_status.ensures ∙ ap layout (did_create _ _ _ _ _ c.created_status.ensures))

pub returns-in-Destroy-clause-area_after : goal.returns-in-Destroy-clause-area_after
returns-in-Destroy-clause-area_after c =
    left _ _ _ _ _ Destroy _ c.in-Destroy.is c.family_of.ensures c.actor_of-actor.ensures
    (c.set_status-in-Destroy.ensures ∙ ap layout (did_destroy _ _ _ _))

pub returns-in-Activate-clause-area_after : goal.returns-in-Activate-clause-area_after
returns-in-Activate-clause-area_after c =
    left _ _ _ _ _ Activate _ c.in-Activate.is c.family_of.ensures c.actor_of-actor.ensures
    (c.move_concerned.ensures ∙ ap layout (activated _ _ _ _))

pub returns-in-Deactivate-clause-area_after : goal.returns-in-Deactivate-clause-area_after
returns-in-Deactivate-clause-area_after c =
    left _ _ _ _ _ Deactivate _ c.in-Deactivate.is c.family_of.ensures c.actor_of-actor.ensures
    (c.move_concerned-in-Deactivate.ensures ∙ ap layout (deactivated _ _ _ _))

pub returns-in-Lock-clause-area_after : goal.returns-in-Lock-clause-area_after
returns-in-Lock-clause-area_after c =
    left _ _ _ _ _ Lock _ c.in-Lock.is c.family_of.ensures c.actor_of-actor.ensures
    (c.set_lock.ensures
    ∙ ap layout (did_lock _ _ _ _ _ c.family_of.ensures c.actor_of-actor.ensures c.in-Lock.is))

pub returns-in-Unlock-clause-area_after : goal.returns-in-Unlock-clause-area_after
returns-in-Unlock-clause-area_after c =
    left _ _ _ _ _ Unlock _ c.in-Unlock.is c.family_of.ensures c.actor_of-actor.ensures
    (c.set_lock-in-Unlock.ensures
    ∙ ap layout (did_unlock _ _ _ _ _ c.family_of.ensures c.actor_of-actor.ensures c.in-Unlock.is))
