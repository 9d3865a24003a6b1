-- What an operation must meet so that its numbers fit their bytes and areas: questions 7, 8, 10 and 11 see to it.
use Rattle.std.specs.Prelude.{ℕ, ◌≤◌, ◌<◌, ◌≡◌, List, length}
use Rattle.model.specs.State.{area_length}
use Rattle.model.specs.Operation.{most_code, most_items, family_of}
use Rattle.model.specs.Effect.{answer_bytes}
use Rattle.model.specs.declared.Family.TheVariants.{Write, Activate}
use Rattle.model.specs.declared.Operation.{Operation}
use Rattle.effect.specs.Transfers.{Small}

pub record Fit (room : ℕ) (op : Operation) (s answer : List ℕ) : Type 0 where
  -- questions 7 and 8
  pub area : length s ≡ area_length room
  pub places : answer_bytes ≤ length answer
  -- question 10
  pub first : 1 ≤ op.code
  pub last : op.code ≤ most_code
  pub many : op.count ≤ most_items
  -- question 11
  pub partition : family_of op.code ≡ Activate → op.partition < 256
  pub small : family_of op.code ≡ Write → Small op.seconds op.forms op.count
