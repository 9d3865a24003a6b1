-- What the questions that are answered with yes give to those that follow.
use Rattle.std.specs.Prelude.{ℕ, ◌≤◌, ◌≡◌, true, List, length}
use Rattle.model.specs.Config.{most_objects}
use Rattle.model.specs.ConfigFile.{load}
use Rattle.model.specs.State.{area_length, view, well_formed}
use Rattle.model.specs.Operation.{family_of, actor_of, read_operation}
use Rattle.model.specs.Questions.{q11, q13}
use Rattle.model.specs.declared.Family.{Family}
use Rattle.model.specs.declared.Actor.{Actor}
use Rattle.model.specs.declared.Config.{Config}
use Rattle.model.specs.declared.Operation.{Operation}
use Rattle.scene.specs.Scene.{Searchable}

-- questions 1 to 6: the configuration of a file that was accepted
pub record Accepted (config : Config) : Type 0 where
  pub file : List ℕ
  pub yes : (load file).answer ≡ 0
  pub same : config ≡ (load file).config

-- questions 1 to 9, of an area with a record for each object, and no more than there can be objects
pub record Ready (config : Config) (room : ℕ) (area : List ℕ) : Type 0 where
  pub accepted : Accepted config
  pub fits : config.counts.objects ≤ room
  pub most : room ≤ most_objects
  pub long : length area ≡ area_length room
  pub formed : well_formed room config (view room area) ≡ true
  pub searchable : Searchable config room (view room area)

-- question 10: an operation that was read to its last byte
pub record Complete (op : Operation) : Type 0 where
  pub bytes : List ℕ
  pub yes : (read_operation bytes).0 ≡ 0
  pub same : op ≡ (read_operation bytes).1

-- questions 10, 11 and 13
pub record Asked (config : Config) (op : Operation) (f : Family) (a : Actor) : Type 0 where
  pub complete : Complete op
  pub family : f ≡ family_of op.code
  pub actor : a ≡ actor_of op.code
  pub p11 : q11 config op f a ≡ true
  pub p13 : q13 config op f ≡ true
