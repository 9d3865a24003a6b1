-- Document 01, 'The questions': 0 and the configuration; or the first question that is answered with no, beside a
-- blank configuration.
use Rattle.std.specs.Prelude.{ℕ}
use Rattle.model.specs.declared.Config.{Config}

pub record Loaded : Type 0 where
  pub answer : ℕ
  pub config : Config
