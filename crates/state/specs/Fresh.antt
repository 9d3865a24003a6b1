-- What making a fresh state does to a hardcoded descriptor.
use Rattle.std.specs.Prelude.{ℕ, ◌&&◌, cond, leb, eqb}
use Rattle.model.specs.Config.{kind_of, owner_of, hardcoded_of}
use Rattle.model.specs.State.{State, value_bytes}
use Rattle.model.specs.declared.Config.{Config}
use Rattle.state.specs.Change.{with_content}

-- object n with its device's value number, if it is a hardcoded descriptor
unfoldable pub valued : Config → ℕ → State → State
valued config n b =
    cond (leb n config.counts.objects && eqb (kind_of config n) 4)
    (with_content b n (value_bytes (hardcoded_of config (owner_of config n)))) b
