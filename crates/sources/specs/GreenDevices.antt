-- Document 02, N5: 'green partitions in which no card may write a descriptor', over every list of calls and every trace
-- after it.
use Rattle.std.specs.Prelude.{ℕ, ◌<◌, ◌≡◌, List, [], ◌∷◌, true, false}
use Rattle.model.specs.Config.{kind_of, descriptor}
use Rattle.model.specs.State.{State, device_in, object_in, green}
use Rattle.model.specs.Operation.{object_at, second_at, read_operation}
use Rattle.sources.specs.Gate.{Source, config_of, file_source, fresh_on, operate_on}
use Rattle.model.specs.Trace.{Transfer, Traces, after}
use Rattle.model.specs.Separation.{Call}
use Rattle.sources.specs.Separation.{area_after, final}
use Rattle.model.specs.declared.Config.{Config}
use Rattle.model.specs.declared.Operation.{Operation}

-- a transfer that writes a descriptor is by no device in a green zone, and into no object there, whosever the device is
abbrev pub Spares : Config → State → Transfer → Type 0
Spares config b t =
    t.writing ≡ true → descriptor config t.object ≡ true
    → (green b (device_in b t.device) ≡ false) × (green b (object_in b t.object) ≡ false)

-- each transfer of a trace
abbrev pub EachSpares : Config → State → List Transfer → Type 0
EachSpares config b [] = Unit {0}
EachSpares config b (t ∷ ts) = Spares config b t × EachSpares config (after config b t) ts

-- a device's write or copy, codes 2 and 4, that stores into object n of kind 1 is by no device in a green zone, and
-- into no object there
abbrev pub Outside : State → Operation → ℕ → Type 0
Outside b op n = (green b (device_in b op.subject) ≡ false) × (green b (object_in b n) ≡ false)

pub record StoresOutside (config : Config) (b : State) (op : Operation) : Type 0 where
  pub writes : op.code ≡ 2 → (i : ℕ) → i < op.count → kind_of config (object_at op i) ≡ 1
      → Outside b op (object_at op i)
  pub copies : op.code ≡ 4 → (i : ℕ) → i < op.count → (second_at op i ≡ 0 → ⊥) → kind_of config (second_at op i) ≡ 1
      → Outside b op (second_at op i)

-- for every list of calls from a fresh state: every trace, and every call that is then accepted
pub record NoneWrites (source : Source) (area : List ℕ) (calls : List Call) : Type 0 where
  pub traces : (trace : List Transfer) → Traces (config_of source) (final source area calls) trace
      → EachSpares (config_of source) (final source area calls) trace
  pub calls_too : (bytes answer : List ℕ)
      → (operate_on source (area_after source area calls) bytes answer).0 ≡ 0
      → StoresOutside (config_of source) (final source area calls) (read_operation bytes).1

abbrev pub GreenDevicesOn : Source → Type 0
GreenDevicesOn source =
    (area : List ℕ) → (fresh_on source area).0 ≡ 0 → (calls : List Call)
    → NoneWrites source (fresh_on source area).1 calls

abbrev pub GreenDevices : Type 0
GreenDevices = (file : List ℕ) → GreenDevicesOn (file_source file)
