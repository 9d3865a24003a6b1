-- Laws of the rule's parts, in the form in which the functions' proofs cite them.
-- Assumes nothing.
use mathlib.Core.Path.{◌≡◌, ◌∙◌, sym}
use mathlib.Core.Bool.{Bool, true, false, true≢false}
use Rattle.model.specs.Base.{below}
use Rattle.model.specs.Config.{entries}
use Rattle.model.specs.State.{State, green}
use Rattle.model.specs.Questions.{zone_of, green_item, green_items, q22}
use Rattle.model.specs.declared.Family.{Family}
use Rattle.model.specs.declared.Actor.{Actor}
use Rattle.model.specs.declared.Actor.TheVariants.{Driver, Device, External}
use Rattle.model.specs.declared.Config.{Config}
use Rattle.model.specs.declared.Operation.{Operation}
use Rattle.green.specs.Rule.{by_device}

-- question 22 of a write or a copy, unless a device acts: the rule is one of the zone
module _ (config : Config) (b : State) (op : Operation) (f : Family) where
  pub items_at : (a : Actor) → by_device a ≡ false → green b (zone_of b op a) ≡ true
      → below op.count (green_item config b op f (zone_of b op a)) ≡ green_items config b op f a
  items_at Driver h e = rw e
  items_at Device h e = absurd (true≢false h)
  items_at External h e = rw e

-- question 22 looks at kinds, hardcoded values, entry counts and entries, and at nothing else of a configuration
module _ (config : Config) (b : State) (op : Operation) (f : Family) (a : Actor) where
  same_rule : (m : Config) → m.objects.kind ≡ config.objects.kind
      → m.devices.hardcoded ≡ config.devices.hardcoded
      → m.values.count ≡ config.values.count → m.values.entries ≡ config.values.entries
      → q22 m b op f a ≡ q22 config b op f a
  unfolding q22 entries
  same_rule m kinds hardcoded counts table = λ i.
      q22 (record m {
        objects = record m.objects { kind = kinds i };
        devices = record m.devices { hardcoded = hardcoded i };
        values = record { count = counts i; entries = table i };
      }) b op f a

  pub rule_by_columns : {r : Bool} → r ≡ q22 config b op f a
      → (m : Config) → m.objects.kind ≡ config.objects.kind
      → m.devices.hardcoded ≡ config.devices.hardcoded
      → m.values.count ≡ config.values.count → m.values.entries ≡ config.values.entries
      → r ≡ q22 m b op f a
  rule_by_columns h m kinds hardcoded counts table = h ∙ sym (same_rule m kinds hardcoded counts table)
