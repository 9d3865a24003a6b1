-- Question 22 is a yes where it is not put. Assumes nothing.
use Prim.Native.Nat.{ℕ}
use mathlib.Core.Path.{◌≡◌, refl}
use mathlib.Core.Bool.{Bool, true, false, not, ◌&&◌, ◌||◌, true≢false}
use borrow.Author.Tests.{not-true, not-false}
use Rattle.model.specs.State.{State, green}
use Rattle.model.specs.Questions.{zone_of, q22}
use Rattle.model.specs.declared.Family.{Family}
use Rattle.model.specs.declared.Family.TheVariants.{
  Write,
  Copy,
  Create,
  Destroy,
  Activate,
  Deactivate,
  Lock,
  Unlock,
}
use Rattle.model.specs.declared.Actor.{Actor}
use Rattle.model.specs.declared.Actor.TheVariants.{Driver, Device, External}
use Rattle.model.specs.declared.Config.{Config}
use Rattle.model.specs.declared.Operation.{Operation}
use Rattle.green.specs.Rule.{by_device}
use Rattle.searches.specs.Asking.{stores, enters}
use Rattle.gate.specs.Ruled.{ruled}

-- whether it is put, by the tests of the code
module _ (b : State) (op : Operation) (f : Family) (a : Actor) {s : Bool} (storing : s ≡ stores f) where
  pub ruled-enters : not s ≡ true → {t g : Bool} → t ≡ enters f a → g ≡ green b op.partition
      → (t && g) ≡ ruled b op f a
  ruled-enters h e k = rw (← storing, not-true s h, ← e, ← k)

  module _ {d : Bool} (device : d ≡ by_device a) where
    pub ruled-device : not s ≡ false → d ≡ true → false ≡ ruled b op f a
    ruled-device h k = rw (← storing, not-false s h, ← device, k)

    pub ruled_zone : not s ≡ false → d ≡ false → {z : ℕ} → z ≡ zone_of b op a → {g : Bool} → g ≡ green b z
        → g ≡ ruled b op f a
    ruled_zone h k e q = rw (← storing, not-false s h, ← device, k, ← e, ← q)

or_yes : (g t : Bool) → g ≡ false → true ≡ not g || t
or_yes true t h = absurd (true≢false h)
or_yes false t h = refl

or_true : (t : Bool) → true ≡ t || true
or_true true = refl
or_true false = refl

pub unruled : (config : Config) (b : State) (op : Operation) (f : Family) (a : Actor) → ruled b op f a ≡ false
    → true ≡ q22 config b op f a
unfolding q22
unruled config b op Write Driver h = or_yes (green b (zone_of b op Driver)) _ h
unruled config b op Write Device h = refl
unruled config b op Write External h = or_yes (green b (zone_of b op External)) _ h
unruled config b op Copy Driver h = or_yes (green b (zone_of b op Driver)) _ h
unruled config b op Copy Device h = refl
unruled config b op Copy External h = or_yes (green b (zone_of b op External)) _ h
unruled config b op Create a h = refl
unruled config b op Destroy a h = refl
unruled config b op Activate Driver h = or_true (not (green b op.partition))
unruled config b op Activate Device h = or_yes (green b op.partition) _ h
unruled config b op Activate External h = or_true (not (green b op.partition))
unruled config b op Deactivate a h = refl
unruled config b op Lock a h = refl
unruled config b op Unlock a h = refl
