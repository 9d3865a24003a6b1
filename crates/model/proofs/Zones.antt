-- What leaves is in one zone: the driver's, the device's, or the one that is named.
use Prim.Native.Nat.{ℕ, ◌≤◌}
use mathlib.Core.Path.{◌≡◌, sym, ap, ◌∙◌}
use mathlib.Core.Bool.{true}
use borrow.Author.Tests.{eqb-true}
use Rattle.model.specs.State.{State, object_in, well_formed}
use Rattle.model.specs.Operation.{object_at}
use Rattle.model.specs.Effect.{concerned}
use Rattle.model.specs.Questions.{within, zone_of, q17}
use Rattle.model.specs.declared.Family.TheVariants.{Deactivate}
use Rattle.model.specs.declared.Actor.{Actor}
use Rattle.model.specs.declared.Actor.TheVariants.{Driver, Device, External}
use Rattle.model.specs.declared.Config.{Config}
use Rattle.model.specs.declared.Operation.{Operation}
use Rattle.model.proofs.Lists.{below_at}
use Rattle.model.proofs.Facts.{with_driver_lem, with_device_lem}
use Rattle.model.proofs.Moves.{listed_at}

pub concerned_zone : (room : ℕ) (config : Config) → config.counts.objects ≤ room → (b : State)
    → well_formed room config b ≡ true → (op : Operation) (a : Actor) → q17 b op Deactivate a ≡ true → (n : ℕ)
    → concerned config op a n ≡ true → object_in b n ≡ zone_of b op a
unfolding q17
concerned_zone room config fits b formed op Driver h n k = with_driver_lem room config fits b formed op.subject n k
concerned_zone room config fits b formed op Device h n k = with_device_lem room config fits b formed op.subject n k
concerned_zone room config fits b formed op External h n k =
    let (i, l, e) = listed_at config op n k in
    ap (object_in b) (sym e)
    ∙ eqb-true (object_in b (object_at op i)) op.partition
    (below_at op.count (within b op Deactivate op.partition) h i l)
