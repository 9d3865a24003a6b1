-- The state and its area of bytes: a state of the right shape is what its area shows.
use Prim.Native.Nat.{ℕ, zero, suc}
use mathlib.Core.Path.{◌≡◌, refl, ap, ◌∙◌}
use mathlib.Core.List.{List, [], ◌∷◌}
use lib.ListN.{length, drop}
use Rattle.model.specs.Config.{most_drivers, most_devices}
use Rattle.model.specs.State.{
  content_bytes,
  partition_count,
  drivers_from,
  devices_from,
  record_bytes,
  records_from,
  locks_from,
  window,
  partitions_in,
  contents_in,
  view,
}
use Rattle.model.specs.Effect.{stores}
use Rattle.model.proofs.Lists.{All, length_put}
use Rattle.model.proofs.StateLaws.{Sixteen, Shape}

-- every operation keeps the shape
pub stores_length : (place : ℕ → ℕ) (bytes : ℕ → List ℕ) (k : ℕ) (cs : List (List ℕ))
    → length (stores place bytes k cs) ≡ length cs
stores_length place bytes zero cs = refl
stores_length place bytes (suc k) cs =
    length_put (stores place bytes k cs) (place k) (bytes k) ∙ stores_length place bytes k cs

window_length : (k : ℕ) (s : List ℕ) → length (window k s) ≡ k
window_length zero s = refl
window_length (suc k) [] = ap suc (window_length k [])
window_length (suc k) (x ∷ s) = ap suc (window_length k s)

-- what a view shows has the right shape
partitions_length : (k : ℕ) (s : List ℕ) → length (partitions_in k s) ≡ k
partitions_length zero s = refl
partitions_length (suc k) s = ap suc (partitions_length k (drop record_bytes s))

contents_length : (k : ℕ) (s : List ℕ) → length (contents_in k s) ≡ k
contents_length zero s = refl
contents_length (suc k) s = ap suc (contents_length k (drop record_bytes s))

contents_sixteen : (k : ℕ) (s : List ℕ) → All Sixteen (contents_in k s)
contents_sixteen zero s = tt
contents_sixteen (suc k) s = (window_length content_bytes (drop 1 s), contents_sixteen k (drop record_bytes s))

pub view_shape : (room : ℕ) (s : List ℕ) → Shape room (view room s)
unfolding view
view_shape room s =
    record {
      statuses = window_length partition_count s;
      drivers = window_length most_drivers (drop drivers_from s);
      devices = window_length most_devices (drop devices_from s);
      objects = partitions_length room (drop records_from s);
      contents = contents_length room (drop records_from s);
      sixteen = contents_sixteen room (drop records_from s);
      locks = window_length most_devices (drop (locks_from room) s);
    }
