-- Document 02, N6: an older area becomes a new one by zeros at its end.
use Prim.Native.Nat.{ℕ, zero, suc, ◌*◌, ◌≤◌}
use mathlib.Core.Path.{◌≡◌, refl, sym, ap, ◌∙◌}
use mathlib.Core.List.{List, [], ◌∷◌, ◌++◌, append_assoc}
use mathlib.Core.Bool.{Bool, true, false, ◌&&◌, ◌||◌}
use native.Mathlib.Omega.{arith}
use lib.ListN.{length, drop, length-drop}
use lib.Seq.{drop_at, drop-append-le}
use lib.Dec.{leb, eqb}
use Rattle.model.specs.Base.{nth, all, every}
use Rattle.model.specs.Config.{most_drivers, most_devices}
use Rattle.model.specs.State.{
  content_bytes,
  partition_count,
  record_bytes,
  green_status,
  State,
  status_of,
  driver_in,
  device_in,
  window,
  partitions_in,
  contents_in,
  drivers_from,
  devices_from,
  records_from,
  locks_from,
  object_records,
  view,
  layout,
  right_object,
  right_assignment,
  well_formed,
}
use Rattle.model.specs.Older.{no_locks, older_length, older_view, older_layout, older_formed}
use Rattle.model.specs.declared.Config.{Config}
use Rattle.model.proofs.StateLaws.{window-all}

-- what is read within s is read so with more behind it
window_more : (k : ℕ) (s t : List ℕ) → k ≤ length s → window k (s ++ t) ≡ window k s
window_more zero s t h = refl
window_more (suc k) [] t h = absurd (omega arith)
window_more (suc k) (x ∷ s) t h = ap (λ (l : List ℕ). x ∷ l) (window_more k s t (omega arith))

partitions_more : (k : ℕ) (s t : List ℕ) → record_bytes * k ≤ length s → partitions_in k (s ++ t) ≡ partitions_in k s
partitions_more zero s t h = refl
partitions_more (suc k) [] t h = absurd (omega arith)
partitions_more (suc k) (x ∷ s) t h =
    ap (λ (l : List ℕ). x ∷ l) (ap (partitions_in k) (drop-append-le content_bytes s t (omega arith))
    ∙ partitions_more k (drop content_bytes s) t (omega (arith, length-drop content_bytes s)))

contents_more : (k : ℕ) (s t : List ℕ) → record_bytes * k ≤ length s → contents_in k (s ++ t) ≡ contents_in k s
contents_more zero s t h = refl
contents_more (suc k) [] t h = absurd (omega arith)
contents_more (suc k) (x ∷ s) t h =
    go (ap (contents_in k) (drop-append-le content_bytes s t (omega arith))
    ∙ contents_more k (drop content_bytes s) t (omega (arith, length-drop content_bytes s)))
  where
    go : contents_in k (drop content_bytes (s ++ t)) ≡ contents_in k (drop content_bytes s)
        → contents_in (suc k) ((x ∷ s) ++ t) ≡ contents_in (suc k) (x ∷ s)
    go r = λ i. window_more content_bytes s t (omega arith) i ∷ r i

-- it has the older columns, and no lock
pub older_view_lem : (room : ℕ) (s : List ℕ) → length s ≡ older_length room → view room (s ++ no_locks) ≡ older_view
    room s
unfolding view older_view
older_view_lem room s h =
    λ i. record {
      status = window_more partition_count s no_locks (omega arith) i;
      driver = (ap (window most_drivers) (drop-append-le drivers_from s no_locks (omega arith))
          ∙ window_more most_drivers (drop drivers_from s) no_locks (omega (arith, length-drop drivers_from s))) i;
      device = (ap (window most_devices) (drop-append-le devices_from s no_locks (omega arith))
          ∙ window_more most_devices (drop devices_from s) no_locks (omega (arith, length-drop devices_from s))) i;
      object = (ap (partitions_in room) (drop-append-le records_from s no_locks (omega arith))
          ∙ partitions_more room (drop records_from s) no_locks (omega (arith, length-drop records_from s))) i;
      content = (ap (contents_in room) (drop-append-le records_from s no_locks (omega arith))
          ∙ contents_more room (drop records_from s) no_locks (omega (arith, length-drop records_from s))) i;
      lock = (ap (window most_devices) (drop_at s no_locks (locks_from room) h) ∙ window-all no_locks most_devices
          refl) i;
    }

and_yes : (s t : Bool) → t ≡ true → (s && t) ≡ s
and_yes true t h = h
and_yes false t h = refl

-- without a lock, the rules are the older ones
pub older_formed_lem : (room : ℕ) (config : Config) (b : State) → b.lock ≡ no_locks
    → well_formed room config b ≡ older_formed room config b
unfolding well_formed older_formed
older_formed_lem room config b e =
    let head : Bool = eqb (status_of b 0) 0 && all (λ s. leb s green_status) b.status
    && every most_drivers (λ d. right_assignment b config.counts.drivers d (driver_in b d))
    && every most_devices (λ c. right_assignment b config.counts.devices c (device_in b c)) in
    ap (λ (t : Bool). t && every room (λ n. right_object config b n)) (and_yes head _ (free b.lock e))
  where
    free : (ls : List ℕ) → ls ≡ no_locks → every most_devices (λ c. eqb (nth ls c 0) 0
        || (eqb (nth ls c 0) 1 && leb c config.counts.devices && eqb (device_in b c) 0)) ≡ true
    free ls e =
        ap (λ (l : List ℕ). every most_devices (λ c. eqb (nth l c 0) 0
        || (eqb (nth l c 0) 1 && leb c config.counts.devices && eqb (device_in b c) 0))) e

-- the area of a state without a lock is the older one with zeros behind
pub older_layout_lem : (b : State) → b.lock ≡ no_locks → layout b ≡ older_layout b ++ no_locks
unfolding layout older_layout
older_layout_lem b e =
    let r : List ℕ = object_records b.object b.content in
    ap (λ (l : List ℕ). b.status ++ (b.driver ++ (b.device ++ (r ++ l)))) e
    ∙ (ap (λ (l : List ℕ). b.status ++ (b.driver ++ l)) (sym (append_assoc b.device r no_locks))
    ∙ (ap (λ (l : List ℕ). b.status ++ l) (sym (append_assoc b.driver (b.device ++ r) no_locks))
    ∙ sym (append_assoc b.status (b.driver ++ (b.device ++ r)) no_locks)))

-- all three, of an older area
pub older_area : (room : ℕ) (config : Config) (s : List ℕ) → length s ≡ older_length room
    → (view room (s ++ no_locks) ≡ older_view room s)
    × (well_formed room config (view room (s ++ no_locks)) ≡ older_formed room config (older_view room s))
    × ((b : State) → b.lock ≡ no_locks → layout b ≡ older_layout b ++ no_locks)
unfolding older_view
older_area room config s h = (
  older_view_lem room s h,
  ap (well_formed room config) (older_view_lem room s h) ∙ older_formed_lem room config (older_view room s) refl,
  older_layout_lem,
)
