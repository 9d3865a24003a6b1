-- What a byte of an area is in its state, read and stored, for every number: in range and past it.
use Prim.Native.Nat.{ℕ, zero, suc, ◌+◌, ◌-◌, ◌*◌, ◌≤◌, ◌<◌}
use mathlib.Core.Path.{◌≡◌, refl, sym, ap, ◌∙◌}
use mathlib.Core.List.{List, [], ◌∷◌}
use mathlib.Core.Logic.{◌⊎◌, inl, inr}
use mathlib.Core.Bool.{Bool, true, false, ◌&&◌, cond}
use native.Mathlib.Decide.{dec_le}
use native.Mathlib.Omega.{arith}
use lib.ListN.{length, get_or, take, drop, set, length-drop, get_or-eq_default}
use lib.Seq.{sets, sets-eq, set_out, get_or-drop}
use lib.Dec.{leb}
use borrow.Author.Tests.{le-leb, lt-leb}
use Rattle.model.specs.Base.{put}
use Rattle.model.specs.Config.{most_drivers, most_devices, from1to}
use Rattle.model.specs.State.{
  content_bytes,
  partition_count,
  record_bytes,
  drivers_from,
  devices_from,
  records_from,
  locks_from,
  driver_place,
  device_place,
  object_place,
  content_place,
  lock_place,
  status_of,
  driver_in,
  device_in,
  object_in,
  lock_of,
  content_of,
  held,
  cleared,
  window,
  partitions_in,
  contents_in,
  area_length,
  view,
  layout,
}
use Rattle.model.proofs.Lists.{All, nth_past}
use Rattle.model.proofs.StateLaws.{Sixteen, Shape}
use Rattle.model.proofs.StateBytes.{
  status_byte,
  driver_byte,
  device_byte,
  object_byte,
  content-bytes,
  lock_byte,
  layout-view,
  store_status,
  store_driver,
  store_device,
  store_object,
  store_content,
  store_lock,
}
use Rattle.state.specs.Bytes.{byte_of, with_byte}
use Rattle.state.specs.Splice.{splice, part}
use Rattle.state.specs.Change.{with_status, with_driver, with_device, with_object, with_content, with_lock}

-- what a view shows has the right shape
window_length : (k : ℕ) (s : List ℕ) → length (window k s) ≡ k
window_length zero s = refl
window_length (suc k) [] = ap suc (window_length k [])
window_length (suc k) (x ∷ s) = ap suc (window_length k s)

partitions_length : (k : ℕ) (s : List ℕ) → length (partitions_in k s) ≡ k
partitions_length zero s = refl
partitions_length (suc k) s = ap suc (partitions_length k (drop record_bytes s))

contents_length : (k : ℕ) (s : List ℕ) → length (contents_in k s) ≡ k
contents_length zero s = refl
contents_length (suc k) s = ap suc (contents_length k (drop record_bytes s))

contents_sixteen : (k : ℕ) (s : List ℕ) → All Sixteen (contents_in k s)
contents_sixteen zero s = tt
contents_sixteen (suc k) s = (window_length content_bytes (drop 1 s), contents_sixteen k (drop record_bytes s))

pub view_shape : (room : ℕ) (s : List ℕ) → Shape room (view room s)
unfolding view
view_shape room s =
    record {
      statuses = window_length partition_count s;
      drivers = window_length most_drivers (drop drivers_from s);
      devices = window_length most_devices (drop devices_from s);
      objects = partitions_length room (drop records_from s);
      contents = contents_length room (drop records_from s);
      sixteen = contents_sixteen room (drop records_from s);
      locks = window_length most_devices (drop (locks_from room) s);
    }

-- the first k bytes are there
pub window_take : (k : ℕ) (l : List ℕ) → k ≤ length l → window k l ≡ take k l
window_take zero l h = refl
window_take (suc k) [] h = absurd (omega arith)
window_take (suc k) (x ∷ l) h = ap (λ (t : List ℕ). x ∷ t) (window_take k l (omega arith))

-- lookups
module _ (room : ℕ) (s : List ℕ) where
  pub status_in : (p : ℕ) → p < partition_count → get_or s p 0 ≡ status_of (view room s) p
  status_in p h = sym (status_byte room s p h)

  pub status_out : (p : ℕ) → partition_count ≤ p → 0 ≡ status_of (view room s) p
  status_out p h = sym (get_or-eq_default (view room s).status 0 (omega (arith, (view_shape room s).statuses)))

  driver_in_lem : (d : ℕ) → (d ≡ 0 → ⊥) → d ≤ most_drivers → get_or s (driver_place d) 0 ≡ driver_in (view room s) d
  driver_in_lem d h k = sym (driver_byte room s d (omega arith) k)

  pub driver_out : (d : ℕ) → most_drivers < d → 0 ≡ driver_in (view room s) d
  driver_out d h = sym (nth_past (view room s).driver d 0 (omega (arith, (view_shape room s).drivers)))

  device_in_lem : (c : ℕ) → (c ≡ 0 → ⊥) → c ≤ most_devices → get_or s (device_place c) 0 ≡ device_in (view room s) c
  device_in_lem c h k = sym (device_byte room s c (omega arith) k)

  pub device_out : (c : ℕ) → most_devices < c → 0 ≡ device_in (view room s) c
  device_out c h = sym (nth_past (view room s).device c 0 (omega (arith, (view_shape room s).devices)))

  lock_in : (c : ℕ) → (c ≡ 0 → ⊥) → c ≤ most_devices → get_or s (lock_place room c) 0 ≡ lock_of (view room s) c
  lock_in c h k = sym (lock_byte room s c (omega arith) k)

  lock_out : (c : ℕ) → most_devices < c → 0 ≡ lock_of (view room s) c
  lock_out c h = sym (nth_past (view room s).lock c 0 (omega (arith, (view_shape room s).locks)))

  object_in_lem : (n : ℕ) → (n ≡ 0 → ⊥) → n ≤ room → get_or s (object_place n) 0 ≡ object_in (view room s) n
  object_in_lem n h k = sym (object_byte room s n (omega arith) k)

  object_out : (n : ℕ) → room < n → 0 ≡ object_in (view room s) n
  object_out n h = sym (nth_past (view room s).object n 0 (omega (arith, (view_shape room s).objects)))

  content_out : (n : ℕ) → room < n → cleared ≡ content_of (view room s) n
  content_out n h = sym (nth_past (view room s).content n cleared (omega (arith, (view_shape room s).contents)))

  pub content-absent : (n : ℕ) → (n < 1) ⊎ (room < n) → cleared ≡ content_of (view room s) n
  content-absent zero h = refl
  content-absent (suc n) (inl h) = absurd (omega arith)
  content-absent (suc n) (inr h) = content_out (suc n) h

  pub content_in : (n : ℕ) (r : List ℕ) → length s ≡ area_length room → (n ≡ 0 → ⊥) → n ≤ room
      → r ≡ part s (content_place n) content_bytes → r ≡ content_of (view room s) n
  unfolding part
  content_in n r l h k e =
      e ∙ sym (content-bytes room s n (omega arith) k
      ∙ window_take content_bytes (drop (content_place n) s) (omega (arith, length-drop (content_place n) s)))

  value_out : (n : ℕ) → room < n → 0 ≡ held (view room s) n
  value_out n h = ap (λ (c : List ℕ). get_or c 0 0) (content_out n h)

  first-window : (k : ℕ) (l : List ℕ) → get_or (window (suc k) l) 0 0 ≡ get_or l 0 0
  first-window k [] = refl
  first-window k (x ∷ l) = refl

  value_in_lem : (n : ℕ) → (n ≡ 0 → ⊥) → n ≤ room → get_or s (content_place n) 0 ≡ held (view room s) n
  value_in_lem n h k =
      let z : content_place n + 0 ≡ content_place n = omega arith in
      sym (ap (λ (c : List ℕ). get_or c 0 0) (content-bytes room s n (omega arith) k)
      ∙ (first-window (content_bytes - 1) (drop (content_place n) s)
      ∙ (get_or-drop (content_place n) s 0 0 ∙ ap (λ (i : ℕ). get_or s i 0) z)))

-- what a number from 1 to `many` gives, and what another one does
out : (n many : ℕ) → (n < 1) ⊎ (many < n) → from1to n many ≡ false
out n many (inl h) = rw (lt-leb 1 n h)
out n many (inr h) = rw (lt-leb n many h) (sym (and-false (leb 1 n)))
  where
    and-false : (a : Bool) → false ≡ (a && false)
    and-false true = refl
    and-false false = refl

by_number : {A : Type 0} (many : ℕ) (x : ℕ → A) (y : A) (f : ℕ → A) → y ≡ f 0
    → ((n : ℕ) → (n ≡ 0 → ⊥) → n ≤ many → x n ≡ f n) → ((n : ℕ) → many < n → y ≡ f n) → (n : ℕ)
    → cond (from1to n many) (x n) y ≡ f n
by_number many x y f z h k zero = z
by_number many x y f z h k (suc n) = go (dec_le (suc n) many)
  where
    low : leb 1 (suc n) ≡ true
    low = le-leb 1 (suc n) (omega arith)

    go : Dec (suc n ≤ many) → cond (from1to (suc n) many) (x (suc n)) y ≡ f (suc n)
    go (yes q) = rw (low, le-leb (suc n) many q) (h (suc n) (λ e. omega arith) q)
    go (no q) = rw (low, lt-leb (suc n) many (omega arith)) (k (suc n) (omega arith))

module _ (s : List ℕ) (before step many n : ℕ) where
  pub byte-in : 1 ≤ n → n ≤ many → get_or s (before + step * n) 0 ≡ byte_of s before step many n
  unfolding byte_of
  byte-in l h = rw (le-leb 1 n l, le-leb n many h)

  pub byte-out : (n < 1) ⊎ (many < n) → 0 ≡ byte_of s before step many n
  unfolding byte_of
  byte-out h = rw (out n many h)

  pub byte-stored : (v : ℕ) → 1 ≤ n → n ≤ many → set s (before + step * n) v ≡ with_byte s before step many n v
  unfolding with_byte
  byte-stored v l h = rw (le-leb 1 n l, le-leb n many h)

  pub byte-kept : (v : ℕ) → (n < 1) ⊎ (many < n) → s ≡ with_byte s before step many n v
  unfolding with_byte
  byte-kept v h = rw (out n many h)

-- numbered bytes of an area
module _ (room : ℕ) (s : List ℕ) where
  pub driver_shown : (d : ℕ) → byte_of s (drivers_from - 1) 1 most_drivers d ≡ driver_in (view room s) d
  unfolding byte_of
  driver_shown = by_number most_drivers (λ n. get_or s ((drivers_from - 1) + 1 * n) 0) 0 (driver_in (view room s)) refl
      (λ n h k. ap (λ (i : ℕ). get_or s i 0) (omega arith) ∙ driver_in_lem room s n h k) (driver_out room s)

  pub device_shown : (c : ℕ) → byte_of s (devices_from - 1) 1 most_devices c ≡ device_in (view room s) c
  unfolding byte_of
  device_shown = by_number most_devices (λ n. get_or s ((devices_from - 1) + 1 * n) 0) 0 (device_in (view room s)) refl
      (λ n h k. ap (λ (i : ℕ). get_or s i 0) (omega arith) ∙ device_in_lem room s n h k) (device_out room s)

  pub lock_shown : (c : ℕ)
      → byte_of s ((records_from - 1) + record_bytes * room) 1 most_devices c ≡ lock_of (view room s) c
  unfolding byte_of
  lock_shown = by_number most_devices (λ n. get_or s (((records_from - 1) + record_bytes * room) + 1 * n) 0) 0
      (lock_of (view room s)) refl
      (λ n h k. ap (λ (i : ℕ). get_or s i 0) (omega arith) ∙ lock_in room s n h k) (lock_out room s)

  pub object_shown : (n : ℕ) → byte_of s (records_from - record_bytes) record_bytes room n ≡ object_in (view room s) n
  unfolding byte_of
  object_shown = by_number room (λ n. get_or s (object_place n) 0) 0 (object_in (view room s)) refl
      (object_in_lem room s) (object_out room s)

  pub value_shown : (n : ℕ) → byte_of s (records_from - content_bytes) record_bytes room n ≡ held (view room s) n
  unfolding byte_of
  value_shown = by_number room (λ n. get_or s (content_place n) 0) 0 (held (view room s)) refl (value_in_lem room s)
      (value_out room s)

-- stores: s is the area, with the right length
module _ (room : ℕ) (s : List ℕ) (fits : length s ≡ area_length room) where
  whole : layout (view room s) ≡ s
  whole = layout-view room s fits

  pub status-stored : (p v : ℕ) → p < partition_count → set s p v ≡ layout (with_status (view room s) p v)
  unfolding with_status
  status-stored p v h = ap (λ (l : List ℕ). set l p v) (sym whole)
      ∙ store_status room (view room s) (view_shape room s) p v h

  pub status-kept : (p v : ℕ) → partition_count ≤ p → s ≡ layout (with_status (view room s) p v)
  unfolding with_status
  status-kept p v h = rw (set_out (view room s).status p v (omega (arith, (view_shape room s).statuses))) (sym whole)

  driver-stored : (d v : ℕ) → (d ≡ 0 → ⊥) → d ≤ most_drivers
      → set s (driver_place d) v ≡ layout (with_driver (view room s) d v)
  unfolding with_driver
  driver-stored d v h k = ap (λ (l : List ℕ). set l (driver_place d) v) (sym whole)
      ∙ store_driver room (view room s) (view_shape room s) d v (omega arith) k

  put_out : {A : Type 0} (l : List A) (n : ℕ) (v : A) → length l < n → put l n v ≡ l
  put_out l zero v h = refl
  put_out l (suc n) v h = set_out l n v (omega arith)

  driver-kept : (d v : ℕ) → most_drivers < d → s ≡ layout (with_driver (view room s) d v)
  unfolding with_driver
  driver-kept d v h = rw (put_out (view room s).driver d v (omega (arith, (view_shape room s).drivers))) (sym whole)

  driver_zero : (d v : ℕ) → d ≡ 0 → s ≡ layout (with_driver (view room s) d v)
  unfolding with_driver
  driver_zero d v e = rw e (sym whole)

  device-stored : (c v : ℕ) → (c ≡ 0 → ⊥) → c ≤ most_devices
      → set s (device_place c) v ≡ layout (with_device (view room s) c v)
  unfolding with_device
  device-stored c v h k = ap (λ (l : List ℕ). set l (device_place c) v) (sym whole)
      ∙ store_device room (view room s) (view_shape room s) c v (omega arith) k

  device-kept : (c v : ℕ) → most_devices < c → s ≡ layout (with_device (view room s) c v)
  unfolding with_device
  device-kept c v h = rw (put_out (view room s).device c v (omega (arith, (view_shape room s).devices))) (sym whole)

  device_zero : (c v : ℕ) → c ≡ 0 → s ≡ layout (with_device (view room s) c v)
  unfolding with_device
  device_zero c v e = rw e (sym whole)

  lock-stored : (c v : ℕ) → (c ≡ 0 → ⊥) → c ≤ most_devices
      → set s (lock_place room c) v ≡ layout (with_lock (view room s) c v)
  unfolding with_lock
  lock-stored c v h k = ap (λ (l : List ℕ). set l (lock_place room c) v) (sym whole)
      ∙ store_lock room (view room s) (view_shape room s) c v (omega arith) k

  lock-kept : (c v : ℕ) → most_devices < c → s ≡ layout (with_lock (view room s) c v)
  unfolding with_lock
  lock-kept c v h = rw (put_out (view room s).lock c v (omega (arith, (view_shape room s).locks))) (sym whole)

  lock_zero : (c v : ℕ) → c ≡ 0 → s ≡ layout (with_lock (view room s) c v)
  unfolding with_lock
  lock_zero c v e = rw e (sym whole)

  object-stored : (n v : ℕ) → (n ≡ 0 → ⊥) → n ≤ room
      → set s (object_place n) v ≡ layout (with_object (view room s) n v)
  unfolding with_object
  object-stored n v h k = ap (λ (l : List ℕ). set l (object_place n) v) (sym whole)
      ∙ store_object room (view room s) (view_shape room s) n v (omega arith) k

  object-kept : (n v : ℕ) → room < n → s ≡ layout (with_object (view room s) n v)
  unfolding with_object
  object-kept n v h = rw (put_out (view room s).object n v (omega (arith, (view_shape room s).objects))) (sym whole)

  object_zero : (n v : ℕ) → n ≡ 0 → s ≡ layout (with_object (view room s) n v)
  unfolding with_object
  object_zero n v e = rw e (sym whole)

  pub content-stored : (n : ℕ) (v r : List ℕ) → Sixteen v → (n ≡ 0 → ⊥) → n ≤ room → r ≡ splice s (content_place n) v
      → r ≡ layout (with_content (view room s) n v)
  unfolding with_content splice
  content-stored n v r w h k e =
      e ∙ (sym (sets-eq v s (content_place n) (omega arith))
      ∙ (ap (λ (l : List ℕ). sets l (content_place n) v) (sym whole)
      ∙ store_content room (view room s) (view_shape room s) n v (omega arith) k w))

  content-kept : (n : ℕ) (v : List ℕ) → room < n → s ≡ layout (with_content (view room s) n v)
  unfolding with_content
  content-kept n v h = rw (put_out (view room s).content n v (omega (arith, (view_shape room s).contents))) (sym whole)

  content_zero : (n : ℕ) (v : List ℕ) → n ≡ 0 → s ≡ layout (with_content (view room s) n v)
  unfolding with_content
  content_zero n v e = rw e (sym whole)

  pub content-left : (n : ℕ) (v : List ℕ) → (n < 1) ⊎ (room < n) → s ≡ layout (with_content (view room s) n v)
  content-left n v (inl h) = content_zero n v (omega arith)
  content-left n v (inr h) = content-kept n v h

-- numbered bytes
module _ (room : ℕ) (s : List ℕ) (fits : length s ≡ area_length room) (v : ℕ) where
  pub driver_changed : (d : ℕ)
      → with_byte s (drivers_from - 1) 1 most_drivers d v ≡ layout (with_driver (view room s) d v)
  unfolding with_byte
  driver_changed = by_number most_drivers (λ n. set s ((drivers_from - 1) + 1 * n) v) s
      (λ d. layout (with_driver (view room s) d v)) (driver_zero room s fits 0 v refl)
      (λ n h k. ap (λ (i : ℕ). set s i v) (omega arith) ∙ driver-stored room s fits n v h k)
      (λ n h. driver-kept room s fits n v h)

  pub device_changed : (c : ℕ)
      → with_byte s (devices_from - 1) 1 most_devices c v ≡ layout (with_device (view room s) c v)
  unfolding with_byte
  device_changed = by_number most_devices (λ n. set s ((devices_from - 1) + 1 * n) v) s
      (λ c. layout (with_device (view room s) c v)) (device_zero room s fits 0 v refl)
      (λ n h k. ap (λ (i : ℕ). set s i v) (omega arith) ∙ device-stored room s fits n v h k)
      (λ n h. device-kept room s fits n v h)

  pub lock_changed : (c : ℕ)
      → with_byte s ((records_from - 1) + record_bytes * room) 1 most_devices c v ≡ layout (with_lock (view room s) c v)
  unfolding with_byte
  lock_changed = by_number most_devices (λ n. set s (((records_from - 1) + record_bytes * room) + 1 * n) v) s
      (λ c. layout (with_lock (view room s) c v)) (lock_zero room s fits 0 v refl)
      (λ n h k. ap (λ (i : ℕ). set s i v) (omega arith) ∙ lock-stored room s fits n v h k)
      (λ n h. lock-kept room s fits n v h)

  pub object_changed : (n : ℕ)
      → with_byte s (records_from - record_bytes) record_bytes room n v ≡ layout (with_object (view room s) n v)
  unfolding with_byte
  object_changed = by_number room (λ n. set s (object_place n) v) s
      (λ n. layout (with_object (view room s) n v)) (object_zero room s fits 0 v refl)
      (λ n h k. object-stored room s fits n v h k)
      (λ n h. object-kept room s fits n v h)
