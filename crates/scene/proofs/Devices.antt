-- No rule of the closure looks at the devices' hardcoded values and serials: what is collected and read stays when they
-- are others. Assumes nothing.
use Prim.Native.Nat.{ℕ, zero, suc}
use mathlib.Core.Path.{◌≡◌, refl, subst}
use mathlib.Core.Bool.{Bool}
use mathlib.Core.List.{List, Memᴰ}
use Rattle.model.specs.Config.{Entry, entries}
use Rattle.model.specs.State.{State}
use Rattle.model.specs.Closure.{Collected, Reads, start, stored, own, next}
use Rattle.model.specs.declared.Devices.{Devices}
use Rattle.model.specs.declared.Config.{Config}
use Rattle.scene.specs.Devices.{with_devices}

-- from the devices d to the devices e
module _ (config : Config) (d e : Devices) where
  same_entries : (v : ℕ) → entries (with_devices d config) v ≡ entries (with_devices e config) v
  unfolding entries
  same_entries zero = refl
  same_entries (suc v) = refl

  pub listed_any : (v : ℕ) {x : Entry} → Memᴰ x (entries (with_devices d config) v)
      → Memᴰ x (entries (with_devices e config) v)
  listed_any v {x} m = subst (λ (l : List Entry). Memᴰ x l) (same_entries v) m

  module _ {storing : Bool} {b : State} where
    mutual
      pub collected_any : {o v : ℕ} → Collected (with_devices d config) storing b o v
          → Collected (with_devices e config) storing b o v
      collected_any (start l h) = start l h
      collected_any (stored {v = v} on x r m h k ep ew) = stored on x (reads_any r) (listed_any v m) h k ep ew

      pub reads_any : {c o v : ℕ} → Reads (with_devices d config) storing b c o v
          → Reads (with_devices e config) storing b c o v
      reads_any (own h k q) = own h k (collected_any q)
      reads_any (next {v = v} x r m h k ep q) = next x (reads_any r) (listed_any v m) h k ep (collected_any q)
