-- Question 9: one law for each way out of the tests of the head, and of the whole.
use Prim.Native.Nat.{ℕ, zero, suc, ◌≤◌, max}
use mathlib.Core.Path.{◌≡◌, refl, sym, ap, ◌∙◌}
use mathlib.Core.List.{List, [], ◌∷◌}
use mathlib.Core.Bool.{Bool, true, false, ◌&&◌, cond}
use native.Mathlib.Decide.{dec_le}
use native.Mathlib.Omega.{arith}
use lib.ListN.{length, take}
use lib.Dec.{leb, eqb}
use borrow.Author.Tests.{eqb-true, le-leb, lt-leb, eq-eqb, ne_eqb}
use Rattle.std.specs.Prelude.{Option}
use Rattle.std.specs.Option.{is_none, unwrap_or}
use Rattle.std.specs.List.{fold, reduce}
use Rattle.model.specs.Base.{all, every}
use Rattle.model.specs.Config.{most_drivers, most_devices}
use Rattle.model.specs.State.{
  partition_count,
  State,
  status_of,
  green_status,
  driver_in,
  device_in,
  assigned,
  right_assignment,
  right_lock,
  right_object,
  found_or,
  area_length,
  view,
  well_formed,
  head_formed,
  first_bad,
}
use Rattle.model.specs.declared.Config.{Config}
use Rattle.model.proofs.Lists.{and_l, and_r, every_at}
use Rattle.model.proofs.Walk.{formed_walk}
use Rattle.state.specs.Change.{lent}
use Rattle.state.specs.Formed.{statuses_right, assignments_right, locks_right, Housed, found}
use Rattle.state.proofs.Places.{window_take, driver_out, device_out}

-- tests
pub same_test : (a b : Bool) → (a ≡ true → b ≡ true) → (b ≡ true → a ≡ true) → a ≡ b
same_test true b f g = sym (f refl)
same_test false true f g = g refl
same_test false false f g = refl

pub and-false : (a : Bool) → false ≡ (a && false)
and-false true = refl
and-false false = refl

pub and-true : (a : Bool) → (a && true) ≡ a
and-true true = refl
and-true false = refl

-- statuses
-- all are at most m exactly if the highest is
highest_all : (l : List ℕ) (x m : ℕ) → leb (fold max x l) m ≡ (leb x m && all (λ s. leb s m) l)
highest_all [] x m = sym (and-true (leb x m))
highest_all (y ∷ l) x m =
    highest_all l (max x y) m ∙ go (dec_le x m) (dec_le y m)
  where
    rest : Bool
    rest = all (λ s. leb s m) l

    go : Dec (x ≤ m) → Dec (y ≤ m) → (leb (max x y) m && rest) ≡ (leb x m && (leb y m && rest))
    go (yes p) (yes q) = rw (le-leb (max x y) m (omega arith), le-leb x m p, le-leb y m q)
    go (no p) q = rw (lt-leb (max x y) m (omega arith), lt-leb x m (omega arith))
    go (yes p) (no q) = rw (lt-leb (max x y) m (omega arith), le-leb x m p, lt-leb y m (omega arith))

highest_some : (l : List ℕ) (m : ℕ) → leb (unwrap_or (reduce max l) 0) m ≡ all (λ s. leb s m) l
highest_some [] m = le-leb 0 m (omega arith)
highest_some (x ∷ l) m = highest_all l x m

pub status-first : (b : State) (v : ℕ) → v ≡ status_of b 0 → (v ≡ 0 → ⊥) → eqb v 0 ≡ statuses_right b
unfolding statuses_right
status-first b v e h = rw (← e, ne_eqb v 0 h)

pub status-rest : (room : ℕ) (s : List ℕ) (v t : ℕ) (r : Option ℕ) → length s ≡ area_length room
    → v ≡ status_of (view room s) 0 → v ≡ 0 → r ≡ reduce max (take partition_count s) → t ≡ unwrap_or r 0
    → leb t green_status ≡ statuses_right (view room s)
unfolding statuses_right view
status-rest room s v t r l e z h f =
    rw (← e, z, f, h)
    (highest_some (take partition_count s) green_status
    ∙ ap (all (λ x. leb x green_status)) (sym (window_take partition_count s (omega arith))))

-- a test that is put where those before it, whose answer is t, were met; and one that is not
pub met : (t u v x y : Bool) → t ≡ x → t ≡ true → u ≡ y → v ≡ u → v ≡ (x && y)
met t u v x y e h f g = rw (← e, h) (g ∙ f)

pub unmet : (t v x y : Bool) → t ≡ x → t ≡ false → v ≡ t → v ≡ (x && y)
unmet t v x y e h g = rw (← e, h) (g ∙ h)

and_assoc : (a b c d : Bool) → (((a && b) && c) && d) ≡ ((a && (b && c)) && d)
and_assoc true true c d = refl
and_assoc true false c d = refl
and_assoc false b c d = refl

-- the parts of the head
pub parts_head : (config : Config) (b : State)
    → head_formed config b ≡ ((statuses_right b && assignments_right config b) && locks_right config b)
unfolding head_formed statuses_right assignments_right locks_right
parts_head config b =
    and_assoc (eqb (status_of b 0) 0 && all (λ s. leb s green_status) b.status)
    (every most_drivers (λ d. right_assignment b config.counts.drivers d (driver_in b d)))
    (every most_devices (λ c. right_assignment b config.counts.devices c (device_in b c)))
    (every most_devices (λ c. right_lock config b c))

-- a head found good: every driver and every device is in no partition or in an existing one
module _ (room : ℕ) (s : List ℕ) (config : Config) where
  loose : (many n p : ℕ) → right_assignment (view room s) many n p ≡ true → assigned (view room s) p ≡ true
  loose many n p e = go (leb n many) e
    where
      go : (t : Bool) → cond t (assigned (view room s) p) (eqb p 0) ≡ true → assigned (view room s) p ≡ true
      go true e = e
      go false e = rw (eq-eqb p 0 (eqb-true p 0 e))

  unlisted : (p : ℕ) → 0 ≡ p → assigned (view room s) p ≡ true
  unlisted p e = rw (eq-eqb p 0 (sym e))

  module _ (h : assignments_right config (view room s) ≡ true) where
    drivers : every most_drivers (λ d. right_assignment (view room s) config.counts.drivers d
        (driver_in (view room s) d)) ≡ true
    unfolding assignments_right
    drivers = and_l _ _ h

    devices : every most_devices (λ c. right_assignment (view room s) config.counts.devices c
        (device_in (view room s) c)) ≡ true
    unfolding assignments_right
    devices = and_r _ _ h

    driver_housed : (n : ℕ) → assigned (view room s) (driver_in (view room s) n) ≡ true
    driver_housed zero = refl
    driver_housed (suc n) = go (dec_le (suc n) most_drivers)
      where
        go : Dec (suc n ≤ most_drivers) → assigned (view room s) (driver_in (view room s) (suc n)) ≡ true
        go (yes q) =
            loose config.counts.drivers (suc n) (driver_in (view room s) (suc n))
            (every_at most_drivers (λ d. right_assignment (view room s) config.counts.drivers d
            (driver_in (view room s) d)) drivers (suc n) (omega arith) q)
        go (no q) = unlisted (driver_in (view room s) (suc n)) (driver_out room s (suc n) (omega arith))

    device_housed : (n : ℕ) → assigned (view room s) (device_in (view room s) n) ≡ true
    device_housed zero = refl
    device_housed (suc n) = go (dec_le (suc n) most_devices)
      where
        go : Dec (suc n ≤ most_devices) → assigned (view room s) (device_in (view room s) (suc n)) ≡ true
        go (yes q) =
            loose config.counts.devices (suc n) (device_in (view room s) (suc n))
            (every_at most_devices (λ c. right_assignment (view room s) config.counts.devices c
            (device_in (view room s) c)) devices (suc n) (omega arith) q)
        go (no q) = unlisted (device_in (view room s) (suc n)) (device_out room s (suc n) (omega arith))

  pub housed : (t : Bool) → t ≡ head_formed config (view room s) → t ≡ true → Housed (view room s)
  unfolding Housed
  housed t e x = λ n. (driver_housed here n, device_housed here n)
    where
      right : Bool
      right = statuses_right (view room s)

      assigns : Bool
      assigns = assignments_right config (view room s)

      here : assigns ≡ true
      here =
          and_r right assigns (and_l (right && assigns) (locks_right config (view room s))
          (sym (parts_head config (view room s)) ∙ (sym e ∙ x)))

none_found : (k : ℕ) → is_none (found k) ≡ eqb k 0
unfolding found
none_found zero = refl
none_found (suc k) = sym (ne_eqb (suc k) 0 (λ e. omega arith))

-- the whole
module _ (room : ℕ) (config : Config) (b : State) (t : Bool) (f : t ≡ head_formed config b) where
  by_walk : well_formed room config b ≡ (t && eqb (first_bad room config b) 0)
  by_walk = formed_walk room config b ∙ rw f

  pub formed_head : t ≡ false → t ≡ well_formed room config b
  formed_head x = rw x (sym (by_walk ∙ rw x))

  pub formed_records : (r : Option ℕ) (v : Bool) → t ≡ true → r ≡ found (first_bad room config b) → v ≡ is_none r
      → v ≡ well_formed room config b
  formed_records r v x e g = g ∙ (ap is_none e ∙ (none_found (first_bad room config b) ∙ sym (by_walk ∙ rw x)))

-- configurations with the same rules of records have the same walk
walk_same : (room : ℕ) (c d : Config) (b : State) → ((n : ℕ) → right_object c b n ≡ right_object d b n)
    → first_bad room c b ≡ first_bad room d b
unfolding first_bad
walk_same zero c d b h = refl
walk_same (suc n) c d b h = λ i. found_or (walk_same n c d b h i) (h (suc n) i) (suc n)

-- the walk asks of a configuration its counts and four of its columns only
pub whole_walk : (room : ℕ) (config : Config) (b : State) (r : ℕ)
    → r ≡ first_bad room (lent config.counts config.objects.kind config.objects.class
    config.objects.owner config.devices.hardcoded) b
    → r ≡ first_bad room config b
unfolding lent
whole_walk room config b r e =
    e ∙ walk_same room (lent config.counts config.objects.kind config.objects.class
    config.objects.owner config.devices.hardcoded) config b (λ n. refl)
