-- Loops that change an object a turn: the state after some of them.
use Prim.Native.Nat.{ℕ, zero, suc, ◌+◌, ◌-◌, ◌*◌, ◌≤◌, ◌<◌, min}
use mathlib.Core.Path.{◌≡◌, refl, sym, ap, ◌∙◌}
use mathlib.Core.Logic.{◌⊎◌, inl, inr}
use mathlib.Core.List.{List, ◌∷◌, ◌++◌, append_assoc}
use mathlib.Core.Bool.{Bool, true, false, ◌&&◌, cond}
use native.Mathlib.Omega.{arith}
use lib.ListN.{length, get_or, drop, set, replicate, length-replicate, replicate-append-replicate}
use lib.Seq.{set-get_or, drop_at, drop-drop}
use lib.Dec.{leb, eqb}
use borrow.Author.Tests.{le-leb, lt-leb, ne_eqb}
use Rattle.model.specs.Base.{number}
use Rattle.model.specs.Config.{most_drivers, most_devices, kind_of, owner_of, hardcoded_of}
use Rattle.model.specs.State as Columns
use Rattle.model.specs.State.{
  partition_count,
  record_bytes,
  partitions_in,
  contents_in,
  records_from,
  locks_from,
  window,
  State,
  cleared,
  value_bytes,
  fresh_content,
  area_length,
  view,
  layout,
  fresh,
}
use Rattle.model.specs.Older.{no_locks}
use Rattle.model.specs.declared.Config.{Config}
use Rattle.model.proofs.Lists.{all-put, length_put, partly, partly_get, partly_more, partly_all}
use Rattle.model.proofs.StateLaws.{Sixteen, Shape, view-layout}
use Rattle.model.proofs.StateBytes.{layout-view}
use Rattle.state.specs.Change.{with_driver, with_device, with_object, with_content}
use Rattle.state.specs.Fresh.{valued}
use Rattle.state.proofs.Places.{view_shape}
use Rattle.state.proofs.Idle.{idle_rest, min_end}

-- what an area shows after one change
module _ (room : ℕ) (s t : List ℕ) where
  pub after-driver : (d v : ℕ) → t ≡ layout (with_driver (view room s) d v) → view room t ≡ with_driver (view room s)
      d v
  unfolding with_driver
  after-driver d v e = ap (view room) e ∙ view-layout room _ (record {
    statuses = (view_shape room s).statuses;
    drivers = length_put (view room s).driver d v ∙ (view_shape room s).drivers;
    devices = (view_shape room s).devices;
    objects = (view_shape room s).objects;
    contents = (view_shape room s).contents;
    sixteen = (view_shape room s).sixteen;
    locks = (view_shape room s).locks;
  })

  pub after-device : (c v : ℕ) → t ≡ layout (with_device (view room s) c v) → view room t ≡ with_device (view room s)
      c v
  unfolding with_device
  after-device c v e = ap (view room) e ∙ view-layout room _ (record {
    statuses = (view_shape room s).statuses;
    drivers = (view_shape room s).drivers;
    devices = length_put (view room s).device c v ∙ (view_shape room s).devices;
    objects = (view_shape room s).objects;
    contents = (view_shape room s).contents;
    sixteen = (view_shape room s).sixteen;
    locks = (view_shape room s).locks;
  })

  pub after-object : (n v : ℕ) → t ≡ layout (with_object (view room s) n v) → view room t ≡ with_object (view room s)
      n v
  unfolding with_object
  after-object n v e = ap (view room) e ∙ view-layout room _ (record {
    statuses = (view_shape room s).statuses;
    drivers = (view_shape room s).drivers;
    devices = (view_shape room s).devices;
    objects = length_put (view room s).object n v ∙ (view_shape room s).objects;
    contents = (view_shape room s).contents;
    sixteen = (view_shape room s).sixteen;
    locks = (view_shape room s).locks;
  })

  pub after-content : (n : ℕ) (c : List ℕ) → Sixteen c → t ≡ layout (with_content (view room s) n c)
      → view room t ≡ with_content (view room s) n c
  unfolding with_content
  after-content n c w e = ap (view room) e ∙ view-layout room _ (record {
    statuses = (view_shape room s).statuses;
    drivers = (view_shape room s).drivers;
    devices = (view_shape room s).devices;
    objects = (view_shape room s).objects;
    contents = length_put (view room s).content n c ∙ (view_shape room s).contents;
    sixteen = all-put Sixteen (view room s).content n c w (view_shape room s).sixteen;
    locks = (view_shape room s).locks;
  })

-- both columns of objects done up to k
unfoldable pub changed_to : (ℕ → ℕ → ℕ) → (ℕ → List ℕ → List ℕ) → ℕ → State → State
changed_to f g k b =
    Columns.with_content (Columns.with_object b (partly f k b.object)) (partly g k b.content)

unfoldable pub done : (ℕ → ℕ → ℕ) → (ℕ → List ℕ → List ℕ) → State → State
done f g b = Columns.with_content (Columns.with_object b (number 0 f b.object)) (number 0 g b.content)

module _ (f : ℕ → ℕ → ℕ) (g : ℕ → List ℕ → List ℕ) where
  pub changed_to_none : (b : State) → b ≡ changed_to f g 0 b
  unfolding changed_to
  changed_to_none b = refl

  pub changed_to_all : (room k : ℕ) (b : State) → Shape room b → k ≤ room → room ≤ k → changed_to f g k b ≡ done f g b
  unfolding changed_to done
  changed_to_all room k b sh h q = λ i. Columns.with_content
      (Columns.with_object b ((ap (λ (x : ℕ). partly f x b.object) e ∙ partly_all f b.object) i))
      ((ap (λ (x : ℕ). partly g x b.content) d ∙ partly_all g b.content) i)
    where
      e : k ≡ length b.object
      e = omega (arith, sh.objects)

      d : k ≡ length b.content
      d = omega (arith, sh.contents)

pub zero_length : (n : ℕ) (s t : List ℕ) → s ≡ replicate n 0 → length t ≡ length s → length t ≡ n
zero_length n s t e l = l ∙ (ap (λ (r : List ℕ). length r) e ∙ length-replicate n 0)

-- records of zeros
zeros-record : (k : ℕ)
    → replicate {A = ℕ} (record_bytes * suc k) 0 ≡ replicate record_bytes 0 ++ replicate (record_bytes * k) 0
zeros-record k =
    let q : record_bytes * suc k ≡ record_bytes + record_bytes * k = omega arith in
    ap (λ (n : ℕ). replicate {A = ℕ} n 0) q ∙ sym (replicate-append-replicate record_bytes (record_bytes * k) 0)

zeros_partitions : (k : ℕ) (t : List ℕ) → partitions_in k (replicate (record_bytes * k) 0 ++ t) ≡ replicate k 0
zeros_partitions zero t = refl
zeros_partitions (suc k) t =
    ap (λ (l : List ℕ). partitions_in (suc k) (l ++ t)) (zeros-record k)
    ∙ ap (λ (l : List ℕ). 0 ∷ l) (zeros_partitions k t)

zeros_contents : (k : ℕ) (t : List ℕ) → contents_in k (replicate (record_bytes * k) 0 ++ t) ≡ replicate k cleared
zeros_contents zero t = refl
zeros_contents (suc k) t =
    ap (λ (l : List ℕ). contents_in (suc k) (l ++ t)) (zeros-record k)
    ∙ ap (λ (l : List (List ℕ)). cleared ∷ l) (zeros_contents k t)

-- one object's contents in a fresh state
module _ (config : Config) (n room : ℕ) (s : List ℕ) where
  abbrev Valued : List ℕ → Type 0
  Valued t = t ≡ layout (valued config n (view room s))

  pub value-absent : length s ≡ area_length room → config.counts.objects < n → Valued s
  unfolding valued
  value-absent l h = rw (lt-leb n config.counts.objects h) (sym (layout-view room s l))

  pub value-other : (k : ℕ) → length s ≡ area_length room → n ≤ config.counts.objects
      → k ≡ get_or config.objects.kind n 0 → (k ≡ 4 → ⊥) → Valued s
  unfolding valued
  value-other k l h e x =
      rw (le-leb n config.counts.objects h, ← e, ne_eqb k 4 x) (sym (layout-view room s l))

  pub value-hardcoded : (k o v : ℕ) (c t : List ℕ) → n ≤ config.counts.objects → k ≡ get_or config.objects.kind n 0
      → k ≡ 4 → o ≡ get_or config.objects.owner n 0 → v ≡ get_or config.devices.hardcoded o 0 → c ≡ value_bytes v
      → t ≡ layout (with_content (view room s) n c) → Valued t
  unfolding valued
  value-hardcoded k o v c t h e x f q r g = rw (le-leb n config.counts.objects h, ← e, x, ← f, ← q, ← r) g

-- the loop of a fresh state
unfoldable pub fresh_to : Config → ℕ → ℕ → State
fresh_to config room k =
    Columns.with_content (fresh room config) (partly (λ n c. fresh_content config n) k (replicate room cleared))

cleared_at : (k i : ℕ) → get_or (replicate k cleared) i cleared ≡ cleared
cleared_at zero i = refl
cleared_at (suc k) zero = refl
cleared_at (suc k) (suc i) = cleared_at k i

module _ (config : Config) (room : ℕ) where
  pub fresh_none : (s : List ℕ) → s ≡ replicate (area_length room) 0 → view room s ≡ fresh_to config room 0
  unfolding fresh_to view fresh
  fresh_none s e =
      ap (view room) (e ∙ zeros-area)
      ∙ (λ i. record {
        status = replicate partition_count 0;
        driver = replicate most_drivers 0;
        device = replicate most_devices 0;
        object = zeros_partitions room no_locks i;
        content = zeros_contents room no_locks i;
        lock = zeros_locks i;
      })
    where
      records : List ℕ
      records = replicate (record_bytes * room) 0

      zeros-area : replicate (area_length room) 0 ≡ replicate records_from 0 ++ (records ++ no_locks)
      zeros-area =
          sym (replicate-append-replicate (locks_from room) most_devices 0)
          ∙ (ap (λ (l : List ℕ). l ++ no_locks) (sym (replicate-append-replicate records_from (record_bytes * room) 0))
          ∙ append_assoc (replicate records_from 0) records no_locks)

      zeros_locks : window most_devices (drop (locks_from room) (replicate records_from 0 ++ (records ++ no_locks)))
          ≡ no_locks
      zeros_locks =
          ap (window most_devices) (sym (drop-drop (record_bytes * room) records_from
          (replicate records_from 0 ++ (records ++ no_locks)))
          ∙ drop_at records no_locks (record_bytes * room) (length-replicate (record_bytes * room) 0))

  abbrev is_hardcoded : ℕ → Bool
  is_hardcoded n = leb n config.counts.objects && eqb (kind_of config n) 4

  abbrev value : ℕ → List ℕ
  value n = value_bytes (hardcoded_of config (owner_of config n))

  fresh-state : (i : ℕ) (h : Bool) (v : List ℕ) → i < room → fresh_content config (suc i) ≡ cond h v cleared
      → cond h (with_content (fresh_to config room i) (suc i) v) (fresh_to config room i) ≡ fresh_to config room (suc i)
  unfolding fresh_to with_content
  fresh-state i h v l e = go h e
    where
      f : ℕ → List ℕ → List ℕ
      f n c = fresh_content config n

      cs : List (List ℕ)
      cs = replicate room cleared

      more : set (partly f i cs) i (fresh_content config (suc i)) ≡ partly f (suc i) cs
      more = partly_more f i cs cleared (omega (arith, length-replicate room cleared))

      same : partly f i cs ≡ set (partly f i cs) i cleared
      same =
          sym (set-get_or (partly f i cs) i cleared)
          ∙ ap (λ (c : List ℕ). set (partly f i cs) i c)
          (partly_get f i cs cleared (omega (arith, length-replicate room cleared)) ∙ cleared_at room i)

      go : (h : Bool) → fresh_content config (suc i) ≡ cond h v cleared
          → cond h (with_content (fresh_to config room i) (suc i) v) (fresh_to config room i) ≡ fresh_to config room
          (suc i)
      go true q =
          ap (Columns.with_content (fresh room config)) (ap (λ (c : List ℕ). set (partly f i cs) i c) (sym q) ∙ more)
      go false q =
          ap (Columns.with_content (fresh room config))
          (same ∙ (ap (λ (c : List ℕ). set (partly f i cs) i c) (sym q) ∙ more))

  after-value : (s t v : List ℕ) (n : ℕ) (h : Bool) → Sixteen v
      → t ≡ layout (cond h (with_content (view room s) n v) (view room s))
      → view room t ≡ cond h (with_content (view room s) n v) (view room s)
  after-value s t v n true w e = after-content room s t n v w e
  after-value s t v n false w e = ap (view room) e ∙ view-layout room (view room s) (view_shape room s)

  -- after the turn for object n it is done, as those before it are
  pub fresh_on : (present n : ℕ) (s t : List ℕ) → view room s ≡ fresh_to config room (n - 1) → 1 ≤ n → n < present + 1
      → present ≡ min room config.counts.objects → t ≡ layout (valued config n (view room s))
      → view room t ≡ fresh_to config room (n + 1 - 1)
  unfolding valued
  fresh_on present n s t inv low l p e =
      after-value s t (value n) n (is_hardcoded n) refl e
      ∙ (go (n - 1) n (omega arith) (omega arith) inv
      ∙ ap (fresh_to config room) (omega arith))
    where
      go : (i m : ℕ) → m ≡ suc i → i < room → view room s ≡ fresh_to config room i
          → cond (is_hardcoded m) (with_content (view room s) m (value m)) (view room s) ≡ fresh_to config room (suc i)
      go i m q k h = rw (h, q) (fresh-state i (is_hardcoded (suc i)) (value (suc i)) k refl)

  -- nothing is stored in records of absent objects
  absent-cleared : (m i : ℕ) → config.counts.objects < m
      → fresh_content config m ≡ get_or (replicate room cleared) i cleared
  absent-cleared m i h = rw (lt-leb m config.counts.objects h) (sym (cleared_at room i))

  pub fresh_end : (present i : ℕ) (s₀ s : List ℕ) → s₀ ≡ replicate (area_length room) 0 → length s ≡ length s₀
      → view room s ≡ fresh_to config room i → present ≡ min room config.counts.objects → i ≤ present → present ≤ i
      → s ≡ layout (fresh room config)
  unfolding fresh_to fresh
  fresh_end present i s₀ s z l inv p h k =
      sym (layout-view room s (zero_length (area_length room) s₀ s z l))
      ∙ ap layout (inv ∙ ap (Columns.with_content (fresh room config))
      (go (min_end config.counts.objects room i (omega arith))))
    where
      f : ℕ → List ℕ → List ℕ
      f n c = fresh_content config n

      go : (config.counts.objects ≤ i) ⊎ (room ≤ i)
          → partly f i (replicate room cleared) ≡ number 0 f (replicate room cleared)
      go (inl q) = idle_rest f cleared 0 i (replicate room cleared) (λ m n r. absent-cleared m n (omega arith))
      go (inr q) =
          let e : i ≡ length (replicate room cleared) = omega (arith, length-replicate room cleared) in
          ap (λ (m : ℕ). partly f m (replicate room cleared)) e ∙ partly_all f (replicate room cleared)
