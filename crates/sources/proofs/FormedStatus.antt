-- Creation and destruction leave a well formed state.
use Prim.Native.Nat.{ℕ, zero, suc, ◌≤◌}
use mathlib.Core.Path.{◌≡◌, refl, sym, ap, ◌∙◌, subst}
use mathlib.Core.Logic.{◌⊎◌, inl, inr}
use mathlib.Core.List.{List, [], ◌∷◌}
use mathlib.Core.Bool.{Bool, true, false, not, ◌&&◌, ◌||◌, cond}
use native.Mathlib.Omega.{arith}
use lib.ListN.{get_or, set}
use lib.Dec.{leb, eqb}
use Rattle.model.specs.Base.{nth, all}
use Rattle.model.specs.Config.{class_of, owner_of, from1to}
use Rattle.model.specs.State.{
  most_partition,
  State,
  plain_status,
  green_status,
  status_of,
  stands,
  driver_in,
  device_in,
  object_in,
  lock_of,
  unlocked,
  cleared,
  existing,
  assigned,
  with_owner,
  right_place,
  right_content,
  right_assignment,
}
use Rattle.model.specs.declared.Family.{Family}
use Rattle.model.specs.declared.Family.TheVariants.{Create, Destroy}
use Rattle.model.specs.declared.Actor.{Actor}
use Rattle.model.specs.Operation.{green_code}
use Rattle.model.specs.Effect.{created_status, apply}
use Rattle.model.specs.Questions.{q11, q15, names_partition}
use Rattle.model.specs.declared.Config.{Config}
use Rattle.model.specs.declared.Operation.{Operation}
use Rattle.model.proofs.Lists.{
  or_left,
  or_right,
  and_l,
  and_r,
  or_true,
  both_true,
  not_eqb,
  from1to-low,
  all-nth,
  All,
  get_or_set_cases,
}
use Rattle.model.proofs.Accepted.{Sound}
use Rattle.model.proofs.Columns.{or_else_lem}
use Rattle.model.proofs.Facts.{Passed}
use Rattle.sources.proofs.Stores.{Kept}
use Rattle.model.proofs.Formed.{Formed}

-- a partition byte that stays assigned
assigned_mono : (b b' : State) (many n q : ℕ) → right_assignment b many n q ≡ true
    → (assigned b q ≡ true → assigned b' q ≡ true) → right_assignment b' many n q ≡ true
assigned_mono b b' many n q h g = go (leb n many) h
  where
    go : (t : Bool) → cond t (assigned b q) (eqb q 0) ≡ true → cond t (assigned b' q) (eqb q 0) ≡ true
    go true k = g k
    go false k = k

place_mono : (config : Config) (b b' : State) (n : ℕ) → object_in b n ≡ object_in b' n
    → with_owner config b n ≡ with_owner config b' n → right_place config b n ≡ true
    → (assigned b (object_in b n) ≡ true → assigned b' (object_in b n) ≡ true) → right_place config b' n ≡ true
place_mono config b b' n eo ew h g = go (leb n config.counts.objects) h
  where
    go : (t : Bool) → cond t (assigned b (object_in b n) && with_owner config b n) (eqb (object_in b n) 0) ≡ true
        → cond t (assigned b' (object_in b' n) && with_owner config b' n) (eqb (object_in b' n) 0) ≡ true
    go true k =
        both_true (subst (λ (q : ℕ). assigned b' q ≡ true) eo
        (g (and_l (assigned b (object_in b n)) (with_owner config b n) k)))
        (sym ew ∙ and_r (assigned b (object_in b n)) (with_owner config b n) k)
    go false k = subst (λ (q : ℕ). eqb q 0 ≡ true) eo k

all_set_true : (p : ℕ → Bool) (l : List ℕ) (i a : ℕ) → p a ≡ true → all p l ≡ true → all p (set l i a) ≡ true
all_set_true p [] i a h k = k
all_set_true p (x ∷ l) zero a h k = both_true h (and_r (p x) (all p l) k)
all_set_true p (x ∷ l) (suc i) a h k =
    both_true (and_l (p x) (all p l) k) (all_set_true p l i a h (and_r (p x) (all p l) k))

-- no element of a list that avoids q, nor the default 0, is q
avoids : (l : List ℕ) (q : ℕ) → all (λ x. not (eqb x q)) l ≡ true → 1 ≤ q → (n : ℕ) → nth l n 0 ≡ q → ⊥
avoids l q h low n = all-nth (λ (x : ℕ). x ≡ q → ⊥) l n 0 (λ e. omega arith) (each l h)
  where
    each : (l : List ℕ) → all (λ x. not (eqb x q)) l ≡ true → All (λ (x : ℕ). x ≡ q → ⊥) l
    each [] h = tt
    each (x ∷ l) h = (not_eqb x q (and_l (not (eqb x q)) _ h), each l (and_r (not (eqb x q)) _ h))

named-partition : (config : Config) (op : Operation) (f : Family) (a : Actor) → names_partition f a ≡ true
    → q11 config op f a ≡ true → from1to op.partition most_partition ≡ true
unfolding q11
named-partition config op f a n h =
    or_else_lem (names_partition f a) (from1to op.partition most_partition) (search (and_l, and_r)) n

module _ {room : ℕ} (config : Config) (sound : Sound config) (op : Operation) (b : State) (kept : Kept room config b)
    (formed : Formed room config b) where
  -- a change of one status under which the bytes in use stay assigned
  status-changed : (b' : State) (v : ℕ) → b'.status ≡ set b.status op.partition v → b.driver ≡ b'.driver
      → b.device ≡ b'.device → b.object ≡ b'.object → b.content ≡ b'.content → b.lock ≡ b'.lock
      → 1 ≤ op.partition
      → leb v green_status ≡ true
      → ((d : ℕ) → assigned b (driver_in b d) ≡ true → assigned b' (driver_in b d) ≡ true)
      → ((c : ℕ) → assigned b (device_in b c) ≡ true → assigned b' (device_in b c) ≡ true)
      → ((n : ℕ) → assigned b (object_in b n) ≡ true → assigned b' (object_in b n) ≡ true) → Formed room config b'
  status-changed b' v es ed ec eo et el low hv gd gc go =
      record {
        status_0 = ap (λ (l : List ℕ). get_or l 0 0) es ∙ zero_stays (get_or_set_cases b.status op.partition 0 v 0);
        statuses = subst (λ (l : List ℕ). all (λ s. leb s green_status) l ≡ true) (sym es)
            (all_set_true (λ s. leb s green_status) b.status op.partition v hv formed.statuses);
        drivers =
            λ d l k. subst (λ (q : ℕ). right_assignment b' config.counts.drivers d q ≡ true)
            (ap (λ (l : List ℕ). nth l d 0) ed)
            (assigned_mono b b' config.counts.drivers d (driver_in b d) (formed.drivers d l k) (gd d));
        devices =
            λ c l k. subst (λ (q : ℕ). right_assignment b' config.counts.devices c q ≡ true)
            (ap (λ (l : List ℕ). nth l c 0) ec)
            (assigned_mono b b' config.counts.devices c (device_in b c) (formed.devices c l k) (gc c));
        locks =
            λ c l k. subst (λ (m : List ℕ). eqb (nth m c 0) 0
            || (eqb (nth m c 0) 1 && leb c config.counts.devices && eqb (device_in b' c) 0) ≡ true) el
            (subst (λ (m : List ℕ). unlocked b c
            || (eqb (lock_of b c) 1 && leb c config.counts.devices && eqb (nth m c 0) 0) ≡ true) ec
            (formed.locks c l k));
        places = λ n l k. place_mono config b b' n (ap (λ (l : List ℕ). nth l n 0) eo) (owners n) (formed.places n l k)
            (go n);
        contents = λ n l k. subst (λ (s : List (List ℕ)). right_content config n (nth s n cleared) ≡ true) et
            (formed.contents n l k);
      }
    where
      zero_stays : ((0 ≡ op.partition) × (get_or (set b.status op.partition v) 0 0 ≡ v))
          ⊎ (get_or (set b.status op.partition v) 0 0 ≡ status_of b 0)
          → get_or (set b.status op.partition v) 0 0 ≡ 0
      zero_stays (inl (e, q)) = absurd (omega arith)
      zero_stays (inr q) = q ∙ formed.status_0

      owners : (n : ℕ) → with_owner config b n ≡ with_owner config b' n
      owners n =
          λ i. (not (eqb (class_of config n) 1) || eqb (nth (eo i) n 0) (nth (ed i) (owner_of config n) 0))
          && (not (eqb (class_of config n) 2) || eqb (nth (eo i) n 0) (nth (ec i) (owner_of config n) 0))

  -- after status p becomes v: every other partition stands as before, and p if v says so
  still : (v q : ℕ) → (q ≡ op.partition → stands v ≡ true) → assigned b q ≡ true
      → eqb q 0 || stands (get_or (set b.status op.partition v) q 0) ≡ true
  still v q g h = go (or_true h) (get_or_set_cases b.status op.partition q v 0)
    where
      go : (eqb q 0 ≡ true) ⊎ (existing b q ≡ true)
          → ((q ≡ op.partition) × (get_or (set b.status op.partition v) q 0 ≡ v))
          ⊎ (get_or (set b.status op.partition v) q 0 ≡ status_of b q)
          → eqb q 0 || stands (get_or (set b.status op.partition v) q 0) ≡ true
      go (inl z) c = or_left (eqb q 0) _ z
      go (inr x) (inl (e, y)) = or_right (eqb q 0) _ (ap stands y ∙ g e)
      go (inr x) (inr y) = or_right (eqb q 0) _ (ap stands y ∙ x)

  -- what creation sets stands
  created_stands : (t : Bool) → stands (cond t green_status plain_status) ≡ true
  created_stands true = refl
  created_stands false = refl

  created_status_lem : (t : Bool) → leb (cond t green_status plain_status) green_status ≡ true
  created_status_lem true = refl
  created_status_lem false = refl

  pub create_formed : (a : Actor) → Passed config b op Create a → Formed room config (apply config op Create a b)
  unfolding apply
  create_formed a p =
      let low = from1to-low op.partition most_partition (named-partition config op Create a refl p.p11) in
      let v = created_status op in
      let ok = created_stands (eqb op.code green_code) in
      status-changed (apply config op Create a b) v refl refl refl refl refl refl low
      (created_status_lem (eqb op.code green_code))
      (λ d h. still v (driver_in b d) (λ e. ok) h) (λ c h. still v (device_in b c) (λ e. ok) h)
      (λ n h. still v (object_in b n) (λ e. ok) h)

  pub destroy_formed : (a : Actor) → Passed config b op Destroy a → Formed room config (apply config op Destroy a b)
  unfolding apply q15
  destroy_formed a p =
      let low = from1to-low op.partition most_partition (named-partition config op Destroy a refl p.p11) in
      let k = p.p15 in
      status-changed (apply config op Destroy a b) 2 refl refl refl refl refl refl low refl
      (λ d h. still 2 (driver_in b d) (λ e. absurd
      (avoids b.driver op.partition (search (and_l, and_r)) low d e)) h)
      (λ c h. still 2 (device_in b c) (λ e. absurd
      (avoids b.device op.partition (search (and_l, and_r)) low c e)) h)
      (λ n h. still 2 (object_in b n) (λ e. absurd
      (avoids b.object op.partition (search (and_l, and_r)) low n e)) h)
