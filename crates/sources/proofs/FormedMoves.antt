-- Activation and deactivation leave a well formed state, and so does every accepted operation.
use Prim.Native.Nat.{ℕ, ◌≤◌, ◌<◌}
use mathlib.Core.Path.{◌≡◌, refl, sym, ◌∙◌, subst}
use mathlib.Core.Logic.{◌⊎◌, inl, inr}
use mathlib.Core.List.{List}
use mathlib.Core.Bool.{Bool, true, false, not, ◌&&◌, ◌||◌, cond}
use native.Mathlib.Omega.{arith}
use native.Mathlib.Decide.{dec_le}
use lib.Dec.{leb, eqb}
use borrow.Author.Tests.{eqb-true, eq-eqb, le-leb, lt-leb}
use Rattle.model.specs.Base.{nth, put, number}
use Rattle.model.specs.Config.{most_devices, class_of, owner_of, owns, from1to}
use Rattle.model.specs.State.{
  State,
  driver_in,
  device_in,
  object_in,
  lock_of,
  unlocked,
  with_content,
  with_lock,
  cleared,
  assigned,
  with_owner,
  right_place,
  right_content,
  right_assignment,
  right_lock,
}
use Rattle.model.specs.Operation.{object_at}
use Rattle.model.specs.declared.Family.{Family}
use Rattle.model.specs.declared.Family.TheVariants.{Write, Copy, Create, Destroy, Activate, Deactivate, Lock, Unlock}
use Rattle.model.specs.declared.Actor.{Actor}
use Rattle.model.specs.declared.Actor.TheVariants.{Driver, Device, External}
use Rattle.model.specs.Effect.{concerned, drivers_after, devices_after, moved_to, cleared_by, apply}
use Rattle.model.specs.Questions.{q14, q16, q23, actor_exists, is_object, unlocked_actor}
use Rattle.model.specs.declared.Config.{Config}
use Rattle.model.specs.declared.Operation.{Operation}
use Rattle.model.proofs.Lists.{
  or_left,
  or_right,
  or_true,
  and_l,
  and_r,
  both_true,
  not-true,
  bool_cases,
  from1to-high,
  from1to_intro,
  nth-put_cases,
}
use Rattle.model.proofs.Accepted.{Sound}
use Rattle.model.proofs.Facts.{cond_true, owns-high, with_driver_lem, Passed, upto18}
use Rattle.sources.proofs.Stores.{Kept}
use Rattle.model.proofs.Moves.{listed_at, actor_exists_lem}
use Rattle.sources.proofs.Moves.{moved, unmoved, together_after, drivers-after}
use Rattle.sources.proofs.Deactivation.{deactivated_class}
use Rattle.sources.proofs.Activation.{activated_fits}
use Rattle.model.proofs.Formed.{Formed, formed_to_lem, items_exist}
use Rattle.model.proofs.FormedStores.{write_formed, copy_formed}
use Rattle.sources.proofs.FormedStatus.{create_formed, destroy_formed}
use Rattle.model.proofs.FormedMoves.{activated_contents}

module _ (config : Config) (op : Operation) where
  -- what is concerned exists
  concerned_exists : (a : Actor) → ((i : ℕ) → i < op.count → is_object config (object_at op i) ≡ true) → (n : ℕ)
      → concerned config op a n ≡ true → n ≤ config.counts.objects
  concerned_exists Driver h n k = owns-high config 1 op.subject n k
  concerned_exists Device h n k = owns-high config 2 op.subject n k
  concerned_exists External h n k =
      let (i, l, e) = listed_at config op n k in
      subst (λ (x : ℕ). x ≤ config.counts.objects) e (from1to-high (object_at op i) config.counts.objects (h i l))

module _ {room : ℕ} (config : Config) (sound : Sound config) (op : Operation) (b : State) (kept : Kept room config b)
    (formed : Formed room config b) where
  assigned_step : (p many n q q' : ℕ) → assigned b p ≡ true → right_assignment b many n q ≡ true
      → (q' ≡ q) ⊎ ((n ≤ many) × (q' ≡ p)) → right_assignment b many n q' ≡ true
  assigned_step p many n q q' hp h (inl e) = subst (λ (x : ℕ). right_assignment b many n x ≡ true) (sym e) h
  assigned_step p many n q q' hp h (inr (l, e)) =
      subst (λ (x : ℕ). right_assignment b many n x ≡ true) (sym e)
      (subst (λ (t : Bool). cond t (assigned b p) (eqb p 0) ≡ true) (sym (le-leb n many l)) hp)

  put-assigned : (col : List ℕ) (s many p n : ℕ) → from1to s many ≡ true
      → (nth (put col s p) n 0 ≡ nth col n 0) ⊎ ((n ≤ many) × (nth (put col s p) n 0 ≡ p))
  put-assigned col s many p n ex = go (nth-put_cases col s n p 0)
    where
      go : ((n ≡ s) × (nth (put col s p) n 0 ≡ p)) ⊎ (nth (put col s p) n 0 ≡ nth col n 0)
          → (nth (put col s p) n 0 ≡ nth col n 0) ⊎ ((n ≤ many) × (nth (put col s p) n 0 ≡ p))
      go (inl (e, v)) = inr (subst (λ (x : ℕ). x ≤ many) (sym e) (from1to-high s many ex), v)
      go (inr v) = inl v

  driver-assigned : (a : Actor) (p d : ℕ) → actor_exists config a op.subject ≡ true
      → (nth (drivers_after op a p b.driver) d 0 ≡ driver_in b d)
      ⊎ ((d ≤ config.counts.drivers) × (nth (drivers_after op a p b.driver) d 0 ≡ p))
  driver-assigned Driver p d ex = put-assigned b.driver op.subject config.counts.drivers p d ex
  driver-assigned Device p d ex = inl refl
  driver-assigned External p d ex = inl refl

  device-assigned : (a : Actor) (p c : ℕ) → actor_exists config a op.subject ≡ true
      → (nth (devices_after op a p b.device) c 0 ≡ device_in b c)
      ⊎ ((c ≤ config.counts.devices) × (nth (devices_after op a p b.device) c 0 ≡ p))
  device-assigned Driver p c ex = inl refl
  device-assigned Device p c ex = put-assigned b.device op.subject config.counts.devices p c ex
  device-assigned External p c ex = inl refl

  owned : (class n : ℕ) → 1 ≤ n → n ≤ config.counts.objects → class_of config n ≡ class
      → owns config class (owner_of config n) n ≡ true
  owned class n low high e =
      both_true (both_true (from1to_intro n config.counts.objects low high) (eq-eqb (class_of config n) class e))
      (eq-eqb (owner_of config n) (owner_of config n) refl)

  owner-right : (b' : State) (n : ℕ) → (class_of config n ≡ 1 → object_in b' n ≡ driver_in b' (owner_of config n))
      → (class_of config n ≡ 2 → object_in b' n ≡ device_in b' (owner_of config n))
      → with_owner config b' n ≡ true
  owner-right b' n h₁ h₂ =
      both_true (go (eqb (class_of config n) 1)
      (λ e. eq-eqb (object_in b' n) (driver_in b' (owner_of config n)) (h₁ (eqb-true (class_of config n) 1 e))))
      (go (eqb (class_of config n) 2) (λ e. eq-eqb (object_in b' n) (device_in b' (owner_of config n))
      (h₂ (eqb-true (class_of config n) 2 e))))
    where
      go : (t : Bool) {u : Bool} → (t ≡ true → u ≡ true) → not t || u ≡ true
      go true h = h refl
      go false h = refl

  -- a lock stays right where the device that moves is unlocked, or goes to none
  lock_moves : (a : Actor) (p : ℕ) → (unlocked_actor b op a ≡ true) ⊎ (p ≡ 0) → (c : ℕ) → right_lock config b c ≡ true
      → right_lock config (moved_to config op a p b) c ≡ true
  lock_moves Driver p free c r = r
  lock_moves External p free c r = r
  lock_moves Device p free c r = go free (nth-put_cases b.device op.subject c p 0)
    where
      test : ℕ → Bool
      test q = unlocked b c || (eqb (lock_of b c) 1 && leb c config.counts.devices && eqb q 0)

      none : (unlocked b c ≡ true)
          ⊎ (eqb (lock_of b c) 1 && leb c config.counts.devices && eqb (device_in b c) 0 ≡ true) → test 0 ≡ true
      none (inl u) = or_left (unlocked b c) _ u
      none (inr q) =
          or_right (unlocked b c) _
          (both_true (and_l (eqb (lock_of b c) 1 && leb c config.counts.devices) (eqb (device_in b c) 0) q) refl)

      go : (unlocked b op.subject ≡ true) ⊎ (p ≡ 0)
          → ((c ≡ op.subject) × (nth (put b.device op.subject p) c 0 ≡ p))
          ⊎ (nth (put b.device op.subject p) c 0 ≡ device_in b c)
          → test (nth (put b.device op.subject p) c 0) ≡ true
      go (inl u) (inl (e, v)) = or_left (unlocked b c) _ (subst (λ (x : ℕ). unlocked b x ≡ true) (sym e) u)
      go (inr z) (inl (e, v)) = subst (λ (q : ℕ). test q ≡ true) (sym (v ∙ z)) (none (or_true r))
      go h (inr v) = subst (λ (q : ℕ). test q ≡ true) (sym v) r

  module _ (a : Actor) (p : ℕ) (cs : List (List ℕ)) (ok : assigned b p ≡ true)
      (ex : actor_exists config a op.subject ≡ true)
      (names : (i : ℕ) → i < op.count → is_object config (object_at op i) ≡ true)
      (lst : (n : ℕ) → concerned config op External n ≡ true → class_of config n ≡ 0)
      (right : (n : ℕ) → 1 ≤ n → n ≤ room → right_content config n (nth cs n cleared) ≡ true)
      (free : (unlocked_actor b op a ≡ true) ⊎ (p ≡ 0)) where
    abbrev moving : State
    moving = with_content (moved_to config op a p b) cs

    present : (n : ℕ) → 1 ≤ n → n ≤ room → n ≤ config.counts.objects
        → assigned b (object_in moving n) && with_owner config moving n ≡ true
    present n low high l =
        both_true (go (bool_cases (concerned config op a n)))
        (owner-right moving n
        (λ e. let o = owned 1 n low l e in
        drivers-after config sound op b kept p a ex lst (owner_of config n) n o
        (with_driver_lem room config kept.roomy b
        (formed_to_lem room config b formed) (owner_of config n) n o))
        (λ e. together_after config sound op b kept p a ex lst (owner_of config n) n (owned 2 n low l e)))
      where
        go : (concerned config op a n ≡ true) ⊎ (concerned config op a n ≡ false)
            → assigned b (object_in moving n) ≡ true
        go (inl k) =
            subst (λ (q : ℕ). assigned b q ≡ true)
            (sym (moved config sound op b kept p a n low (omega (arith, kept.shape.objects)) k)) ok
        go (inr k) =
            subst (λ (q : ℕ). assigned b q ≡ true) (sym (unmoved config sound op b kept p a n k))
            (and_l (assigned b (object_in b n)) (with_owner config b n)
            (cond_true (leb n config.counts.objects) _ _ (formed.places n low high)
            (le-leb n config.counts.objects l)))

    absent : (n : ℕ) → 1 ≤ n → n ≤ room → config.counts.objects < n → object_in moving n ≡ 0
    absent n low high l =
        unmoved config sound op b kept p a n
        (not-true (concerned config op a n) (λ k. let j = concerned_exists config op a names n k in omega arith))
        ∙ eqb-true (object_in b n) 0 (subst (λ (t : Bool). cond t (assigned b (object_in b n) && with_owner config b n)
        (eqb (object_in b n) 0) ≡ true) (lt-leb n config.counts.objects l) (formed.places n low high))

    move_formed : Formed room config moving
    move_formed =
        record {
          status_0 = formed.status_0;
          statuses = formed.statuses;
          drivers = λ d l k. assigned_step p config.counts.drivers d (driver_in b d) (driver_in moving d) ok
              (formed.drivers d l k) (driver-assigned a p d ex);
          devices = λ c l k. assigned_step p config.counts.devices c (device_in b c) (device_in moving c) ok
              (formed.devices c l k) (device-assigned a p c ex);
          locks = λ c l k. lock_moves a p free c (formed.locks c l k);
          places = λ n l k. place n l k (dec_le n config.counts.objects);
          contents = right;
        }
      where
        place : (n : ℕ) → 1 ≤ n → n ≤ room → Dec (n ≤ config.counts.objects)
            → right_place config moving n ≡ true
        place n low high (yes l) =
            subst (λ (t : Bool). cond t (assigned b (object_in moving n) && with_owner config moving n)
            (eqb (object_in moving n) 0) ≡ true) (sym (le-leb n config.counts.objects l))
            (present n low high l)
        place n low high (no g) =
            subst (λ (t : Bool). cond t (assigned b (object_in moving n) && with_owner config moving n)
            (eqb (object_in moving n) 0) ≡ true) (sym (lt-leb n config.counts.objects (omega arith)))
            (eq-eqb (object_in moving n) 0 (absent n low high (omega arith)))

  deactivate_formed : (a : Actor) → Passed config b op Deactivate a
      → Formed room config (apply config op Deactivate a b)
  unfolding apply
  deactivate_formed a p =
      move_formed a 0 b.content refl (actor_exists_lem config op Deactivate a p.p11)
      (items_exist config op Deactivate a p.p11)
      (deactivated_class config sound op b kept a p) formed.contents (inr refl)

  activate_formed : (a : Actor) → Passed config b op Activate a → Formed room config (apply config op Activate a b)
  unfolding apply q14 q23
  activate_formed a p =
      move_formed a op.partition (number 0 (cleared_by config op a) b.content)
      (or_right (eqb op.partition 0) _ p.p14)
      (actor_exists_lem config op Activate a p.p11) (items_exist config op Activate a p.p11)
      (λ n k. (activated_fits config sound op b kept (formed_to_lem room config b formed) a
      (upto18 p) n k).1)
      (activated_contents room config op b kept.shape.contents formed.contents a p.p11)
      (inl p.p23)

  -- a lock is set on a device that is there and inactive, or taken off
  changed-formed : (ls : List ℕ)
      → ((c : ℕ) → 1 ≤ c → c ≤ most_devices → right_lock config (with_lock b ls) c ≡ true)
      → Formed room config (with_lock b ls)
  changed-formed ls right =
      record {
        status_0 = formed.status_0;
        statuses = formed.statuses;
        drivers = formed.drivers;
        devices = formed.devices;
        locks = right;
        places = formed.places;
        contents = formed.contents;
      }

  -- the rule of device c, with lock v
  lock_rule : ℕ → ℕ → Bool
  lock_rule c v = eqb v 0 || (eqb v 1 && leb c config.counts.devices && eqb (device_in b c) 0)

  -- the device of the operation gets a lock that keeps the rule
  put-formed : (v : ℕ) → lock_rule op.subject v ≡ true
      → Formed room config (with_lock b (put b.lock op.subject v))
  unfolding lock_rule
  put-formed v r =
      changed-formed (put b.lock op.subject v) λ c l k. go c l k (nth-put_cases b.lock op.subject c v 0)
    where
      go : (c : ℕ) → 1 ≤ c → c ≤ most_devices
          → ((c ≡ op.subject) × (nth (put b.lock op.subject v) c 0 ≡ v))
          ⊎ (nth (put b.lock op.subject v) c 0 ≡ lock_of b c)
          → lock_rule c (nth (put b.lock op.subject v) c 0) ≡ true
      go c l k (inl (e, q)) =
          subst (λ (x : ℕ). lock_rule c x ≡ true) (sym q) (subst (λ (d : ℕ). lock_rule d v ≡ true) (sym e) r)
      go c l k (inr q) = subst (λ (x : ℕ). lock_rule c x ≡ true) (sym q) (formed.locks c l k)

  lock-formed : (a : Actor) → Passed config b op Lock a → Formed room config (apply config op Lock a b)
  unfolding apply q16 lock_rule
  lock-formed Driver p = formed
  lock-formed External p = formed
  lock-formed Device p =
      put-formed 1 (both_true (and_r (leb 1 op.subject) _ (actor_exists_lem config op Lock Device p.p11)) p.p16)

  unlock_formed : (a : Actor) → Formed room config (apply config op Unlock a b)
  unfolding apply lock_rule
  unlock_formed Driver = formed
  unlock_formed External = formed
  unlock_formed Device = put-formed 0 refl

  pub step_formed : (f : Family) (a : Actor) → Passed config b op f a → Formed room config (apply config op f a b)
  step_formed Write a p =
      write_formed room config kept.roomy op b formed a p.p11 p.p13
  step_formed Copy a p =
      copy_formed room config kept.roomy op b formed a p.p11 p.p13
  step_formed Create a p = create_formed config sound op b kept formed a p
  step_formed Destroy a p = destroy_formed config sound op b kept formed a p
  step_formed Activate a p = activate_formed a p
  step_formed Deactivate a p = deactivate_formed a p
  step_formed Lock a p = lock-formed a p
  step_formed Unlock a p = unlock_formed a
