-- What an accepted operation sets, family by family, and that all else stays.
use Prim.Native.Nat.{ℕ, zero, suc, ◌≤◌, ◌<◌}
use mathlib.Core.Path.{◌≡◌, refl, sym, ap, ◌∙◌, subst}
use mathlib.Core.Logic.{◌⊎◌, inl, inr}
use mathlib.Core.List.{List}
use mathlib.Core.Bool.{Bool, true, false, not, cond, ◌&&◌, ◌||◌}
use native.Mathlib.Decide.{dec_le, ℕ_discrete}
use native.Mathlib.Omega.{arith}
use lib.ListN.{length, set}
use lib.Seq.{get_or-set_same, get_or-set_other}
use lib.Dec.{eqb}
use borrow.Author.Tests.{eqb-true, eq-eqb, ne_eqb}
use Rattle.model.specs.Base.{nth, put, number, below}
use Rattle.model.specs.Config.{kind_of, class_of, owner_of, owns, from1to}
use Rattle.model.specs.State.{most_partition, State, with_content, content_of, cleared}
use Rattle.model.specs.Operation.{object_at, second_at}
use Rattle.model.specs.Effect.{item_bytes, stores, source_bytes, concerned, placed, moved_to, cleared_by, apply}
use Rattle.model.specs.Questions.{q12, changed, is_object, actor_exists}
use Rattle.sources.specs.CodeEffects.{
  StoresItems,
  CopiesSources,
  SetsStatus,
  SetsLock,
  Concerned,
  DriversAfter,
  DevicesAfter,
  Moves,
  Activates,
  Deactivates,
}
use Rattle.model.specs.declared.Family.{Family}
use Rattle.model.specs.declared.Family.TheVariants.{Write, Copy, Activate, Deactivate}
use Rattle.model.specs.declared.Actor.{Actor}
use Rattle.model.specs.declared.Actor.TheVariants.{Driver, Device, External}
use Rattle.model.specs.declared.Config.{Config}
use Rattle.model.specs.declared.Operation.{Operation}
use Rattle.model.proofs.Lists.{
  and_l,
  and_r,
  both_true,
  or_true,
  not_eqb,
  not-true,
  from1to-low,
  from1to-high,
  below_at,
  nth-put_cases,
  nth-put-same,
  nth_past,
  length_number,
  nth_number,
}
use Rattle.model.proofs.StateLaws.{Shape}
use Rattle.sources.proofs.StateLaws.{stores_length}
use Rattle.model.proofs.Accepted.{Sound}
use Rattle.model.proofs.Facts.{owns-class, owns-owner, Passed}
use Rattle.model.proofs.Formed.{items_exist}
use Rattle.model.proofs.Stores.{stores_hold, not_zero}
use Rattle.model.proofs.Moves.{listed_at}

module _ {A : Type 0} where
  pub put_other : (l : List A) (n m : ℕ) (a d : A) → (m ≡ n → ⊥) → nth (put l n a) m d ≡ nth l m d
  put_other l n m a d h = go (nth-put_cases l n m a d)
    where
      go : ((m ≡ n) × (nth (put l n a) m d ≡ a)) ⊎ (nth (put l n a) m d ≡ nth l m d)
          → nth (put l n a) m d ≡ nth l m d
      go (inl (e, v)) = absurd (h e)
      go (inr v) = v

  -- an element that its number leaves
  number_same : (f : ℕ → A → A) (l : List A) (n : ℕ) (d : A) → ((a : A) → f n a ≡ a)
      → nth (number 0 f l) n d ≡ nth l n d
  number_same f l zero d h = refl
  number_same f l (suc n) d h = go (dec_le (suc n) (length l))
    where
      go : Dec (suc n ≤ length l) → nth (number 0 f l) (suc n) d ≡ nth l (suc n) d
      go (yes k) = nth_number f l (suc n) d (omega arith) k ∙ h (nth l (suc n) d)
      go (no k) =
          nth_past (number 0 f l) (suc n) d (omega (arith, length_number 0 f l))
          ∙ sym (nth_past l (suc n) d (omega arith))

-- stores at places that differ from one another
stores_at : (place : ℕ → ℕ) (bytes : ℕ → List ℕ) (k : ℕ) (cs : List (List ℕ)) (i : ℕ) (d : List ℕ) → i < k
    → 1 ≤ place i → place i ≤ length cs → ((j : ℕ) → i < j → j < k → place i ≡ place j → ⊥)
    → nth (stores place bytes k cs) (place i) d ≡ bytes i
stores_at place bytes zero cs i d l low high h = absurd (omega arith)
stores_at place bytes (suc k) cs i d l low high h =
    go (ℕ_discrete i k) (λ (m : i < k). stores_at place bytes k cs i d m low high (λ j a b. h j a (omega arith)))
  where
    go : Dec (i ≡ k) → (i < k → nth (stores place bytes k cs) (place i) d ≡ bytes i)
        → nth (stores place bytes (suc k) cs) (place i) d ≡ bytes i
    go (yes e) r =
        subst (λ (j : ℕ). nth (stores place bytes (suc k) cs) (place j) d ≡ bytes j) (sym e)
        (nth-put-same (stores place bytes k cs) (place k) (bytes k) d (subst (λ (j : ℕ). 1 ≤ place j) e low)
        (subst (λ (m : ℕ). place k ≤ m) (sym (stores_length place bytes k cs))
        (subst (λ (j : ℕ). place j ≤ length cs) e high)))
    go (no n) r =
        put_other (stores place bytes k cs) (place k) (place i) (bytes k) d (h k (omega arith) (omega arith))
        ∙ r (omega arith)

-- question 12: no target or destination is named twice
twice : (op : Operation) (f : Family) → q12 op f ≡ true → (i j : ℕ) → i < j → j < op.count
    → (changed op f i ≡ 0 → ⊥) → changed op f i ≡ changed op f j → ⊥
unfolding q12
twice op f h i j l m z e =
    let q =
    below_at j (λ x. eqb (changed op f j) 0 || not (eqb (changed op f x) (changed op f j)))
    (below_at op.count (λ y. below y (λ x. eqb (changed op f y) 0 || not (eqb (changed op f x) (changed op f y)))) h
    j m) i l in
    go (or_true q)
  where
    go : (eqb (changed op f j) 0 ≡ true) ⊎ (not (eqb (changed op f i) (changed op f j)) ≡ true) → ⊥
    go (inl k) = z (e ∙ eqb_zero k)
      where
        eqb_zero : eqb (changed op f j) 0 ≡ true → changed op f j ≡ 0
        eqb_zero k = eqb-true (changed op f j) 0 k
    go (inr k) = not_eqb (changed op f i) (changed op f j) k e

-- the objects concerned
module _ (config : Config) (op : Operation) where
  concerned-yes : (a : Actor) (n : ℕ) → Concerned config op a n → concerned config op a n ≡ true
  concerned-yes Driver n (x, c, o) =
      both_true (both_true x (eq-eqb (class_of config n) 1 c)) (eq-eqb (owner_of config n) op.subject o)
  concerned-yes Device n (x, c, o) =
      both_true (both_true x (eq-eqb (class_of config n) 2 c)) (eq-eqb (owner_of config n) op.subject o)
  concerned-yes External n (i, l, e) =
      ap not (not-true (below op.count (λ j. not (eqb (object_at op j) n)))
      (λ h. not_eqb (object_at op i) n (below_at op.count (λ j. not (eqb (object_at op j) n)) h i l) e))

  owned : (class n : ℕ) → owns config class op.subject n ≡ true
      → (from1to n config.counts.objects ≡ true) × (class_of config n ≡ class) × (owner_of config n ≡ op.subject)
  owned class n h = (
    search (and_l, and_r),
    owns-class config class op.subject n h,
    owns-owner config class op.subject n h,
  )

  concerned_of : (a : Actor) (n : ℕ) → concerned config op a n ≡ true → Concerned config op a n
  concerned_of Driver n h = owned 1 n h
  concerned_of Device n h = owned 2 n h
  concerned_of External n h = listed_at config op n h

  concerned_no : (a : Actor) (n : ℕ) → (Concerned config op a n → ⊥) → concerned config op a n ≡ false
  concerned_no a n h = not-true (concerned config op a n) (λ k. h (concerned_of a n k))

  -- they exist
  concerned_range : (a : Actor) (n : ℕ) → ((i : ℕ) → i < op.count → is_object config (object_at op i) ≡ true)
      → Concerned config op a n → from1to n config.counts.objects ≡ true
  concerned_range Driver n g (x, c, o) = x
  concerned_range Device n g (x, c, o) = x
  concerned_range External n g (i, l, e) = subst (λ (m : ℕ). is_object config m ≡ true) e (g i l)

module _ {room : ℕ} (config : Config) (sound : Sound config) (fits : config.counts.objects ≤ room) (op : Operation)
    (b : State) (sh : Shape room b) where
  -- an object has its place in the column of contents, and in that of partitions
  in_contents : (n : ℕ) → from1to n config.counts.objects ≡ true → (1 ≤ n) × (n ≤ length b.content)
  in_contents n x = (
    from1to-low n config.counts.objects x,
    omega (arith, from1to-high n config.counts.objects x, fits, sh.contents),
  )

  in_objects : (n : ℕ) → from1to n config.counts.objects ≡ true → (1 ≤ n) × (n ≤ length b.object)
  in_objects n x = (
    from1to-low n config.counts.objects x,
    omega (arith, from1to-high n config.counts.objects x, fits, sh.objects),
  )

  pub write-row : (a : Actor) → Passed config b op Write a → StoresItems op b (apply config op Write a b)
  unfolding apply
  write-row a p =
      record {
        only = refl;
        stored = λ i l.
            let x = there i l in
            stores_at (object_at op) (item_bytes op) op.count b.content i cleared l x.0 x.1
            (λ j m k e. twice op Write p.p12 i j m k (λ z. zero_low (object_at op i) x.0 z) e);
        others = λ n h.
            stores_hold (λ (c : List ℕ). c ≡ content_of b n) (object_at op) (item_bytes op) op.count b.content n
            cleared refl (λ i l e. absurd (h i l e));
      }
    where
      there : (i : ℕ) → i < op.count → (1 ≤ object_at op i) × (object_at op i ≤ length b.content)
      there i l =
          in_contents (object_at op i)
          (and_l (is_object config (object_at op i)) _ (items_exist config op Write a p.p11 i l))

      zero_low : (n : ℕ) → 1 ≤ n → n ≡ 0 → ⊥
      zero_low n l e = omega arith

  pub copy-row : (a : Actor) → Passed config b op Copy a → CopiesSources op b (apply config op Copy a b)
  unfolding apply
  copy-row a p =
      record {
        only = refl;
        copied = λ i l z.
            let x = there i l z in
            stores_at (second_at op) (source_bytes op b) op.count b.content i cleared l x.0 x.1
            (λ j m k e. twice op Copy p.p12 i j m k z e);
        others = λ n h.
            stores_hold (λ (c : List ℕ). c ≡ content_of b n) (second_at op) (source_bytes op b) op.count b.content n
            cleared refl (λ i l e. absurd (h i l e));
      }
    where
      there : (i : ℕ) → i < op.count → (second_at op i ≡ 0 → ⊥)
          → (1 ≤ second_at op i) × (second_at op i ≤ length b.content)
      there i l z =
          in_contents (second_at op i)
          (not_zero (second_at op i) (second_at op i) (is_object config (second_at op i)) refl (omega arith)
          (and_r (is_object config (object_at op i)) _ (items_exist config op Copy a p.p11 i l)))

  -- a status is set
  pub status-row : (s : ℕ) → from1to op.partition most_partition ≡ true
      → SetsStatus op s b (record {
        status = set b.status op.partition s;
        driver = b.driver;
        device = b.device;
        object = b.object;
        content = b.content;
        lock = b.lock;
      })
  status-row s x =
      record {
        only = refl;
        this =
            get_or-set_same b.status op.partition s 0
            (omega (arith, from1to-high op.partition most_partition x, sh.statuses));
        others = λ q h. get_or-set_other b.status op.partition q s 0 h;
      }

  -- a lock is set
  pub lock-row : (v : ℕ) → from1to op.subject config.counts.devices ≡ true
      → SetsLock op v b (record {
        status = b.status;
        driver = b.driver;
        device = b.device;
        object = b.object;
        content = b.content;
        lock = put b.lock op.subject v;
      })
  lock-row v x =
      record {
        only = refl;
        this =
            nth-put-same b.lock op.subject v 0 (from1to-low op.subject config.counts.devices x)
            (omega (arith, from1to-high op.subject config.counts.devices x, sound.few.devices, sh.locks));
        others = λ c h. put_other b.lock op.subject c v 0 h;
      }

  -- what is concerned goes to p
  module _ (a : Actor) (ex : actor_exists config a op.subject ≡ true)
      (listed : (i : ℕ) → i < op.count → is_object config (object_at op i) ≡ true) where
    moves-row : (p : ℕ) (cs : List (List ℕ)) → Moves config op a p b (with_content (moved_to config op a p b) cs)
    moves-row p cs =
        record {
          status = refl;
          locks = refl;
          drivers = drivers a ex;
          devices = devices a ex;
          concerned = λ n c.
              let x = in_objects n (concerned_range config op a n listed c) in
              nth_number (placed config op a p) b.object n 0 x.0 x.1
              ∙ ap (λ (t : Bool). cond t p (nth b.object n 0)) (concerned-yes config op a n c);
          others = λ n c.
              number_same (placed config op a p) b.object n 0
              (λ q. ap (λ (t : Bool). cond t p q) (concerned_no config op a n c));
        }
      where
        drivers : (a : Actor) → actor_exists config a op.subject ≡ true
            → DriversAfter op a p b (with_content (moved_to config op a p b) cs)
        drivers Driver ex = (
          nth-put-same b.driver op.subject p 0 (from1to-low op.subject config.counts.drivers ex)
              (omega (
                arith,
                from1to-high op.subject config.counts.drivers ex,
                sound.few.drivers,
                sh.drivers,
              )),
          λ d h. put_other b.driver op.subject d p 0 h,
        )
        drivers Device ex = refl
        drivers External ex = refl

        devices : (a : Actor) → actor_exists config a op.subject ≡ true
            → DevicesAfter op a p b (with_content (moved_to config op a p b) cs)
        devices Driver ex = refl
        devices Device ex = (
          nth-put-same b.device op.subject p 0 (from1to-low op.subject config.counts.devices ex)
              (omega (
                arith,
                from1to-high op.subject config.counts.devices ex,
                sound.few.devices,
                sh.devices,
              )),
          λ d h. put_other b.device op.subject d p 0 h,
        )
        devices External ex = refl

    pub in_row : Activates config op a b (apply config op Activate a b)
    unfolding apply
    in_row =
        record {
          moves = moves-row op.partition (number 0 (cleared_by config op a) b.content);
          clears = λ n c k.
              let x = in_contents n (concerned_range config op a n listed c) in
              nth_number (cleared_by config op a) b.content n cleared x.0 x.1
              ∙ ap (λ (t : Bool). cond t cleared (content_of b n))
              (both_true (concerned-yes config op a n c) (ap not (ne_eqb (kind_of config n) 4 k)));
          hardcoded = λ n k.
              number_same (cleared_by config op a) b.content n cleared
              (λ q. ap (λ (t : Bool). cond t cleared q)
              (and_no (concerned config op a n) (ap not (eq-eqb (kind_of config n) 4 k))));
          others = λ n c.
              number_same (cleared_by config op a) b.content n cleared
              (λ q. ap (λ (t : Bool). cond (t && not (eqb (kind_of config n) 4)) cleared q)
              (concerned_no config op a n c));
        }
      where
        and_no : (s : Bool) {t : Bool} → t ≡ false → s && t ≡ false
        and_no true h = h
        and_no false h = refl

    pub out_row : Deactivates config op a b (apply config op Deactivate a b)
    unfolding apply
    out_row = record { moves = moves-row 0 b.content; contents = refl }
