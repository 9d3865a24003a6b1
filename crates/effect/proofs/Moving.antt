-- Objects put into a partition and taken out of it.
use Prim.Native.Nat.{ℕ, zero, suc, ◌+◌, ◌-◌, ◌≤◌, ◌<◌, min}
use mathlib.Core.Path.{◌≡◌, refl, sym, ap, ◌∙◌}
use mathlib.Core.Logic.{◌⊎◌, inl, inr}
use mathlib.Core.List.{List, [], ◌∷◌}
use mathlib.Core.Bool.{Bool, true, false, not, ◌&&◌, cond}
use native.Mathlib.Numerals.{add-one}
use native.Mathlib.Decide.{ℕ_discrete}
use native.Mathlib.Omega.{arith}
use lib.ListN.{length, get_or, set}
use lib.Seq.{set-get_or}
use lib.Dec.{eqb, leb}
use borrow.Author.Tests.{eq-eqb, ne_eqb, lt-leb}
use Rattle.model.specs.Base.{put, number, below}
use Rattle.model.specs.Config.{owns}
use Rattle.model.specs.State as Columns
use Rattle.model.specs.State.{State, cleared, area_length, view, layout}
use Rattle.model.specs.declared.Family.TheVariants.{Activate, Deactivate}
use Rattle.model.specs.declared.Actor.{Actor}
use Rattle.model.specs.declared.Actor.TheVariants.{Driver, Device, External}
use Rattle.model.specs.Effect.{concerned, apply}
use Rattle.model.specs.declared.Config.{Config}
use Rattle.model.specs.declared.Operation.{Operation}
use Rattle.model.proofs.Lists.{partly, partly_get, partly_more}
use Rattle.model.proofs.StateLaws.{Shape, view-layout}
use Rattle.model.proofs.StateBytes.{layout-view}
use Rattle.state.specs.Change.{objects_lent, with_driver, with_device, with_object}
use Rattle.state.specs.Change.{with_content}
use Rattle.effect.specs.Moves.{owned_by, moved_at, clearable, listed, moved, with_subject}
use Rattle.state.proofs.Idle.{idle_rest, min_end}
use Rattle.state.proofs.Places.{view_shape}
use Rattle.state.proofs.Turns.{
  after-driver,
  after-device,
  after-object,
  after-content,
  changed_to,
  done,
  changed_to_none,
  changed_to_all,
}

-- the number, the class and the owner of an object
pub owned_by_lem : (objects : ℕ) (class owner : List ℕ) (a k n : ℕ) {x y : ℕ} → x ≡ get_or class n 0
    → y ≡ get_or owner n 0
    → (leb 1 n && leb n objects && eqb x a && eqb y k) ≡ owned_by objects class owner a k n
unfolding owned_by objects_lent
owned_by_lem objects class owner a k n p q = rw (p, q)

-- one turn
module _ (room : ℕ) (s : List ℕ) (n p : ℕ) where
  turn_none : length s ≡ area_length room → s ≡ layout (moved_at false false n p (view room s))
  unfolding moved_at
  turn_none l = sym (layout-view room s l)

  pub turn_move : (t : List ℕ) (clears : Bool) → clears ≡ false → t ≡ layout (with_object (view room s) n p)
      → t ≡ layout (moved_at true clears n p (view room s))
  unfolding moved_at
  turn_move t clears w e = rw w e

  pub turn_clear : (t u : List ℕ) (clears : Bool) → clears ≡ true → t ≡ layout (with_object (view room s) n p)
      → u ≡ layout (with_content (view room t) n cleared) → u ≡ layout (moved_at true clears n p (view room s))
  unfolding moved_at
  turn_clear t u clears w e f = rw w
      (f ∙ ap (λ (b : State). layout (with_content b n cleared)) (after-object room s t n p e))

  after_turn : (t : List ℕ) (hit clears : Bool) → t ≡ layout (moved_at hit clears n p (view room s))
      → view room t ≡ moved_at hit clears n p (view room s)
  unfolding moved_at
  after_turn t false clears e = ap (view room) e ∙ view-layout room (view room s) (view_shape room s)
  after_turn t true false e = after-object room s t n p e
  after_turn t true true e =
      let m : view room (layout (with_object (view room s) n p)) ≡ with_object (view room s) n p =
      after-object room s (layout (with_object (view room s) n p)) n p refl in
      after-content room (layout (with_object (view room s) n p)) t n cleared refl
      (e ∙ ap (λ (b : State). layout (with_content b n cleared)) (sym m))
      ∙ ap (λ (b : State). with_content b n cleared) m

-- a column of which one more element is done, where a test says whether it changes
cond_put : {A : Type 0} → Bool → List A → ℕ → A → List A
cond_put true l n v = put l n v
cond_put false l n v = l

column_on : {A : Type 0} (f : ℕ → A → A) (l : List A) (k : ℕ) (d v : A) (t : Bool) → k < length l
    → cond t v (get_or l k d) ≡ f (suc k) (get_or l k d) → cond_put t (partly f k l) (suc k) v ≡ partly f (suc k) l
unfolding cond_put
column_on f l k d v true h e = ap (λ x. set (partly f k l) k x) e ∙ partly_more f k l d h
column_on f l k d v false h e =
    sym (sym (partly_more f k l d h)
    ∙ (ap (λ x. set (partly f k l) k x) (sym e ∙ sym (partly_get f k l d h)) ∙ set-get_or (partly f k l) k d))

turn_state : (hit clears : Bool) (n p : ℕ) (b : State) → moved_at hit clears n p b
    ≡ Columns.with_content (Columns.with_object b (cond_put hit b.object n p))
    (cond_put (hit && clears) b.content n cleared)
unfolding moved_at cond_put with_object with_content
turn_state false clears n p b = refl
turn_state true false n p b = refl
turn_state true true n p b = refl

-- the objects that are hit among the first i
unfoldable pub moved_to : (ℕ → Bool) → Config → Bool → ℕ → ℕ → State → State
moved_to hit config clears p i b =
    changed_to (λ n q. cond (hit n) p q) (λ n c. cond (hit n && clearable config clears n) cleared c) i b

module _ (hit : ℕ → Bool) (clears : Bool) (config : Config) (p room : ℕ) (s₀ : List ℕ) where
  pub move_none : view room s₀ ≡ moved_to hit config clears p 0 (view room s₀)
  unfolding moved_to
  move_none =
      changed_to_none (λ n q. cond (hit n) p q) (λ n c. cond (hit n && clearable config clears n) cleared c)
      (view room s₀)

  move_state : (i : ℕ) (b : State) → Shape room b → i < room
      → moved_at (hit (suc i)) (clearable config clears (suc i)) (suc i) p (moved_to hit config clears p i b)
      ≡ moved_to hit config clears p (suc i) b
  unfolding moved_to changed_to
  move_state i b sh h =
      turn_state (hit (suc i)) (clearable config clears (suc i)) (suc i) p (moved_to hit config clears p i b)
      ∙ (λ j. Columns.with_content (Columns.with_object b
      (column_on (λ n q. cond (hit n) p q) b.object i 0 p (hit (suc i)) (omega (arith, sh.objects)) refl j))
      (column_on (λ n c. cond (hit n && clearable config clears n) cleared c) b.content i cleared cleared
      (hit (suc i) && clearable config clears (suc i)) (omega (arith, sh.contents)) refl j))

  -- the turn for object n, in which it is moved or not
  move_on : (n : ℕ) (s t : List ℕ) (h w : Bool) → view room s ≡ moved_to hit config clears p (n - 1) (view room s₀)
      → 1 ≤ n → n ≤ room → moved_at h w n p (moved_to hit config clears p (n - 1) (view room s₀))
      ≡ moved_at (hit n) (clearable config clears n) n p (moved_to hit config clears p (n - 1) (view room s₀))
      → t ≡ layout (moved_at h w n p (view room s)) → view room t ≡ moved_to hit config clears p (n + 1 - 1) (view room
      s₀)
  move_on n s t h w inv low high e g =
      after_turn room s n p t h w g ∙ (ap (moved_at h w n p) inv ∙ (e ∙ (go (n - 1) n (omega arith) (omega arith)
      ∙ ap (λ (k : ℕ). moved_to hit config clears p k (view room s₀)) (omega arith))))
    where
      go : (i m : ℕ) → m ≡ suc i → i < room
          → moved_at (hit m) (clearable config clears m) m p (moved_to hit config clears p i (view room s₀))
          ≡ moved_to hit config clears p (suc i) (view room s₀)
      go i m q l = rw q (move_state i (view room s₀) (view_shape room s₀) l)

  module _ (last n : ℕ) (s : List ℕ) (inv : view room s ≡ moved_to hit config clears p (n - 1) (view room s₀))
      (low : 1 ≤ n) (high : n < last + 1) (objects : ℕ) (m : last ≡ min room objects) (h : Bool) (e : h ≡ hit n) where
    pub move_within : (t : List ℕ) → h ≡ true → t ≡ layout (moved_at true (clearable config clears n) n p (view room s))
        → view room t ≡ moved_to hit config clears p (n + 1 - 1) (view room s₀)
    move_within t x g =
        let q : true ≡ hit n = sym x ∙ e in
        move_on n s t true (clearable config clears n) inv low (omega arith)
        (ap (λ (r : Bool). moved_at r (clearable config clears n) n p
        (moved_to hit config clears p (n - 1) (view room s₀))) q) g

    pub move_past : length s ≡ area_length room → h ≡ false
        → view room s ≡ moved_to hit config clears p (n + 1 - 1) (view room s₀)
    unfolding moved_at
    move_past l x =
        let q : hit n ≡ false = sym e ∙ x in
        move_on n s s false false inv low (omega arith) (rw q) (turn_none room s n p l)

  move_end : (i : ℕ) (s : List ℕ) → length s ≡ length s₀ → length s₀ ≡ area_length room
      → view room s ≡ moved_to hit config clears p i (view room s₀) → i ≤ room → room ≤ i
      → s ≡ layout (moved hit config clears p (view room s₀))
  unfolding moved_to moved done
  move_end i s l m inv h k =
      sym (layout-view room s (l ∙ m))
      ∙ ap layout (inv ∙ changed_to_all (λ n q. cond (hit n) p q)
      (λ n c. cond (hit n && clearable config clears n) cleared c) room i (view room s₀) (view_shape room s₀) h k)

-- the objects after the first i are not hit
module _ (hit : ℕ → Bool) (clears : Bool) (config : Config) (p room : ℕ) (s₀ : List ℕ) where
  move_few : (i : ℕ) (s : List ℕ) → length s ≡ length s₀ → length s₀ ≡ area_length room
      → view room s ≡ moved_to hit config clears p i (view room s₀) → ((n : ℕ) → i < n → hit n ≡ false)
      → s ≡ layout (moved hit config clears p (view room s₀))
  unfolding moved_to moved changed_to
  move_few i s l m inv h =
      sym (layout-view room s (l ∙ m))
      ∙ ap layout (inv ∙ λ j. Columns.with_content (Columns.with_object (view room s₀)
      (idle_rest (λ n q. cond (hit n) p q) 0 0 i (view room s₀).object (λ n k q. rw (h n (omega arith))) j))
      (idle_rest (λ n c. cond (hit n && clearable config clears n) cleared c) cleared 0 i
      (view room s₀).content (λ n k q. rw (h n (omega arith))) j))

-- nobody owns a record of an absent object
owned_past : (config : Config) (class k n : ℕ) → config.counts.objects < n → owns config class k n ≡ false
owned_past config class k n h =
    rw (lt-leb n config.counts.objects h)
    (go (leb 1 n) (eqb (get_or config.objects.class n 0) class) (eqb (get_or config.objects.owner n 0) k))
  where
    go : (x y z : Bool) → (x && false && y && z) ≡ false
    go true y z = refl
    go false y z = refl

-- a loop up to the last object, or to the last record
pub move_owned_end : (config : Config) (class k : ℕ) (clears : Bool) (p room : ℕ) (s₀ : List ℕ) (last i : ℕ)
    (s : List ℕ) → last ≡ min room config.counts.objects → i ≡ last
    → length s ≡ length s₀ → length s₀ ≡ area_length room
    → view room s ≡ moved_to (owns config class k) config clears p i (view room s₀)
    → s ≡ layout (moved (owns config class k) config clears p (view room s₀))
move_owned_end config class k clears p room s₀ last i s e f l m inv =
    go (min_end config.counts.objects room i (omega arith))
  where
    go : (config.counts.objects ≤ i) ⊎ (room ≤ i) → s ≡ layout (moved (owns config class k) config clears p
        (view room s₀))
    go (inl q) =
        move_few (owns config class k) clears config p room s₀ i s l m inv
        (λ n r. owned_past config class k n (omega arith))
    go (inr q) =
        move_end (owns config class k) clears config p room s₀ i s l m inv (omega arith) q

-- a column by its numbers, with one more of them changed
module _ {A : Type 0} (f g : ℕ → A → A) where
  number-after : (j : ℕ) (l : List A) → ((m : ℕ) (x : A) → j < m → g m x ≡ f m x) → number j f l ≡ number j g l
  number-after j [] h = refl
  number-after j (a ∷ l) h =
      λ i. sym (h (suc j) a (omega arith)) i ∷ number-after (suc j) l (λ m x q. h m x (omega arith)) i

  set_number : (n : ℕ) (v : A) → ((m : ℕ) (x : A) → (m ≡ n → ⊥) → g m x ≡ f m x) → ((x : A) → g n x ≡ v)
      → (k i : ℕ) (l : List A) → n ≡ suc (k + i) → set (number k f l) i v ≡ number k g l
  set_number n v other same k i [] e = refl
  set_number n v other same k zero (a ∷ l) e =
      let q : n ≡ suc k = omega arith in
      λ j. (sym (same a) ∙ ap (λ (m : ℕ). g m a) q) j ∷ number-after (suc k) l (λ m x r. other m x (λ z. omega arith)) j
  set_number n v other same k (suc i) (a ∷ l) e =
      λ j. sym (other (suc k) a (λ z. omega arith)) j ∷ set_number n v other same (suc k) i l (omega arith) j

  number_turn : (n : ℕ) (v : A) (t : Bool) (l : List A) → ((m : ℕ) (x : A) → (m ≡ n → ⊥) → g m x ≡ f m x)
      → ((x : A) → g n x ≡ cond t v (f n x)) → cond_put t (number 0 f l) n v ≡ number 0 g l
  unfolding cond_put
  number_turn zero v true l other same = number-after 0 l (λ m x q. other m x (λ z. omega arith))
  number_turn (suc n) v true l other same = set_number (suc n) v other same 0 n l (omega arith)
  number_turn n v false l other same = number-after 0 l (λ m x q. go m x (ℕ_discrete m n))
    where
      go : (m : ℕ) (x : A) → Dec (m ≡ n) → g m x ≡ f m x
      go m x (yes e) = ap (λ (i : ℕ). g i x) e ∙ (same x ∙ ap (λ (i : ℕ). f i x) (sym e))
      go m x (no h) = other m x h

  number_same : (k : ℕ) (l : List A) → ((m : ℕ) (x : A) → g m x ≡ x) → number k g l ≡ l
  number_same k [] h = refl
  number_same k (a ∷ l) h = λ i. h (suc k) a i ∷ number_same (suc k) l h i

-- one more object of the list
listed-other : (l : List ℕ) (k m : ℕ) → (m ≡ get_or l k 0 → ⊥) → listed l (suc k) m ≡ listed l k m
unfolding listed
listed-other l k m h =
    rw (ne_eqb (get_or l k 0) m (λ e. h (sym e))) (ap not (and_one (below k (λ i. not (eqb (get_or l i 0) m)))))
  where
    and_one : (a : Bool) → (a && true) ≡ a
    and_one true = refl
    and_one false = refl

listed_same : (l : List ℕ) (k : ℕ) → listed l (suc k) (get_or l k 0) ≡ true
unfolding listed
listed_same l k =
    rw (eq-eqb (get_or l k 0) (get_or l k 0) refl)
    (ap not (and_none (below k (λ i. not (eqb (get_or l i 0) (get_or l k 0))))))
  where
    and_none : (a : Bool) → (a && false) ≡ false
    and_none true = refl
    and_none false = refl

module _ (l : List ℕ) (clears : Bool) (config : Config) (p : ℕ) where
  list_state : (k : ℕ) (b : State)
      → moved_at true (clearable config clears (get_or l k 0)) (get_or l k 0) p (moved (listed l k) config clears p b)
      ≡ moved (listed l (suc k)) config clears p b
  unfolding moved
  list_state k b =
      turn_state true (clearable config clears (get_or l k 0)) (get_or l k 0) p (moved (listed l k) config clears p b)
      ∙ (λ j. Columns.with_content (Columns.with_object b
      (number_turn (λ n q. cond (listed l k n) p q) (λ n q. cond (listed l (suc k) n) p q) (get_or l k 0) p
      true b.object (λ m x h. rw (listed-other l k m h)) (λ x. rw (listed_same l k)) j))
      (number_turn (λ n c. cond (listed l k n && clearable config clears n) cleared c)
      (λ n c. cond (listed l (suc k) n && clearable config clears n) cleared c)
      (get_or l k 0) cleared (clearable config clears (get_or l k 0)) b.content
      (λ m x h. rw (listed-other l k m h))
      (λ x. rw (listed_same l k) (last (listed l k (get_or l k 0)) (clearable config clears (get_or l k 0)) x)) j))
    where
      last : (t w : Bool) (x : List ℕ) → cond w cleared x ≡ cond w cleared (cond (t && w) cleared x)
      last true true x = refl
      last true false x = refl
      last false true x = refl
      last false false x = refl

  module _ (room : ℕ) (s₀ : List ℕ) where
    pub list_none : view room s₀ ≡ moved (listed l 0) config clears p (view room s₀)
    unfolding moved listed
    list_none = λ j. Columns.with_content (Columns.with_object (view room s₀)
        (sym (number_same (λ n q. q) (λ n q. q) 0 (view room s₀).object (λ m x. refl)) j))
        (sym (number_same (λ n c. c) (λ n c. c) 0 (view room s₀).content (λ m x. refl)) j)

    pub list_on : (i n : ℕ) (s t : List ℕ) → view room s ≡ moved (listed l i) config clears p (view room s₀)
        → n ≡ get_or l i 0 → t ≡ layout (moved_at true (clearable config clears n) n p (view room s))
        → view room t ≡ moved (listed l (i + 1)) config clears p (view room s₀)
    list_on i n s t inv f g =
        after_turn room s n p t true (clearable config clears n) g
        ∙ rw (inv, f, add-one i) (list_state i (view room s₀))

    pub list_end : (i k : ℕ) (s : List ℕ) → length s ≡ length s₀ → length s₀ ≡ area_length room
        → view room s ≡ moved (listed l i) config clears p (view room s₀) → i ≤ k → k ≤ i
        → s ≡ layout (moved (listed l k) config clears p (view room s₀))
    list_end i k s a b inv h q =
        let e : i ≡ k = omega arith in
        sym (layout-view room s (a ∙ b)) ∙ ap layout (rw (← e) inv)

-- the operations
module _ (config : Config) (op : Operation) (b : State) where
  kept : (hit : ℕ → Bool) (p : ℕ) (b : State) → moved hit config false p b
      ≡ Columns.with_object b (number 0 (λ n q. cond (hit n) p q) b.object)
  unfolding moved clearable
  kept hit p b = ap (Columns.with_content (Columns.with_object b (number 0 (λ n q. cond (hit n) p q) b.object)))
      (number_same (λ n c. c) (λ n c. cond (hit n && false) cleared c) 0 b.content (λ m x. go (hit m) x))
    where
      go : (h : Bool) (x : List ℕ) → cond (h && false) cleared x ≡ x
      go true x = refl
      go false x = refl

  pub activated : (a : Actor) → moved (concerned config op a) config true op.partition (with_subject op a op.partition
      b)
      ≡ apply config op Activate a b
  unfolding apply moved clearable with_subject with_driver with_device
  activated Driver = refl
  activated Device = refl
  activated External = refl

  pub deactivated : (a : Actor) → moved (concerned config op a) config false 0 (with_subject op a 0 b)
      ≡ apply config op Deactivate a b
  unfolding apply with_subject with_driver with_device
  deactivated Driver = kept (concerned config op Driver) 0 (with_subject op Driver 0 b)
  deactivated Device = kept (concerned config op Device) 0 (with_subject op Device 0 b)
  deactivated External = kept (concerned config op External) 0 b

-- what the actor's arm leaves
module _ (config : Config) (op : Operation) (clears : Bool) (p room : ℕ) (s t u : List ℕ) where
  pub by_driver : t ≡ layout (with_driver (view room s) op.subject p)
      → u ≡ layout (moved (owns config 1 op.subject) config clears p (view room t))
      → u ≡ layout (moved (concerned config op Driver) config clears p (with_subject op Driver p (view room s)))
  unfolding with_subject
  by_driver e f =
      f ∙ ap (λ (b : State). layout (moved (owns config 1 op.subject) config clears p b))
      (after-driver room s t op.subject p e)

  pub by_device : t ≡ layout (with_device (view room s) op.subject p)
      → u ≡ layout (moved (owns config 2 op.subject) config clears p (view room t))
      → u ≡ layout (moved (concerned config op Device) config clears p (with_subject op Device p (view room s)))
  unfolding with_subject
  by_device e f =
      f ∙ ap (λ (b : State). layout (moved (owns config 2 op.subject) config clears p b))
      (after-device room s t op.subject p e)

  pub by_list : u ≡ layout (moved (listed op.objects op.count) config clears p (view room s))
      → u ≡ layout (moved (concerned config op External) config clears p (with_subject op External p (view room s)))
  unfolding with_subject moved listed
  by_list f = f
