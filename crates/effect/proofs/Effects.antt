-- What the arm of each code leaves, and that the questions give what `carry_out` requires.
use Prim.Native.Nat.{ℕ, ◌≤◌, ◌<◌}
use mathlib.Core.Path.{◌≡◌, refl, sym, ap, ◌∙◌, subst}
use mathlib.Core.List.{List}
use mathlib.Core.Bool.{Bool, true, false, ◌||◌, cond}
use native.Mathlib.Omega.{arith}
use lib.ListN.{length}
use lib.Dec.{leb, eqb}
use borrow.Author.Tests.{leb-true, eqb-true}
use Rattle.model.specs.Base.{below}
use Rattle.model.specs.Config.{from1to}
use Rattle.model.specs.State.{State, most_partition, area_length, view, layout}
use Rattle.model.specs.Operation.{
  green_code,
  lock_code,
  unlock_code,
  family_of,
  actor_of,
  object_at,
  second_at,
  form_at,
}
use Rattle.model.specs.declared.Family.{Family}
use Rattle.model.specs.declared.Family.TheVariants.{
  Write,
  Copy,
  Create,
  Destroy,
  Activate,
  Deactivate,
  Lock,
  Unlock,
}
use Rattle.model.specs.declared.Actor.{Actor}
use Rattle.model.specs.declared.Actor.TheVariants.{Device}
use Rattle.model.specs.Effect.{created_status, apply, answer_bytes}
use Rattle.model.specs.Questions.{is_object, item_exists, q11}
use Rattle.model.specs.Gate.{applied}
use Rattle.model.specs.declared.Config.{Config}
use Rattle.model.specs.declared.Operation.{Operation}
use Rattle.model.proofs.Lists.{and_l, and_r, from1to-high, below_at}
use Rattle.model.proofs.OperationRange.{InRange}
use Rattle.state.specs.Change.{with_status, with_lock}
use Rattle.effect.specs.Transfers.{Small, written, copied}
use Rattle.effect.specs.Fit.{Fit}

-- question 11
q11-partition : (config : Config) (op : Operation) (a : Actor) → q11 config op Activate a ≡ true → op.partition < 256
unfolding q11
q11-partition config op a h =
    let k : from1to op.partition most_partition ≡ true = search (and_l, and_r) in
    let m : op.partition ≤ most_partition = from1to-high op.partition most_partition k in
    omega arith

q11-small : (config : Config) (op : Operation) (a : Actor) → config.counts.values < 256 → q11 config op Write a ≡ true
    → Small op.seconds op.forms op.count
unfolding q11 Small
q11-small config op a v h i l e =
    let k : below op.count (item_exists config op Write) ≡ true = search (and_l, and_r) in
    let m : item_exists config op Write i ≡ true = below_at op.count (item_exists config op Write) k i l in
    let n : (eqb (form_at op i) 1 || leb (second_at op i) config.counts.values) ≡ true =
    and_r (is_object config (object_at op i)) (eqb (form_at op i) 1 || leb (second_at op i) config.counts.values) m in
    let w : second_at op i ≤ config.counts.values = leb-true (second_at op i) config.counts.values (rw e at n) in
    omega arith

-- what the arm of a family leaves
pub left : (room : ℕ) (config : Config) (op : Operation) (s t : List ℕ) {g : Family} (f : Family) (a : Actor) → g ≡ f
    → g ≡ family_of op.code → a ≡ actor_of op.code → t ≡ layout (apply config op f a (view room s))
    → t ≡ layout (applied config op (view room s))
left room config op s t f a e p q h = h ∙ λ i. layout (apply config op ((sym e ∙ p) i) (q i) (view room s))

-- a code that locks or unlocks does it to a device
locking : (a b c d e f g : Bool)
    → cond a Write (cond b Copy (cond c Create (cond d Destroy (cond e Activate
    (cond f Lock (cond g Unlock Deactivate))))))
    ≡ Lock → f ≡ true
locking true b c d e f g h = cc
locking false true c d e f g h = cc
locking false false true d e f g h = cc
locking false false false true e f g h = cc
locking false false false false true f g h = cc
locking false false false false false true g h = refl
locking false false false false false false true h = cc
locking false false false false false false false h = cc

unlocking : (a b c d e f g : Bool)
    → cond a Write (cond b Copy (cond c Create (cond d Destroy (cond e Activate
    (cond f Lock (cond g Unlock Deactivate))))))
    ≡ Unlock → g ≡ true
unlocking true b c d e f g h = cc
unlocking false true c d e f g h = cc
unlocking false false true d e f g h = cc
unlocking false false false true e f g h = cc
unlocking false false false false true f g h = cc
unlocking false false false false false true g h = cc
unlocking false false false false false false true h = refl
unlocking false false false false false false false h = cc

lock_actor : (code : ℕ) → family_of code ≡ Lock → actor_of code ≡ Device
lock_actor code h = ap actor_of (eqb-true code lock_code (locking (leb code 2) (leb code 4)
    (eqb code 5 || eqb code green_code) (eqb code 6) (leb code 9) (eqb code lock_code) (eqb code unlock_code) h))

unlock_actor : (code : ℕ) → family_of code ≡ Unlock → actor_of code ≡ Device
unlock_actor code h = ap actor_of (eqb-true code unlock_code (unlocking (leb code 2) (leb code 4)
    (eqb code 5 || eqb code green_code) (eqb code 6) (leb code 9) (eqb code lock_code) (eqb code unlock_code) h))

module _ (config : Config) (op : Operation) (a : Actor) (b : State) where
  pub did_write : written op op.count b ≡ apply config op Write a b
  unfolding written apply
  did_write = refl

  pub did_copy : copied op b ≡ apply config op Copy a b
  unfolding copied apply
  did_copy = refl

  pub did_create : (v : ℕ) → v ≡ created_status op → with_status b op.partition v ≡ apply config op Create a b
  unfolding with_status apply
  did_create v e = ap (λ (x : ℕ). with_status b op.partition x) e

  pub did_destroy : with_status b op.partition 2 ≡ apply config op Destroy a b
  unfolding with_status apply
  did_destroy = refl

  module _ (f : Family) (p : f ≡ family_of op.code) (q : a ≡ actor_of op.code) where
    pub did_lock : f ≡ Lock → with_lock b op.subject 1 ≡ apply config op Lock a b
    unfolding with_lock apply
    did_lock e =
        let d : a ≡ Device = q ∙ lock_actor op.code (sym p ∙ e) in
        rw d

    pub did_unlock : f ≡ Unlock → with_lock b op.subject 0 ≡ apply config op Unlock a b
    unfolding with_lock apply
    did_unlock e =
        let d : a ≡ Device = q ∙ unlock_actor op.code (sym p ∙ e) in
        rw d

-- the questions give what `carry_out` requires
module _ (room : ℕ) (config : Config) (op : Operation) (s answer : List ℕ) where
  pub fit : length s ≡ area_length room → answer_bytes ≤ length answer → InRange op → config.counts.values < 256
      → q11 config op (family_of op.code) (actor_of op.code) ≡ true → Fit room op s answer
  fit l d r v h =
      record {
        area = l;
        places = d;
        first = r.low;
        last = r.high;
        many = r.few;
        partition = λ e. q11-partition config op (actor_of op.code)
            (subst (λ (x : Family). q11 config op x (actor_of op.code) ≡ true) e h);
        small = λ e. q11-small config op (actor_of op.code) v
            (subst (λ (x : Family). q11 config op x (actor_of op.code) ≡ true) e h);
      }
