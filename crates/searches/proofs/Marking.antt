-- The table of objects that a deactivation concerns, by the turns of the loops that make it. Assumes nothing.
use Prim.Native.Nat.{ℕ, zero, suc, ◌+◌, ◌≤◌, ◌<◌}
use mathlib.Core.Path.{◌≡◌, refl, sym, ◌∙◌}
use mathlib.Core.List.{List}
use mathlib.Core.Bool.{Bool, true, false, not, ◌&&◌}
use native.Mathlib.Numerals.{add-one}
use native.Mathlib.Omega.{arith}
use native.Mathlib.Decide.{ℕ_discrete, dec_le}
use lib.ListN.{length, get_or, set, replicate}
use lib.Seq.{get_or-set_same, get_or-set_other}
use lib.Dec.{leb, eqb}
use Rattle.std.specs.Int.{from_bool}
use borrow.Author.Tests.{eq-eqb, ne_eqb, lt-leb}
use Rattle.model.specs.Base.{below}
use Rattle.model.specs.Config.{most_objects, class_of, owner_of, owns}
use Rattle.model.specs.Effect.{concerned}
use Rattle.model.specs.declared.Actor.{Actor}
use Rattle.model.specs.declared.Actor.TheVariants.{Driver, Device, External}
use Rattle.model.specs.declared.Config.{Config}
use Rattle.model.specs.declared.Operation.{Operation}
use Rattle.effect.specs.Moves.{listed}
use Rattle.searches.specs.Asking.{Marks, InTable}

-- how many places a table of objects has
abbrev pub slots : ℕ
slots = suc most_objects

zeros_at : (m o : ℕ) → get_or {A = ℕ} (replicate m 0) o 0 ≡ 0
zeros_at zero o = refl
zeros_at (suc m) zero = refl
zeros_at (suc m) (suc o) = zeros_at m o

one_at : (t : Bool) → eqb (from_bool t) 1 ≡ t
one_at true = refl
one_at false = refl

-- the objects below i are marked, and none from i on
unfoldable pub Upto : List ℕ → (ℕ → Bool) → ℕ → Type 0
Upto t p i = ((o : ℕ) → o < i → eqb (get_or t o 0) 1 ≡ p o) × ((o : ℕ) → i ≤ o → get_or t o 0 ≡ 0)

module _ (config : Config) (class k : ℕ) where
  abbrev n : ℕ
  n = config.counts.objects

  abbrev Owned : ℕ → Bool
  Owned = owns config class k

  pub owned-start : Upto (replicate slots 0) Owned 1
  unfolding Upto
  owned-start = ((λ o h. none o h), λ o h. zeros_at slots o)
    where
      none : (o : ℕ) → o < 1 → eqb (get_or {A = ℕ} (replicate slots 0) o 0) 1 ≡ Owned o
      none zero h = refl
      none (suc o) h = absurd (omega arith)

  pub owned_turn : (t : List ℕ) (i : ℕ) {h : Bool} → Upto t Owned i → i ≤ n → n ≤ most_objects
      → length t ≡ slots → h ≡ Owned i → Upto (set t i (from_bool h)) Owned (i + 1)
  unfolding Upto
  owned_turn t i {h} u l m long e = (
    (λ o b. at o b (ℕ_discrete o i)),
    λ o b. get_or-set_other t i o (from_bool h) 0 (λ z. absurd (omega arith)) ∙ u.1 o (omega arith),
  )
    where
      at : (o : ℕ) → o < i + 1 → Dec (o ≡ i) → eqb (get_or (set t i (from_bool h)) o 0) 1 ≡ Owned o
      at o b (yes z) = rw (z, get_or-set_same t i (from_bool h) 0 (omega arith)) (one_at h ∙ e)
      at o b (no z) = rw (get_or-set_other t i o (from_bool h) 0 z) (u.0 o (omega arith))

  past : (o : ℕ) → n < o → Owned o ≡ false
  past o h = rw (lt-leb o n h) (go (leb 1 o))
    where
      go : (s : Bool) → (s && false) && eqb (class_of config o) class && eqb (owner_of config o) k ≡ false
      go true = refl
      go false = refl

  pub owned_end : (t : List ℕ) (i : ℕ) → Upto t Owned i → i ≡ n + 1 → Marks t Owned
  unfolding Upto Marks
  owned_end t i u e o = at (dec_le o n)
    where
      at : Dec (o ≤ n) → eqb (get_or t o 0) 1 ≡ Owned o
      at (yes h) = u.0 o (omega arith)
      at (no h) = rw (u.1 o (omega arith)) (sym (past o (omega arith)))

-- a list
module _ (list : List ℕ) where
  pub listed_start : Marks (replicate slots 0) (listed list 0)
  unfolding Marks listed
  listed_start o = rw (zeros_at slots o)

  pub listed_turn : (t : List ℕ) (i count : ℕ) {n : ℕ} → Marks t (listed list i) → i < count → InTable list count
      → length t ≡ slots → n ≡ get_or list i 0 → Marks (set t n 1) (listed list (i + 1))
  unfolding Marks listed InTable
  listed_turn t i count {n} u l small long e o = at (ℕ_discrete o n)
    where
      both : (s x : Bool) → x ≡ true → not (s && not x) ≡ true
      both true x h = rw h
      both false x h = refl

      other : (s x : Bool) → x ≡ false → not (s && not x) ≡ not s
      other true x h = rw h
      other false x h = refl

      at : Dec (o ≡ n) → eqb (get_or (set t n 1) o 0) 1 ≡ not (below (i + 1) (λ j. not (eqb (get_or list j 0) o)))
      at (yes z) =
          rw (add-one) (rw (z, get_or-set_same t n 1 0 (omega (arith, small i l)))
          (sym (both (below i (λ j. not (eqb (get_or list j 0) n))) (eqb (get_or list i 0) n)
          (eq-eqb (get_or list i 0) n (sym e)))))
      at (no z) =
          rw (add-one, get_or-set_other t n o 1 0 z)
          (u o ∙ sym (other (below i (λ j. not (eqb (get_or list j 0) o))) (eqb (get_or list i 0) o)
          (ne_eqb (get_or list i 0) o (λ y. z (sym y ∙ sym e)))))

  pub small-place : (i count : ℕ) {n : ℕ} → i < count → InTable list count → n ≡ get_or list i 0 → n < slots
  unfolding InTable
  small-place i count l small e = omega (arith, small i l)

-- the objects concerned
module _ (config : Config) (op : Operation) where
  pub by_driver : {a : Actor} → a ≡ Driver → (t : List ℕ) → Marks t (owns config 1 op.subject)
      → Marks t (concerned config op a)
  by_driver e t h = rw e h

  pub by_device_lem : {a : Actor} → a ≡ Device → (t : List ℕ) → Marks t (owns config 2 op.subject)
      → Marks t (concerned config op a)
  by_device_lem e t h = rw e h

  pub by_list : {a : Actor} → a ≡ External → (t : List ℕ) → Marks t (listed op.objects op.count)
      → Marks t (concerned config op a)
  unfolding Marks listed
  by_list e t h o = rw e (h o)
