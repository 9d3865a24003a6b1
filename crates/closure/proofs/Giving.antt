-- Words that grow: one that is set, devices that are given to values, readers and values that come to descriptors.
use Prim.Native.Nat.{ℕ, zero, suc, ◌+◌, ◌%◌, ◌^◌, ◌≤◌, ◌<◌}
use native.Mathlib.Nat.{not-suc-le-zero}
use native.Mathlib.Omega.{arith}
use mathlib.Core.Path.{◌≡◌, refl, sym, subst, ◌∙◌}
use mathlib.Core.Logic.{◌⊎◌, inl, inr, ⊎_elim}
use mathlib.Core.Bool.{Bool, true, false}
use mathlib.Core.List.{List, [], ◌∷◌}
use lib.Bits.{bit_or}
use lib.ListN.{get_or, length, set}
use lib.Seq.{get_or-set_same}
use Rattle.model.specs.Config.{most_devices, blank}
use Rattle.scene.specs.Digits.{bit, Cleared, Has, Wider}
use Rattle.scene.specs.Scene.{Scene}
use Rattle.closure.specs.declared.spread.Readers.{Readers}
use Rattle.closure.specs.declared.spread.Found.{Found}
use Rattle.closure.specs.Words.{ReaderIn, PairIn, Low, Covers, TouchedIn, Paired, slack, Gave, Grew, Added}
use Rattle.scene.proofs.Digits.{or_left, or_right, or_out, or_within, bit_zero, pow_bit, pow_only, mod_bit, bit_mod}
use Rattle.scene.proofs.Widening.{set_word, wider_set, wider_none, wider_then}

-- a scene, for what is the same in all
pub some_scene : Scene
some_scene =
    record {
      config = blank;
      storing = false;
      state = record { status = []; driver = []; device = []; object = []; content = []; lock = [] };
    }

pub slack_set : (t : List ℕ) (j y : ℕ) → j < length t → get_or t j 0 < y → y ≤ 2 ^ 64 → slack (set t j y) < slack t
unfolding slack
slack_set [] j y h l m = absurd (not-suc-le-zero h)
slack_set (x ∷ xs) zero y h l m = omega arith
slack_set (x ∷ xs) (suc j) y h l m =
    let r : slack (set xs j y) < slack xs = slack_set xs j y (omega arith) l m in
    omega arith

pub reader_wider : {k k' : List ℕ} (c o : ℕ) → Wider k k' → ReaderIn k c o → ReaderIn k' c o
reader_wider c o w e = (e.0, e.1, e.2, w.kept o e.0 e.3)

pub paired-wider : {k k' : List ℕ} {c v : ℕ} → Wider k k' → Paired k c v → Paired k' c v
paired-wider {c = c} {v = v} w p =
    record {
      object = p.object;
      reading = reader_wider c p.object w p.reading;
      paired = w.kept p.object (v + most_devices) p.paired;
    }

-- devices are given to a value
pub gave_none : (x : Readers) (v r : ℕ) → bit_or (get_or x.of v 0) r ≡ get_or x.of v 0 → Gave (λ u. u ≡ v) r x x
gave_none x v r is =
    record {
      wider = wider_none;
      all = λ u e n h. subst (λ (u : ℕ). Has x.of u n) (sym e) (or_within r (get_or x.of v 0) n is h);
      only = λ u n h. inl h;
      kept = λ u h. h;
      marked = λ u n h. inl h;
    }

pub gave_one : (x : Readers) (v r p : ℕ) → v < length x.of → p ≡ 2 ^ v
    → Gave (λ u. u ≡ v) r x (record { of = set x.of v (bit_or (get_or x.of v 0) r); todo = bit_or x.todo p })
gave_one x v r p few is =
    record {
      wider = wider_set x.of v r few;
      all = λ u e n h.
          subst (λ (u : ℕ). Has (set x.of v (bit_or (get_or x.of v 0) r)) u n) (sym e)
          (subst (λ (y : ℕ). bit y n ≡ 1) (sym (get_or-set_same x.of v _ 0 few)) (or_right (get_or x.of v 0) r n h));
      only = set_word (λ u y. (n : ℕ) → bit y n ≡ 1 → Has x.of u n ⊎ ((u ≡ v) × (bit r n ≡ 1))) x.of v _ few
          (λ n h. ⊎_elim inl (λ q. inr (refl, q)) (or_out (get_or x.of v 0) r n h)) (λ u n h. inl h);
      kept = λ u h. or_left x.todo p u h;
      marked = set_word (λ u y. (n : ℕ) → bit y n ≡ 1 → Has x.of u n ⊎ (bit (bit_or x.todo p) u ≡ 1)) x.of v _ few
          (λ n h. inr (or_right x.todo p v (subst (λ (y : ℕ). bit y v ≡ 1) (sym is) (pow_bit v)))) (λ u n h. inl h);
    }

-- devices are given to the values of the word w, but for those of q
pub record Giving (w q r : ℕ) (x y : Readers) : Type 0 where
  pub wider : Wider x.of y.of
  pub rest : (v : ℕ) → bit q v ≡ 1 → bit w (v + most_devices) ≡ 1
  pub all : (v : ℕ) → bit w (v + most_devices) ≡ 1 → (bit q v ≡ 1) ⊎ TouchedIn y.of r v
  pub only : (v n : ℕ) → Has y.of v n → Has x.of v n ⊎ ((bit w (v + most_devices) ≡ 1) × (bit r n ≡ 1))
  pub kept : (v : ℕ) → bit x.todo v ≡ 1 → bit y.todo v ≡ 1
  pub marked : (v n : ℕ) → Has y.of v n → Has x.of v n ⊎ (bit y.todo v ≡ 1)

pub giving_none : (w q r : ℕ) (x : Readers) → ((v : ℕ) → bit q v ≡ bit w (v + most_devices)) → Giving w q r x x
giving_none w q r x is =
    record {
      wider = wider_none;
      rest = λ v h. sym (is v) ∙ h;
      all = λ v h. inl (is v ∙ h);
      only = λ v n h. inl h;
      kept = λ v h. h;
      marked = λ v n h. inl h;
    }

pub giving_more : {w q q' r : ℕ} {x y z : Readers} (v : ℕ) → bit q v ≡ 1 → Cleared q v q'
    → Giving w q r x y → Gave (λ u. u ≡ v) r y z → Giving w q' r x z
giving_more {w} {r = r} v here c f g =
    record {
      wider = wider_then f.wider g.wider;
      rest = λ u h. f.rest u (c.rest u h);
      all = λ u h.
          ⊎_elim
          (λ q. ⊎_elim (λ e. inr (g.all u e)) inl (c.all u q))
          (λ q. inr (λ n e. g.wider.kept u n (q n e)))
          (f.all u h);
      only = λ u n h.
          ⊎_elim (f.only u n)
          (λ q. inr (subst (λ (u : ℕ). bit w (u + most_devices) ≡ 1) (sym q.0) (f.rest v here), q.1))
          (g.only u n h);
      kept = λ u h. g.kept u (f.kept u h);
      marked = λ u n h.
          ⊎_elim (λ q. ⊎_elim inl (λ e. inr (g.kept u e)) (f.marked u n q)) inr (g.marked u n h);
    }

pub giving_all : {w q r : ℕ} {x y : Readers} → q ≡ 0 → Giving w q r x y
    → Gave (λ u. bit w (u + most_devices) ≡ 1) r x y
giving_all z f =
    record {
      wider = f.wider;
      all = λ u h.
          ⊎_elim (λ e. absurd (bit_zero u (subst (λ (w : ℕ). bit w u ≡ 1) z e))) (λ q. q) (f.all u h);
      only = f.only;
      kept = f.kept;
      marked = f.marked;
    }

-- no device is given
pub gave_nobody : (Q : ℕ → Type 0) (r : ℕ) (x : Readers) → r ≡ 0 → Gave Q r x x
gave_nobody Q r x z =
    record {
      wider = wider_none;
      all = λ u q n h. absurd (bit_zero n (subst (λ (y : ℕ). bit y n ≡ 1) z h));
      only = λ u n h. inl h;
      kept = λ u h. h;
      marked = λ u n h. inl h;
    }

-- all words grow
pub grew_then : {x y z : Found} → Grew x y → Grew y z → Grew x z
grew_then f g =
    record {
      wider = wider_then f.wider g.wider;
      by = λ b. g.by (f.by b);
      covers = λ c. g.covers (f.covers c);
      kept = λ v h. g.kept v (f.kept v h);
      marked = λ v n h. ⊎_elim (λ q. ⊎_elim inl (λ e. inr (g.kept v e)) (f.marked v n q)) inr (g.marked v n h);
    }

module _ (k : List ℕ) (o : ℕ) (few : o < length k) where
  -- the word of descriptor o with the digits of g
  abbrev with : ℕ → List ℕ
  with g = set k o (bit_or (get_or k o 0) g)

  with_has : (g n : ℕ) → bit g n ≡ 1 → Has (with g) o n
  with_has g n h =
      subst (λ (y : ℕ). bit y n ≡ 1) (sym (get_or-set_same k o _ 0 few)) (or_right (get_or k o 0) g n h)

  pub added_some : (b : Bool) (g : ℕ) → b ≡ true → Added b o g k (with g)
  added_some b g on =
      record {
        only = set_word (λ j y. (n : ℕ) → bit y n ≡ 1 → Has k j n ⊎ ((b ≡ true) × (j ≡ o) × (bit g n ≡ 1))) k o _ few
            (λ n h. ⊎_elim inl (λ q. inr (on, refl, q)) (or_out (get_or k o 0) g n h)) (λ j n h. inl h);
        all = λ e n h. with_has g n h;
      }

  -- devices read descriptor o
  pub grew_admit : (r : ℕ) {x y : Readers} → Low r → Gave (λ u. bit (get_or k o 0) (u + most_devices) ≡ 1) r x y
      → Grew (record { known = k; readers = x }) (record { known = with r; readers = y })
  grew_admit r {y = y} low g =
      let w : Wider k (with r) = wider_set k o r few in
      record {
        wider = w;
        by = λ b v n e.
            ⊎_elim (λ q. paired-wider w (b v n q))
            (λ q. record {
              object = o;
              reading = (n, refl, low n q.1, with_has r n q.1);
              paired = w.kept o (v + most_devices) q.0;
            })
            (g.only v n e);
        covers = λ c.
            set_word (λ j z. Covers z y.of) k o _ few
            (λ v n l e h.
            ⊎_elim
            (λ a. ⊎_elim (λ q. g.wider.kept v n (c o v n l a q)) (λ q. g.all v a n q) (or_out (get_or k o 0) r n h))
            (λ a. absurd (omega (arith, low (v + most_devices) a)))
            (or_out (get_or k o 0) r (v + most_devices) e))
            (λ j v n l e h. g.wider.kept v n (c j v n l e h));
        kept = g.kept;
        marked = g.marked;
      }

  -- a pair of descriptor o is collected
  pub grew_collect : (w p : ℕ) {x y : Readers} → p ≡ 2 ^ (w + most_devices)
      → Gave (λ u. u ≡ w) (get_or k o 0 % 2 ^ most_devices) x y
      → Grew (record { known = k; readers = x }) (record { known = with p; readers = y })
  grew_collect w p {y = y} is g =
      let f : Wider k (with p) = wider_set k o p few in
      let has : Has (with p) o (w + most_devices) =
      with_has p (w + most_devices)
      (subst (λ (z : ℕ). bit z (w + most_devices) ≡ 1) (sym is) (pow_bit (w + most_devices))) in
      let only : (n : ℕ) → bit p n ≡ 1 → n ≡ w + most_devices =
      λ n h. pow_only (w + most_devices) n (subst (λ (z : ℕ). bit z n ≡ 1) is h) in
      record {
        wider = f;
        by = λ b v n e.
            ⊎_elim (λ q. paired-wider f (b v n q))
            (λ q.
            let a = mod_bit (get_or k o 0) most_devices n q.1 in
            record {
              object = o;
              reading = (n, refl, a.0, f.kept o n a.1);
              paired = subst (λ (v : ℕ). PairIn (with p) o v) (sym q.0) has;
            })
            (g.only v n e);
        covers = λ c.
            set_word (λ j z. Covers z y.of) k o _ few
            (λ v n l e h.
            ⊎_elim
            (λ q.
            ⊎_elim (λ a. g.wider.kept v n (c o v n l a q))
            (λ a.
            let i : w ≡ v = omega (arith, only (v + most_devices) a) in
            subst (λ (u : ℕ). Has y.of u n) i (g.all w refl n (bit_mod (get_or k o 0) most_devices n l q)))
            (or_out (get_or k o 0) p (v + most_devices) e))
            (λ q. absurd (omega (arith, only n q)))
            (or_out (get_or k o 0) p n h))
            (λ j v n l e h. g.wider.kept v n (c j v n l e h));
        kept = g.kept;
        marked = g.marked;
      }

pub added_old : (b : Bool) (o g : ℕ) (k : List ℕ) → bit_or (get_or k o 0) g ≡ get_or k o 0 → Added b o g k k
added_old b o g k is =
    record { only = λ j n h. inl h; all = λ on n h. or_within g (get_or k o 0) n is h }
