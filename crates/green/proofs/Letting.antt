-- Laws of the stricter question 20, in the form in which the functions' proofs cite them; and that it is the model's.
-- Assumes nothing.
use Prim.Native.Nat.{ℕ, zero, suc, ◌≤◌}
use mathlib.Core.Path.{◌≡◌, refl, sym, ap, ◌∙◌}
use mathlib.Core.List.{List, [], ◌∷◌}
use mathlib.Core.Bool.{Bool, true, false, not, ◌&&◌, ◌||◌}
use native.Mathlib.Decide.{ℕ_discrete}
use lib.ListN.{get_or}
use lib.Dec.{eqb}
use borrow.Author.Tests.{eq-eqb, ne_eqb, le-leb}
use Rattle.model.specs.Base.{all, every}
use Rattle.model.specs.Config.{kind_of, descriptor, Entry, entries}
use Rattle.model.specs.State.{State, green, object_in, held}
use Rattle.model.specs.Questions.{lets_go}
use Rattle.model.specs.declared.Config.{Config}
use Rattle.model.proofs.SameFile.{every-same}
use Rattle.green.specs.Rule.{spared_by, goes_by}

-- it is the model's, for what leaves zone z alone: the objects with a 1 in the table are in that zone
module _ (config : Config) (b : State) (marks : List ℕ) (concerned : ℕ → Bool)
    (marked : (o : ℕ) → eqb (get_or marks o 0) 1 ≡ concerned o) (z : ℕ)
    (inside : (o : ℕ) → concerned o ≡ true → object_in b o ≡ z) where
  abbrev lets : ℕ → Entry → Bool
  lets n e = not (concerned e.object && eqb (object_in b e.object) (object_in b n))

  spares : ℕ → Bool
  spares v = all (λ e. not (concerned e.object)) (entries config v)

  all_by : (p q : Entry → Bool) → ((e : Entry) → p e ≡ q e) → (v : ℕ)
      → all p (entries config v) ≡ all q (entries config v)
  all_by p q h v = λ i. all (λ e. h e i) (entries config v)

  all_true : (p : Entry → Bool) → ((e : Entry) → p e ≡ true) → (l : List Entry) → all p l ≡ true
  all_true p h [] = refl
  all_true p h (e ∷ l) = rw (h e, all_true p h l)

  value_spares_lem : (v : ℕ) → all (spared_by marks) (entries config v) ≡ spares v
  unfolding spared_by spares
  value_spares_lem v = all_by _ _ (λ e. ap not (marked e.object)) v

  -- in another zone nothing that leaves is named
  lets_other : (n : ℕ) → (object_in b n ≡ z → ⊥) → (e : Entry) → lets n e ≡ true
  lets_other n h e = go (concerned e.object) refl
    where
      go : (t : Bool) → concerned e.object ≡ t → not (t && eqb (object_in b e.object) (object_in b n)) ≡ true
      go false k = refl
      go true k =
          ap not (ne_eqb (object_in b e.object) (object_in b n) (λ q. h (sym q ∙ inside e.object k)))

  -- in the zone it is named if an entry names it
  lets_here : (n : ℕ) → object_in b n ≡ z → (e : Entry) → not (concerned e.object) ≡ lets n e
  lets_here n h e = go (concerned e.object) refl
    where
      go : (t : Bool) → concerned e.object ≡ t → not t ≡ not (t && eqb (object_in b e.object) (object_in b n))
      go false k = refl
      go true k =
          ap not (sym (eq-eqb (object_in b e.object) (object_in b n) (inside e.object k ∙ sym h)))

  abbrev goes : ℕ → Bool
  goes = goes_by config b marks z

  object-same : green b z ≡ true → (n : ℕ) → 1 ≤ n → n ≤ config.counts.objects → goes n ≡ lets_go config b concerned n
  unfolding goes_by spares
  object-same g n low high =
      rw (le-leb 1 n low, le-leb n config.counts.objects high, marked n, value_spares_lem (held b n))
      (go (ℕ_discrete (object_in b n) z))
    where
      k : Bool
      k = eqb (kind_of config n) 1 || eqb (kind_of config n) 4

      out : (s t : Bool) → not (s && false) || t || true ≡ true
      out true true = refl
      out true false = refl
      out false t = refl

      aside : (s u t : Bool) → not (s && false) || t || u ≡ true
      aside true u t = refl
      aside false u t = refl

      ended : (s g t : Bool) → not (s && g) || t || true ≡ true
      ended true true true = refl
      ended true true false = refl
      ended true false t = refl
      ended false g t = refl

      go : Dec (object_in b n ≡ z)
          → not (k && eqb (object_in b n) z) || concerned n || spares (held b n)
          ≡ not (k && green b (object_in b n)) || concerned n || all (lets n) (entries config (held b n))
      go (yes e) =
          rw (eq-eqb (object_in b n) z e, ap (green b) e, g)
          (ap (λ (t : Bool). not (k && true) || concerned n || t)
          (all_by (λ e. not (concerned e.object)) (lets n) (lets_here n e) (held b n)))
      go (no e) =
          rw (ne_eqb (object_in b n) z e, all_true (lets n) (lets_other n e) (entries config (held b n)))
          (aside k (spares (held b n)) (concerned n) ∙ sym (ended k (green b (object_in b n)) (concerned n)))

  pub zone_same : not (green b z) || every config.counts.objects goes
      ≡ every config.counts.objects (lets_go config b concerned)
  zone_same = go (green b z) refl
    where
      plain : green b z ≡ false → (n : ℕ) → lets_go config b concerned n ≡ true
      plain h n = at (ℕ_discrete (object_in b n) z)
        where
          first : (s t u : Bool) → not (s && false) || t || u ≡ true
          first true t u = refl
          first false t u = refl

          third : (s g t : Bool) → not (s && g) || t || true ≡ true
          third true true true = refl
          third true true false = refl
          third true false t = refl
          third false g t = refl

          at : Dec (object_in b n ≡ z) → lets_go config b concerned n ≡ true
          at (yes e) = rw (ap (green b) e, h) (first (descriptor config n) (concerned n) _)
          at (no e) =
              rw (all_true (lets n) (lets_other n e) (entries config (held b n)))
              (third (descriptor config n) (green b (object_in b n)) (concerned n))

      every_true : (m : ℕ) (p : ℕ → Bool) → ((n : ℕ) → p n ≡ true) → every m p ≡ true
      every_true zero p h = refl
      every_true (suc m) p h = rw (every_true m p h, h (suc m))

      go : (t : Bool) → green b z ≡ t
          → not t || every config.counts.objects goes ≡ every config.counts.objects (lets_go config b concerned)
      go true e = every-same config.counts.objects _ _ (object-same e)
      go false e = sym (every_true config.counts.objects (lets_go config b concerned) (plain e))
