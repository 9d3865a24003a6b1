-- A column that is changed by its numbers, where the numbers behind the first k change nothing. Assumes nothing.
use Prim.Native.Nat.{ℕ, zero, suc, ◌+◌, ◌≤◌, ◌<◌, min}
use mathlib.Core.Path.{◌≡◌, refl, sym, ap}
use mathlib.Core.Logic.{◌⊎◌, inl, inr}
use mathlib.Core.List.{List, [], ◌∷◌, ◌++◌}
use native.Mathlib.Decide.{dec_le}
use native.Mathlib.Omega.{arith}
use lib.ListN.{get_or, take, drop}
use Rattle.model.specs.Base.{number}

module _ {A : Type 0} (f : ℕ → A → A) (d : A) where
  idle : (j : ℕ) (l : List A) → ((m i : ℕ) → j < m → f m (get_or l i d) ≡ get_or l i d) → l ≡ number j f l
  idle j [] h = refl
  idle j (a ∷ l) h =
      λ i. sym (h (suc j) 0 (omega arith)) i ∷ idle (suc j) l (λ m n q. h m (suc n) (omega arith)) i

  pub idle_rest : (j k : ℕ) (l : List A) → ((m i : ℕ) → j + k < m → f m (get_or l i d) ≡ get_or l i d)
      → number j f (take k l) ++ drop k l ≡ number j f l
  idle_rest j zero l h = idle j l (λ m n q. h m n (omega arith))
  idle_rest j (suc k) [] h = refl
  idle_rest j (suc k) (a ∷ l) h =
      ap (λ (s : List A). f (suc j) a ∷ s) (idle_rest (suc j) k l (λ m n q. h m (suc n) (omega arith)))

-- a loop to the lesser of two has come to the one or to the other
pub min_end : (objects room i : ℕ) → min room objects ≤ i → (objects ≤ i) ⊎ (room ≤ i)
min_end objects room i h = go (dec_le objects i)
  where
    go : Dec (objects ≤ i) → (objects ≤ i) ⊎ (room ≤ i)
    go (yes q) = inl q
    go (no q) = inr (omega arith)
