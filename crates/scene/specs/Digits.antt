-- The binary digits of a word, lowest first.
use Rattle.std.specs.Prelude.{ℕ, zero, suc, ◌/◌, ◌%◌, ◌≤◌, ◌<◌, ◌≡◌, ◌⊎◌, List, get_or}

unfoldable pub bit : ℕ → ℕ → ℕ
bit n zero = n % 2
bit n (suc k) = bit (n / 2) k

-- r is the lowest digit of w that is set, of those at `from` and above; 64 if there is none
pub record Next (w from r : ℕ) : Type 0 where
  pub low : from ≤ r
  pub high : r ≤ 64
  pub clear : (k : ℕ) → from ≤ k → k < r → bit w k ≡ 1 → ⊥
  pub is_set : r < 64 → bit w r ≡ 1

-- r is the word w without its digit k
pub record Cleared (w k r : ℕ) : Type 0 where
  pub rest : (j : ℕ) → bit r j ≡ 1 → bit w j ≡ 1
  pub all : (j : ℕ) → bit w j ≡ 1 → (j ≡ k) ⊎ (bit r j ≡ 1)
  pub less : r < w

-- r has the digits of a that b does not have
pub record Without (a b r : ℕ) : Type 0 where
  pub here : (k : ℕ) → bit r k ≡ 1 → bit a k ≡ 1
  pub other : (k : ℕ) → bit r k ≡ 1 → bit b k ≡ 1 → ⊥
  pub all : (k : ℕ) → bit a k ≡ 1 → (bit b k ≡ 1) ⊎ (bit r k ≡ 1)

-- digit k of word j is set
abbrev pub Has : List ℕ → ℕ → ℕ → Type 0
Has b j k = bit (get_or b j 0) k ≡ 1

-- every digit of b is in b'
pub record Wider (b b' : List ℕ) : Type 0 where
  pub kept : (j n : ℕ) → Has b j n → Has b' j n
