-- The shortest form of a number put down byte by byte, by how many bytes it has.
use Prim.Native.Nat.{ℕ, ◌+◌, ◌/◌, ◌%◌, ◌≤◌, ◌<◌}
use mathlib.Core.Path.{◌≡◌, sym, ap, ◌∙◌}
use mathlib.Core.List.{List, [], ◌∷◌, ◌++◌}
use native.Mathlib.Omega.{arith}
use borrow.Author.Tests.{lt-ltb, le-ltb}
use Rattle.model.specs.Number.{bytes_of}
use Rattle.page.specs.Page.{laid, Placed}
use Rattle.page.proofs.Laying.{placed_then}

module _ (v at : ℕ) (out : List ℕ) where
  -- a byte right after what was put down
  one_more : (t : List ℕ) (b : ℕ) {p : ℕ} {out₁ out₂ : List ℕ} → Placed t at out p out₁ → out₂ ≡ laid (b ∷ []) p out₁
      → Placed (t ++ b ∷ []) at out (p + 1) out₂
  one_more t b {p} h e = placed_then at out t (b ∷ []) h (omega arith, e)

  pub write_one : {out₁ : List ℕ} → v < 128 → out₁ ≡ laid (v ∷ []) at out → Placed (bytes_of v) at out (at + 1) out₁
  unfolding bytes_of
  write_one h e = rw (lt-ltb v 128 h) (omega arith, e)

  module _ (g : 128 ≤ v) {out₁ : List ℕ} (e : out₁ ≡ laid ((v % 128 + 128) ∷ []) at out) where
    first : Placed ((v % 128 + 128) ∷ []) at out (at + 1) out₁
    first = (omega arith, e)

    pub write_two : {out₂ : List ℕ} → v < 16384 → out₂ ≡ laid ((v / 128) ∷ []) (at + 1) out₁
        → Placed (bytes_of v) at out (at + 2) out₂
    unfolding bytes_of
    write_two h e₂ =
        let p = one_more ((v % 128 + 128) ∷ []) (v / 128) first e₂ in
        rw (le-ltb v 128 g, lt-ltb v 16384 h) (omega arith, p.1)

    pub write_three : {out₂ out₃ : List ℕ} → 16384 ≤ v → out₂ ≡ laid ((v / 128 % 128 + 128) ∷ []) (at + 1) out₁
        → out₃ ≡ laid ((v / 16384) ∷ []) (at + 2) out₂ → Placed (bytes_of v) at out (at + 3) out₃
    unfolding bytes_of
    write_three {out₂} {out₃} h e₂ e₃ =
        let two : at + 1 + 1 ≡ at + 2 = omega arith in
        let p = one_more ((v % 128 + 128) ∷ []) (v / 128 % 128 + 128) first e₂ in
        let q = one_more ((v % 128 + 128) ∷ (v / 128 % 128 + 128) ∷ []) (v / 16384) p
        (e₃ ∙ ap (λ (j : ℕ). laid ((v / 16384) ∷ []) j out₂) (sym two)) in
        rw (le-ltb v 128 g, le-ltb v 16384 h) (omega arith, q.1)
