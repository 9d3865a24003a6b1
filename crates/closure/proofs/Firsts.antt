-- What `find` over a range of numbers answers where none passes: every number from 1 to n fails.
use Prim.Native.Nat.{ℕ, ◌+◌, ◌-◌, ◌<◌}
use native.Mathlib.Omega.{arith}
use mathlib.Core.Path.{◌≡◌, subst, ◌∙◌}
use mathlib.Core.Bool.{Bool, true, false}
use mathlib.Core.List.{List}
use lib.ListN.{length}
use denote.Param.Members.{Mut}
use denote.Ref.{Bor}
use Rattle.std.specs.Prelude.{Option, Some, None}
use Rattle.std.specs.declared.ops.Range.{Range}
use Rattle.std.specs.Iterator.{YieldsThen}
use Rattle.std.specs.List.{FoldsTo, range_with_len, AllWithin}
use Rattle.std.specs.Fn.{CalledAt}
use Rattle.std.specs.Option.{MatchOption, IfNone}
use Rattle.std.specs.Bool.{⊤}
use Rattle.std.proofs.iter.Yields.{nat_range_steps}
use Rattle.std.proofs.lemmas.Iterator.{first_from_find, YieldsList-from_range}
use Rattle.std.proofs.lemmas.List.FromFn.{length-range_with_len, get_or-range_with_len}
use Rattle.scene.specs.Scene.{In}

none_told : (n : ℕ) (P Q : ℕ → Type 0) (r : Option ℕ)
    → MatchOption r (AllWithin (λ x. In n x → P x) (range_with_len 1 n) 0 (length (range_with_len 1 n))) Q
    → IfNone r ((j : ℕ) → In n j → P j)
none_told n P Q None h = λ j i.
    let e : 1 + (j - 1) ≡ j = omega (arith, i.low) in
    let k : j - 1 < length (range_with_len 1 n) = omega (arith, i.low, i.high, length-range_with_len 1 n) in
    subst (λ x. In n x → P x) (get_or-range_with_len 1 n (j - 1) 0 (omega (arith, i.low, i.high)) ∙ e)
    (h (j - 1) 0 (omega arith) k) i
none_told n P Q (Some x) h = tt

module _ {F : Type 0} {g : Mut F (Bor ℕ × Unit {0}) Bool} {s : Range ℕ}
    (n : ℕ) (P : ℕ → Type 0) (u : Range ℕ) (f : F) (r : Option ℕ) where
  pub none_from_find : s ≡ record { start = 1; end = n + 1 }
      → (xs : List ℕ) × (j : F) × YieldsThen nat_range_steps s xs r u
      × FoldsTo (λ p x q. CalledAt g p x false q) f xs j
      × MatchOption r ⊤ (λ x. (h : F) × CalledAt g j x true h)
      → ((x : ℕ) (q : F) → CalledAt g f x false q → (q ≡ f) × (In n x → P x))
      → IfNone r ((j : ℕ) → In n j → P j)
  none_from_find e ran fails =
      none_told n P _ r
      (first_from_find {v = λ x. x} u f r (λ x. ⊤) (λ x. In n x → P x) ran
      (YieldsList-from_range 1 (n + 1) n e (omega arith)) (λ x q c. tt) fails)
