-- Whether a byte of a list passes a test, found run by run.
use Prim.Native.Nat.{ℕ}
use mathlib.Core.Path.{◌≡◌, sym, ap, ◌∙◌}
use mathlib.Core.List.{List, [], ◌∷◌, ◌++◌}
use mathlib.Core.Bool.{Bool, true, false, ◌||◌}
use denote.Param.Members.{Mut}
use denote.Ref.{Bor}
use Rattle.std.specs.Prelude.{Option, Some, None}
use Rattle.std.specs.Fn.{Called}
use Rattle.std.specs.Iterator.{Yields, YieldsThen}
use Rattle.std.specs.List.{FoldsTo, list_any}
use Rattle.std.specs.Option.{MatchOption}
use Rattle.std.specs.Slice.Iter.{chunks_steps, chunks_rest}
use Rattle.std.proofs.Math.Bool.{or-false}
use Rattle.std.proofs.lemmas.List.{nil_from_length}
use Rattle.std.proofs.lemmas.List.Folds.{list_any-append}

-- one more byte
pub any_more : (test : ℕ → Bool) (ys : List ℕ) (x : ℕ) → (list_any test ys || test x) ≡ list_any test (ys ++ x ∷ [])
any_more test ys x =
    ap (λ (b : Bool). list_any test ys || b) (sym (or-false (test x))) ∙ sym (list_any-append test ys (x ∷ []))

module _ {F : Type 0} (g : Mut F (Bor (List ℕ) × Unit {0}) Bool) (test : ℕ → Bool) (f : F)
    (answers : (x : Bor (List ℕ)) (b : Bool) (q : F) → Called g f (x, tt) b q
    → (q ≡ f) × (b ≡ list_any test x.now)) where
  -- runs without one are passed
  passed : (xs : List (Bor (List ℕ))) (s t : _) (j : F) → Yields chunks_steps s xs t
      → FoldsTo (λ p x q. Called g p (x, tt) false q) f xs j
      → (j ≡ f) × (list_any test (chunks_rest s) ≡ list_any test (chunks_rest t))
  passed [] s t j y h = (sym h, ap (λ k. list_any test (chunks_rest k)) y)
  passed (x ∷ xs) s t j (m, step, more) (q, call, rest) =
      let a = answers x false q call in
      let p = passed xs m t j more (rw a.0 at rest) in
      let e = rw (← a.1) at (list_any-append test x.now (chunks_rest m)) in
      (p.0, ap (list_any test) step.1.0 ∙ e ∙ p.1)

  pub any_chunks : (s u : _) (r : Bool)
      → (xs : List (Bor (List ℕ))) × (o : Option (Bor (List ℕ))) × (j : F) × YieldsThen chunks_steps s xs o u
      × FoldsTo (λ p x q. Called g p (x, tt) false q) f xs j
      × MatchOption o (r ≡ false) (λ x. (r ≡ true) × ((h : F) × Called g j (x, tt) true h))
      → r ≡ list_any test (chunks_rest s)
  any_chunks s u r (xs, None, j, (t, y, end), h, none) =
      let p = passed xs s t j y h in
      none ∙ sym (p.1 ∙ ap (list_any test) (nil_from_length (chunks_rest t) end.1.0))
  any_chunks s u r (xs, Some x, j, (t, y, step), h, (hit, (k, call))) =
      let p = passed xs s t j y h in
      let a = answers x true k (rw p.0 at call) in
      let e = rw (← a.1) at (list_any-append test x.now (chunks_rest u)) in
      hit ∙ sym (p.1 ∙ ap (list_any test) step.1.0 ∙ e)
