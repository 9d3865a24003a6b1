-- Writes and copies in a zone: their targets are in it, and what question 22 passes in a green zone is green and
-- confined.
use Prim.Native.Nat.{ℕ, ◌≤◌, ◌<◌}
use mathlib.Core.Path.{◌≡◌, sym, ap, ◌∙◌, subst}
use mathlib.Core.Logic.{◌⊎◌, inl, inr}
use mathlib.Core.List.{List}
use mathlib.Core.Bool.{Bool, true, not, ◌||◌}
use lib.ListN.{get_or}
use lib.Dec.{eqb}
use borrow.Author.Tests.{eqb-true, eq-eqb}
use Rattle.model.specs.Base.{below}
use Rattle.model.specs.Config.{kind_of}
use Rattle.model.specs.State.{State, object_in, held, cleared, green}
use Rattle.model.specs.Closure.{confined}
use Rattle.model.specs.Operation.{object_at, second_at}
use Rattle.model.specs.declared.Family.TheVariants.{Write, Copy}
use Rattle.model.specs.declared.Actor.{Actor}
use Rattle.model.specs.Effect.{item_bytes, source_bytes, apply}
use Rattle.model.specs.Questions.{q13, is_kind, within, green_value, green_item}
use Rattle.model.specs.declared.Config.{Config}
use Rattle.model.specs.declared.Operation.{Operation}
use Rattle.model.proofs.Lists.{and_r, or_true, not_eqb, below_at}
use Rattle.model.proofs.Confinement.{Confined, confined-sound}
use Rattle.model.specs.Green.{Green}
use Rattle.model.proofs.Green.{green-confined}
use Rattle.model.proofs.Columns.{or_else_lem}
use Rattle.sources.proofs.Stores.{Kept}
use Rattle.model.proofs.Stores.{
  stores_hold,
  kind_1,
  live-low,
  not_zero,
  stores_elsewhere,
  write_kind,
  copy_kind,
  write_form,
}

module _ {room : ℕ} (config : Config) (op : Operation) (b : State) (kept : Kept room config b) where
  -- a write or a copy in zone z, which is judged by questions 13, 17 and 22
  module _ (a : Actor) (z : ℕ) where
    -- its targets are in the zone
    pub write_within : below op.count (within b op Write z) ≡ true → (i n : ℕ) → i < op.count → object_at op i ≡ n
        → object_in b n ≡ z
    write_within h i n l e =
        ap (object_in b) (sym e)
        ∙ eqb-true (object_in b (object_at op i)) z (below_at op.count (within b op Write z) h i l)

    pub copy_within : below op.count (within b op Copy z) ≡ true → (i n : ℕ) → i < op.count → second_at op i ≡ n
        → 1 ≤ n → object_in b n ≡ z
    copy_within h i n l e low =
        ap (object_in b) (sym e) ∙ eqb-true (object_in b (second_at op i)) z
        (not_zero (second_at op i) n (eqb (object_in b (second_at op i)) z) e low
        (and_r (eqb (object_in b (object_at op i)) z) _ (below_at op.count (within b op Copy z) h i l)))

    -- what is stored in a green zone is green
    pub write_green : q13 config op Write ≡ true → below op.count (within b op Write z) ≡ true
        → not (green b z) || below op.count (green_item config b op Write z) ≡ true
        → Green config (apply config op Write a b)
    unfolding apply
    write_green h₁₃ h₁₇ h₂₂ o l g =
        stores_hold (λ (c : List ℕ). green_value config b (object_in b o) (get_or c 0 0) ≡ true) (object_at op)
        (item_bytes op) op.count b.content o cleared (kept.greens o l g)
        (λ i m e.
        let k : kind_of config o ≡ 1 = kind_1 config b o l (write_kind config op h₁₃ i o m e) in
        let at : object_in b o ≡ z = write_within h₁₇ i o m e in
        let ok : not (is_kind config 1 (object_at op i)) || green_value config b z (second_at op i) ≡ true =
        below_at op.count (green_item config b op Write z)
        (or_else_lem (green b z) (below op.count (green_item config b op Write z)) h₂₂
        (subst (λ (y : ℕ). green b y ≡ true) at g)) i m in
        subst (λ (x : ℕ). green_value config b (object_in b o) x ≡ true)
        (sym (ap (λ (c : List ℕ). get_or c 0 0) (write_form config op h₁₃ i o m e k)))
        (subst (λ (y : ℕ). green_value config b y (second_at op i) ≡ true) (sym at)
        (or_else_lem (is_kind config 1 (object_at op i)) (green_value config b z (second_at op i)) ok
        (eq-eqb (kind_of config (object_at op i)) 1 (ap (kind_of config) e ∙ k)))))

    pub copy_green : q13 config op Copy ≡ true → below op.count (within b op Copy z) ≡ true
        → not (green b z) || below op.count (green_item config b op Copy z) ≡ true
        → Green config (apply config op Copy a b)
    unfolding apply
    copy_green h₁₃ h₁₇ h₂₂ o l g =
        stores_hold (λ (c : List ℕ). green_value config b (object_in b o) (get_or c 0 0) ≡ true) (second_at op)
        (source_bytes op b) op.count b.content o cleared (kept.greens o l g)
        (λ i m e.
        let low = live-low config b o l in
        let k : kind_of config o ≡ 1 = kind_1 config b o l (copy_kind config op h₁₃ i o m e low) in
        let at : object_in b o ≡ z = copy_within h₁₇ i o m e low in
        let ok : eqb (second_at op i) 0 || not (is_kind config 1 (second_at op i))
        || green_value config b z (held b (object_at op i)) ≡ true =
        below_at op.count (green_item config b op Copy z)
        (or_else_lem (green b z) (below op.count (green_item config b op Copy z)) h₂₂
        (subst (λ (y : ℕ). green b y ≡ true) at g)) i m in
        subst (λ (y : ℕ). green_value config b y (held b (object_at op i)) ≡ true) (sym at)
        (stored-kind (second_at op i) o e low k (green_value config b z (held b (object_at op i))) ok))
      where
        stored-kind : (x n : ℕ) → x ≡ n → 1 ≤ n → kind_of config n ≡ 1 → (t : Bool)
            → eqb x 0 || not (is_kind config 1 x) || t ≡ true → t ≡ true
        stored-kind x n e low k t h =
            go (or_true h)
          where
            go : (eqb x 0 || not (is_kind config 1 x) ≡ true) ⊎ (t ≡ true) → t ≡ true
            go (inr q) = q
            go (inl q) =
                absurd (not_eqb (kind_of config x) 1 (not_zero x n (not (is_kind config 1 x)) e low q)
                (ap (kind_of config) e ∙ k))

    -- so what question 22 passes in a green zone is confined, by no search
    pub write_green-confined : green b z ≡ true → q13 config op Write ≡ true
        → below op.count (within b op Write z) ≡ true
        → not (green b z) || below op.count (green_item config b op Write z) ≡ true
        → Confined config (apply config op Write a b)
    unfolding apply
    write_green-confined g h₁₃ h₁₇ h₂₂ =
        green-confined config z b (apply config op Write a b) kept.together kept.confines
        (stores_elsewhere b (object_at op) (item_bytes op) op.count z (λ i n l e low. write_within h₁₇ i n l e))
        (λ o l i. subst (λ (y : ℕ). green_value config b y (held (apply config op Write a b) o) ≡ true) i
        (write_green h₁₃ h₁₇ h₂₂ o l (subst (λ (y : ℕ). green b y ≡ true) (sym i) g)))

    pub copy_green-confined : green b z ≡ true → q13 config op Copy ≡ true
        → below op.count (within b op Copy z) ≡ true
        → not (green b z) || below op.count (green_item config b op Copy z) ≡ true
        → Confined config (apply config op Copy a b)
    unfolding apply
    copy_green-confined g h₁₃ h₁₇ h₂₂ =
        green-confined config z b (apply config op Copy a b) kept.together kept.confines
        (stores_elsewhere b (second_at op) (source_bytes op b) op.count z (copy_within h₁₇))
        (λ o l i. subst (λ (y : ℕ). green_value config b y (held (apply config op Copy a b) o) ≡ true) i
        (copy_green h₁₃ h₁₇ h₂₂ o l (subst (λ (y : ℕ). green b y ≡ true) (sym i) g)))

    pub write_judged : green b z || confined config (apply config op Write a b) ≡ true → q13 config op Write ≡ true
        → below op.count (within b op Write z) ≡ true
        → not (green b z) || below op.count (green_item config b op Write z) ≡ true
        → Confined config (apply config op Write a b)
    write_judged h h₁₃ h₁₇ h₂₂ = go (or_true h)
      where
        go : (green b z ≡ true) ⊎ (confined config (apply config op Write a b) ≡ true)
            → Confined config (apply config op Write a b)
        go (inl g) = write_green-confined g h₁₃ h₁₇ h₂₂
        go (inr c) = confined-sound config (apply config op Write a b) c

    pub copy_judged : green b z || confined config (apply config op Copy a b) ≡ true → q13 config op Copy ≡ true
        → below op.count (within b op Copy z) ≡ true
        → not (green b z) || below op.count (green_item config b op Copy z) ≡ true
        → Confined config (apply config op Copy a b)
    copy_judged h h₁₃ h₁₇ h₂₂ = go (or_true h)
      where
        go : (green b z ≡ true) ⊎ (confined config (apply config op Copy a b) ≡ true)
            → Confined config (apply config op Copy a b)
        go (inl g) = copy_green-confined g h₁₃ h₁₇ h₂₂
        go (inr c) = confined-sound config (apply config op Copy a b) c
