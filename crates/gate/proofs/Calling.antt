-- A call by its ways out: the file is refused, a question of 7 to 23 is answered with no, or the operation is carried
-- out. Assumes nothing.
use Prim.Native.Nat.{ℕ, zero, suc, ◌≤◌, ◌<◌}
use mathlib.Core.Path.{◌≡◌, refl, sym, ap, ◌∙◌}
use mathlib.Core.List.{List}
use mathlib.Core.Bool.{Bool, true, false, cond, ◌&&◌, ◌||◌, true≢false}
use native.Mathlib.Omega.{arith}
use lib.ListN.{length}
use lib.Dec.{eqb}
use borrow.Author.Tests.{le-leb, lt-leb}
use Rattle.model.specs.Answers.{number_of}
use Rattle.model.specs.Config.{blank}
use Rattle.model.specs.ConfigFile.{load, accepted, refused}
use Rattle.model.specs.State.{State, records, area_length, view, layout, well_formed}
use Rattle.model.specs.Operation.{family_of, actor_of, read_operation}
use Rattle.model.specs.Effect.{answer_bytes, answered}
use Rattle.model.specs.Questions.{q11, q12, q13, q14, q15, q16, q17, q18, q19, q20, q21, q22, q23, ask}
use Rattle.model.specs.Gate.{or_else, applied, judged, verdict, outcome, operate}
use Rattle.model.specs.Programs.{Operated}
use Rattle.model.specs.declared.Family.{Family}
use Rattle.model.specs.declared.Actor.{Actor}
use Rattle.model.specs.declared.Config.{Config}
use Rattle.model.specs.declared.Question.{Question}
use Rattle.model.specs.declared.Operation.{Operation}
use Rattle.model.proofs.Facts.{asked}
use Rattle.questions.specs.Items.{names_no, places_no, first_no}
use Rattle.questions.proofs.Judging.{join, judge-first}
use Rattle.searches.specs.Ready.{Complete, Asked}
use Rattle.searches.specs.Asking.{stores, leaves, enters}
use Rattle.gate.specs.Carried.{carried}
use Rattle.searches.proofs.Asking
use Rattle.gate.proofs.Told
use Rattle.searches.proofs.Unnamed

-- the answer and both areas are those of the definition
abbrev pub Carried : ℕ → Config → List ℕ → List ℕ → List ℕ → ℕ → List ℕ → List ℕ → Type 0
Carried room config area bytes answer r s a =
    (r ≡ (carried room config area bytes answer).0)
    × ((s ≡ (carried room config area bytes answer).1) × (a ≡ (carried room config area bytes answer).2))

module _ (file area bytes answer : List ℕ) where
  pub file-refused : (q : Question) → refused (number_of q) ≡ load file
      → Operated file area bytes answer (number_of q) area answer
  unfolding operate refused
  file-refused q e = rw (← e) (go (number_of q) (Told.some q))
    where
      go : (q : ℕ) → (q ≡ 0 → ⊥)
          → let room = records blank in
          let o = outcome room (or_else q (verdict room blank (read_operation bytes) area answer)) blank
          (read_operation bytes).1 area answer in
          (q ≡ o.0) × (area ≡ o.1) × (answer ≡ o.2)
      go zero n = absurd (n refl)
      go (suc q) n = (refl, refl, refl)

  pub file-accepted : (config : Config) → accepted config ≡ load file → {room : ℕ} → room ≡ records config
      → {r : ℕ} {s a : List ℕ} → Carried room config area bytes answer r s a → Operated file area bytes answer r s a
  unfolding operate carried accepted
  file-accepted config e k h = rw (← e, ← k) (h.0, h.1.0, h.1.1)

-- questions 7 to 23
module _ (config : Config) (room : ℕ) (area bytes answer : List ℕ) where
  ends : {n : ℕ} → (n ≡ 0 → ⊥) → verdict room config (read_operation bytes) area answer ≡ n
      → Carried room config area bytes answer n area answer
  unfolding carried
  ends {n} h e = rw e (go n h)
    where
      go : (q : ℕ) → (q ≡ 0 → ⊥) → let o = outcome room q config (read_operation bytes).1 area answer in
          (q ≡ o.0) × ((area ≡ o.1) × (answer ≡ o.2))
      go zero n = absurd (n refl)
      go (suc q) n = (refl, (refl, refl))

  module _ {t₇ : Bool} (e₇ : t₇ ≡ eqb (length area) (area_length room)) where
    pub no_7 : t₇ ≡ false → Carried room config area bytes answer 7 area answer
    no_7 h = ends {n = 7} (λ z. absurd (omega (arith, z))) (rw (← e₇, h))

    module _ (y₇ : t₇ ≡ true) where
      pub no_8 : length answer < answer_bytes → Carried room config area bytes answer 8 area answer
      no_8 h = ends {n = 8} (λ z. absurd (omega (arith, z)))
          (rw (← e₇, y₇, lt-leb answer_bytes (length answer) h))

      module _ (y₈ : answer_bytes ≤ length answer) {t₉ : Bool} (e₉ : t₉ ≡ well_formed room config (view room area))
        where
          pub no_9 : t₉ ≡ false → Carried room config area bytes answer 9 area answer
          no_9 h = ends {n = 9} (λ z. absurd (omega (arith, z)))
              (rw (← e₇, y₇, le-leb answer_bytes (length answer) y₈, ← e₉, h))

          module _ (y₉ : t₉ ≡ true) {q₁₀ : ℕ} {op : Operation} (e₁₀ : q₁₀ ≡ (read_operation bytes).0)
              (o₁₀ : op ≡ (read_operation bytes).1) where
            judgement : verdict room config (read_operation bytes) area answer
                ≡ or_else q₁₀ (judged config op (view room area))
            judgement = rw (← e₇, y₇, le-leb answer_bytes (length answer) y₈, ← e₉, y₉, ← e₁₀, ← o₁₀)

            or_stop : (q rest : ℕ) → (q ≡ 0 → ⊥) → or_else q rest ≡ q
            or_stop zero rest h = absurd (h refl)
            or_stop (suc q) rest h = refl

            pub no_10 : (q₁₀ ≡ 0 → ⊥) → Carried room config area bytes answer q₁₀ area answer
            no_10 h = ends h (judgement ∙ or_stop q₁₀ (judged config op (view room area)) h)

            module _ (y₁₀ : q₁₀ ≡ 0) {q : ℕ} (e : q ≡ judged config op (view room area)) where
              last : verdict room config (read_operation bytes) area answer ≡ q
              last = judgement ∙ (ap (λ (n : ℕ). or_else n (judged config op (view room area))) y₁₀ ∙ sym e)

              pub no_11 : (q ≡ 0 → ⊥) → Carried room config area bytes answer q area answer
              no_11 h = ends h last

              pub done : q ≡ 0 → {s a : List ℕ} → s ≡ layout (applied config op (view room area))
                  → a ≡ answered op (family_of op.code) (view room area) answer
                  → Carried room config area bytes answer 0 s a
              unfolding carried
              done h x y = rw (last ∙ h, ← o₁₀) (refl, (x, y))

neither : (x y z : Bool) → (x || y || z) ≡ false → (x ≡ false) × (y ≡ false) × (z ≡ false)
neither true y z h = absurd (true≢false h)
neither false true z h = absurd (true≢false h)
neither false false z h = (refl, refl, h)

-- questions 11 to 23
module _ (config : Config) (b : State) (op : Operation) {q : ℕ}
    (e : q ≡ first_no config b op (family_of op.code) (actor_of op.code) 0) where
  rest : Family → Actor → ℕ
  rest f a =
      ask 18 (q18 config b op f a) (ask 19 (q19 config b op f a) (ask 20 (q20 config b op f a)
      (ask 22 (q22 config b op f a) (ask 21 (q21 config b op f a) 0))))

  joined : judged config op b ≡ or_else q (rest (family_of op.code) (actor_of op.code))
  unfolding rest
  joined =
      judge-first config b op (family_of op.code) (actor_of op.code)
      ∙ (sym (join config b op (family_of op.code) (actor_of op.code) _)
      ∙ ap (λ (n : ℕ). or_else n (rest (family_of op.code) (actor_of op.code))) (sym e))

  pub no_first : (q ≡ 0 → ⊥) → q ≡ judged config op b
  no_first h = sym (joined ∙ go q (rest (family_of op.code) (actor_of op.code)) h)
    where
      go : (n m : ℕ) → (n ≡ 0 → ⊥) → or_else n m ≡ n
      go zero m h = absurd (h refl)
      go (suc n) m h = refl

  module _ (z : q ≡ 0) {f : Family} {a : Actor} (k : f ≡ family_of op.code) (l : a ≡ actor_of op.code) where
    by_rest : judged config op b ≡ rest f a
    by_rest =
        joined ∙ (ap (λ (n : ℕ). or_else n (rest (family_of op.code) (actor_of op.code))) z
        ∙ (ap (λ (x : Family). rest x (actor_of op.code)) (sym k) ∙ ap (rest f) (sym l)))

    none : first_no config b op f a 0 ≡ 0
    none =
        ap (λ (x : Family). first_no config b op x a 0) k
        ∙ (ap (λ (x : Actor). first_no config b op (family_of op.code) x 0) l ∙ (sym e ∙ z))

    -- question 17 was a yes
    pub placed_of : q17 b op f a ≡ true
    unfolding first_no names_no places_no
    placed_of =
        let h₁ = asked 10 (q11 config op f a) _ none in
        let h₂ = asked 11 (q12 op f) _ h₁.1 in
        let h₃ = asked 12 (q13 config op f) _ h₂.1 in
        let h₄ = asked 13 (q14 b op f a) _ h₃.1 in
        let h₅ = asked 14 (q15 b op f) _ h₄.1 in
        let h₆ = asked 15 (q16 b op f a) _ h₅.1 in
        let h₇ = asked 22 (q23 b op f a) _ h₆.1 in
        (asked 16 (q17 b op f a) _ h₇.1).0

    pub asked_of : Complete op → Asked config op f a
    unfolding first_no names_no places_no
    asked_of c =
        let h₁ = asked 10 (q11 config op f a) _ none in
        let h₂ = asked 11 (q12 op f) _ h₁.1 in
        let h₃ = asked 12 (q13 config op f) _ h₂.1 in
        record { complete = c; family = k; actor = l; p11 = h₁.0; p13 = h₃.0 }

    -- a code that 18 to 22 are not about
    pub none_asked : {t : Bool} → t ≡ (stores f || leaves f || enters f a) → t ≡ false → 0 ≡ judged config op b
    unfolding rest
    none_asked e h =
        let n = neither (stores f) (leaves f) (enters f a) (sym e ∙ h) in
        sym (by_rest ∙ rw (
          ← Asking.q18_free config b op f a n.0,
          ← Asking.q19_free config b op f a n.0,
          ← Unnamed.q20_free config b op f a n.1,
          ← Asking.q22_free config b op f a n.0 n.2,
          ← Asking.q21_free config b op f a n.2,
        ))

    module _ {t₁₈ : Bool} (e₁₈ : t₁₈ ≡ q18 config b op f a) where
      pub no_18 : t₁₈ ≡ false → 18 ≡ judged config op b
      unfolding rest
      no_18 h = sym (by_rest ∙ rw (← e₁₈, h))

      module _ (y₁₈ : t₁₈ ≡ true) {t₂₂ : Bool} (e₂₂ : t₂₂ ≡ q22 config b op f a) where
        -- 19 and 20 are not put where 22 says no
        pub no_22 : t₂₂ ≡ false → 22 ≡ judged config op b
        unfolding rest
        no_22 h = sym (by_rest ∙ rw (← e₁₈, y₁₈) (Asking.green-number config b op f a (sym e₂₂ ∙ h)))

      module _ (y₁₈ : t₁₈ ≡ true) {t₂₂ : Bool} (e₂₂ : t₂₂ ≡ q22 config b op f a) (y₂₂ : t₂₂ ≡ true) {tₙ : Bool}
          (eₙ : tₙ ≡ (q19 config b op f a && q21 config b op f a)) where
        -- 20 is not put where 19 or 21 is
        pub no_next : tₙ ≡ false → {n : ℕ} → n ≡ cond (enters f a) 21 19 → n ≡ judged config op b
        unfolding rest
        no_next h k =
            k ∙ sym (by_rest ∙ rw (← e₁₈, y₁₈) (Asking.green_passed config b op f a (sym e₂₂ ∙ y₂₂)
            ∙ Asking.next-number config b op f a (sym eₙ ∙ h)))

        module _ (yₙ : tₙ ≡ true) where
          yes : (q19 config b op f a ≡ true) × (q21 config b op f a ≡ true)
          yes = Asking.both_yes (q19 config b op f a) (q21 config b op f a) (sym eₙ ∙ yₙ)

          module _ {t₂₀ : Bool} (e₂₀ : t₂₀ ≡ q20 config b op f a) where
            pub no_20 : t₂₀ ≡ false → 20 ≡ judged config op b
            unfolding rest
            no_20 h = sym (by_rest ∙ rw (← e₁₈, y₁₈, yes.0, ← e₂₀, h))

            pub all_yes : t₂₀ ≡ true → 0 ≡ judged config op b
            unfolding rest
            all_yes h = sym (by_rest ∙ rw (← e₁₈, y₁₈, yes.0, ← e₂₀, h, ← e₂₂, y₂₂, yes.1))

          -- a code that 20 is not about
          pub stays : {t : Bool} → t ≡ leaves f → t ≡ false → 0 ≡ judged config op b
          stays k h = all_yes (Unnamed.q20_free config b op f a (sym k ∙ h)) refl
