-- Laws of the questions' parts, in the form in which the functions' proofs cite them.
-- Assumes nothing.
use Prim.Native.Nat.{ℕ, zero, suc, ◌≤◌}
use mathlib.Core.Path.{◌≡◌, refl, sym, ap, ◌∙◌}
use mathlib.Core.List.{List, [], ◌∷◌, ◌++◌}
use mathlib.Core.Bool.{Bool, true, false, not, ◌&&◌, beq, cond, and-true, and_assoc}
use native.Mathlib.Omega.{arith}
use lib.ListN.{length, get_or, take}
use lib.Seq.{take-suc, take_all}
use lib.Dec.{eqb}
use Rattle.model.specs.Base.{nth, below, every, all}
use Rattle.model.specs.State.{State, object_in}
use Rattle.model.specs.Operation.{object_at}
use Rattle.model.specs.Gate.{or_else}
use Rattle.model.specs.Questions.{
  q11,
  q12,
  q13,
  q14,
  q15,
  q16,
  q17,
  q18,
  q19,
  q20,
  q21,
  q22,
  q23,
  ask,
  judge,
}
use Rattle.model.specs.declared.Family.{Family}
use Rattle.model.specs.declared.Actor.{Actor}
use Rattle.model.specs.declared.Actor.TheVariants.{External}
use Rattle.model.specs.declared.Config.{Config}
use Rattle.model.specs.declared.Operation.{Operation}
use Rattle.questions.specs.Items.{activity, names_no, places_no, first_no}

-- question 15: none of a column is p
module _ (p : ℕ) where
  abbrev pub other : ℕ → Bool
  other q = not (eqb q p)

  abbrev pub other_at : List ℕ → ℕ → Bool
  other_at l n = other (nth l n 0)

  all_snoc : (s : List ℕ) (x : ℕ) → all other (s ++ (x ∷ [])) ≡ all other s && other x
  all_snoc [] x = rw (and-true (other x))
  all_snoc (y ∷ s) x = rw (all_snoc s x) (sym (and_assoc (other y) (all other s) (other x)))

  every_take : (l : List ℕ) (k : ℕ) → k ≤ length l → every k (other_at l) ≡ all other (take k l)
  every_take l zero h = refl
  every_take l (suc k) h =
      rw (take-suc l k 0 h, all_snoc (take k l) (get_or l k 0), every_take l k (omega arith))

  pub every_all : (l : List ℕ) {m : ℕ} → length l ≡ m → every m (other_at l) ≡ all other l
  every_all l {m} e = every_take l m (omega arith) ∙ ap (all other) (take_all m l (omega arith))

-- question 16: all listed objects are active, or inactive
as_wanted : (x wanted : Bool) → beq (not x) wanted ≡ cond wanted (not x) x
as_wanted true true = refl
as_wanted true false = refl
as_wanted false true = refl
as_wanted false false = refl

module _ (b : State) (op : Operation) where
  abbrev pub listed : Bool → ℕ → Bool
  listed wanted i = beq (not (eqb (object_in b (object_at op i)) 0)) wanted

  pub all_listed : (wanted : Bool) → below op.count (listed wanted) ≡ activity b op External wanted
  all_listed true = λ i. below op.count (λ k. as_wanted (eqb (object_in b (object_at op k)) 0) true i)
  all_listed false = λ i. below op.count (λ k. as_wanted (eqb (object_in b (object_at op k)) 0) false i)

-- joining questions: those of a group, and then the rest
or_ask : (n : ℕ) (t : Bool) (x rest : ℕ) → or_else (ask (suc n) t x) rest ≡ ask (suc n) t (or_else x rest)
or_ask n true x rest = refl
or_ask n false x rest = refl

module _ (config : Config) (b : State) (op : Operation) (f : Family) (a : Actor) (x rest : ℕ) where
  names_join : or_else (names_no config op f a x) rest ≡ names_no config op f a (or_else x rest)
  unfolding names_no
  names_join =
      or_ask 10 (q11 config op f a) _ rest
      ∙ ap (ask 11 (q11 config op f a)) (or_ask 11 (q12 op f) _ rest
      ∙ ap (ask 12 (q12 op f)) (or_ask 12 (q13 config op f) x rest))

  places_join : or_else (places_no b op f a x) rest ≡ places_no b op f a (or_else x rest)
  unfolding places_no
  places_join =
      or_ask 13 (q14 b op f a) _ rest
      ∙ ap (ask 14 (q14 b op f a)) (or_ask 14 (q15 b op f) _ rest
      ∙ ap (ask 15 (q15 b op f)) (or_ask 15 (q16 b op f a) _ rest
      ∙ ap (ask 16 (q16 b op f a)) (or_ask 22 (q23 b op f a) _ rest
      ∙ ap (ask 23 (q23 b op f a)) (or_ask 16 (q17 b op f a) x rest))))

-- joining the questions that follow: the model's `judge` is these eight and the rest
module _ (config : Config) (b : State) (op : Operation) (f : Family) (a : Actor) where
  pub join : (rest : ℕ) → or_else (first_no config b op f a 0) rest ≡ first_no config b op f a rest
  unfolding first_no
  join rest =
      names_join config b op f a (places_no b op f a 0) rest
      ∙ ap (names_no config op f a) (places_join config b op f a 0 rest)

  pub judge-first : judge config b op f a
      ≡ first_no config b op f a
      (ask 18 (q18 config b op f a) (ask 19 (q19 config b op f a) (ask 20 (q20 config b op f a)
      (ask 22 (q22 config b op f a) (ask 21 (q21 config b op f a) 0)))))
  unfolding first_no names_no places_no judge
  judge-first = refl

-- these questions look at counts, kinds and classes, and at nothing else of a configuration
module _ (config : Config) (b : State) (op : Operation) (f : Family) (a : Actor) where
  same_first : (m : Config) → m.counts ≡ config.counts → m.objects.kind ≡ config.objects.kind
      → m.objects.class ≡ config.objects.class → first_no m b op f a 0 ≡ first_no config b op f a 0
  unfolding first_no names_no q11 q13
  same_first m counts kinds classes = λ i.
      first_no (record m {
        counts = counts i;
        objects = record m.objects { kind = kinds i; class = classes i };
      }) b op f a 0

  pub first_by_columns : {r : ℕ} → r ≡ first_no config b op f a 0
      → (m : Config) → m.counts ≡ config.counts → m.objects.kind ≡ config.objects.kind
      → m.objects.class ≡ config.objects.class → r ≡ first_no m b op f a 0
  first_by_columns h m counts kinds classes = h ∙ sym (same_first m counts kinds classes)
