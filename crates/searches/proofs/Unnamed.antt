-- Question 20 from its parts: what the zone lets go, and what no other device names. Assumes nothing.
use Prim.Native.Nat.{ℕ}
use mathlib.Core.Path.{◌≡◌, refl, sym, ap, ◌∙◌}
use mathlib.Core.List.{List}
use mathlib.Core.Bool.{Bool, true, false, not, ◌&&◌, ◌||◌, true≢false, false≢true}
use lib.ListN.{get_or}
use lib.Dec.{eqb}
use Rattle.model.specs.Base.{every}
use Rattle.model.specs.State.{State, green, object_in, view}
use Rattle.model.specs.Effect.{concerned}
use Rattle.model.specs.Closure.{unnamed}
use Rattle.model.specs.Questions.{zone_of, lets_go, q17, q20, itself}
use Rattle.model.specs.declared.Family.{Family}
use Rattle.model.specs.declared.Family.TheVariants.{Deactivate}
use Rattle.model.specs.declared.Actor.{Actor}
use Rattle.model.specs.declared.Config.{Config}
use Rattle.model.specs.declared.Operation.{Operation}
use Rattle.green.specs.Rule.{goes_by}
use Rattle.green.proofs.Letting.{zone_same}
use Rattle.searches.specs.Ready.{Ready, Asked}
use Rattle.searches.specs.Asking.{leaves, Marks}
use Rattle.searches.proofs.Readying

-- only a deactivation leaves
pub leaves_is : (f : Family) → leaves f ≡ true → f ≡ Deactivate
leaves_is Deactivate h = refl
leaves_is f h = absurd (false≢true h)

module _ (config : Config) (b : State) (op : Operation) where
  pub q20_free : (f : Family) (a : Actor) → leaves f ≡ false → true ≡ q20 config b op f a
  unfolding q20
  q20_free Deactivate a h = absurd (true≢false h)
  q20_free f a h = refl

  abbrev pub stricter : Actor → Bool
  stricter a = every config.counts.objects (lets_go config b (concerned config op a))

  -- what the zone lets go, by a table of what leaves it
  stricter_by : (a : Actor)
      → ((n : ℕ) → concerned config op a n ≡ true → object_in b n ≡ zone_of b op a) → (t : List ℕ)
      → Marks t (concerned config op a) → {z : ℕ} → z ≡ zone_of b op a → {s : Bool}
      → s ≡ (not (green b z) || every config.counts.objects (goes_by config b t z)) → s ≡ stricter a
  unfolding Marks
  stricter_by a inside t m e h =
      h ∙ zone_same config b t (concerned config op a) m _ (λ n k. inside n k ∙ sym e)

  and-false : (t : Bool) → false ≡ t && false
  and-false true = refl
  and-false false = refl

  pub q20_clings : (f : Family) (a : Actor) → leaves f ≡ true → {s : Bool} → s ≡ stricter a → s ≡ false
      → false ≡ q20 config b op f a
  unfolding q20
  q20_clings f a h e z =
      rw (leaves_is f h, ← e, z) (and-false (unnamed config b (concerned config op a) (itself op a)))

  and-true : (t : Bool) → t ≡ t && true
  and-true true = refl
  and-true false = refl

  pub q20-table : (f : Family) (a : Actor) → leaves f ≡ true → {s : Bool} → s ≡ stricter a → s ≡ true
      → (t : List ℕ) → Marks t (concerned config op a)
      → {c : ℕ} → c ≡ itself op a → {r : Bool} → r ≡ unnamed config b (λ o. eqb (get_or t o 0) 1) c
      → r ≡ q20 config b op f a
  unfolding q20 Marks
  q20-table f a h e z t m {c} p {r} q =
      rw (leaves_is f h, ← e, z, ← p)
      (q ∙ (ap (λ (n : ℕ → Bool). unnamed config b n c) (λ i o. m o i)
      ∙ and-true (unnamed config b (concerned config op a) c)))

-- question 20: the zone of a deactivation is the one that all of it leaves
pub zone_stricter : (config : Config) (room : ℕ) (area : List ℕ) (op : Operation) (f : Family) (a : Actor)
    → Ready config room area → Asked config op f a → leaves f ≡ true → q17 (view room area) op f a ≡ true
    → (t : List ℕ) → Marks t (concerned config op a) → {z : ℕ} → z ≡ zone_of (view room area) op a → {s : Bool}
    → s ≡ (not (green (view room area) z) || every config.counts.objects (goes_by config (view room area) t z))
    → s ≡ stricter config (view room area) op a
zone_stricter config room area op f a ready asked h p t m e q =
    stricter_by config (view room area) op a
    (Readying.zone_of_lem config room area op f a ready asked (leaves_is f h) p) t m e q
