-- What the reader's answer means is what questions 1 and 2 ask of the number.
use Prim.Native.Nat.{ℕ}
use mathlib.Core.Path.{◌≡◌, refl, ap, ◌∙◌}
use mathlib.Core.List.{List, [], ◌∷◌}
use mathlib.Core.Bool.{Bool, true, false, cond}
use lib.ListN.{length, drop}
use lib.Dec.{ltb}
use Rattle.model.specs.Number.{lead, formed, form_to, head_to, number_at, number_to}
use Rattle.model.specs.NumberMeans.{num_means, meant_head, meant_at}
use Rattle.model.specs.declared.Fault.TheVariants.{Cut, Form}
use Rattle.model.specs.Num.{Num}
use Rattle.model.specs.Num.{Got, Bad}

pub number_means : (s : List ℕ) (at : ℕ) → num_means (number_at s at) ≡ meant_at s at
unfolding number_to head_to form_to meant_head
number_means s at = go (ltb (lead (drop at s)) (length (drop at s))) (formed (drop at s) (lead (drop at s))) _ _
  where
    go : (t u : Bool) (v next : ℕ) → num_means (cond t (cond u (Got v next) (Bad Form)) (Bad Cut))
        ≡ cond {A = ℕ × List ℕ} t (cond u (0, v ∷ next ∷ []) (2, [])) (1, [])
    go true true v next = refl
    go true false v next = refl
    go false u v next = refl

-- so it does of every answer that is the number there
pub means_at : (s : List ℕ) (at : ℕ) (r : Num) → r ≡ number_at s at → num_means r ≡ meant_at s at
means_at s at r e = ap num_means e ∙ number_means s at
