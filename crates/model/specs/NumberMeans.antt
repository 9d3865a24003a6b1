-- Document 01, questions 1 and 2: what each case of the number reader's answer means, by the paper's number and values.
use Rattle.std.specs.Prelude.{ℕ, ◌+◌, List, [], ◌∷◌, cond, length, drop, ltb}
use Rattle.model.specs.Number.{lead, value_of, formed}
use Rattle.model.specs.declared.Fault.TheVariants.{Cut, Form}
use Rattle.model.specs.Num.{Num}
use Rattle.model.specs.Num.{Got, Bad}

-- document 01, questions 1 and 2, for each case of the reader's answer: the number of the question that is answered no,
-- 0 where there is none; and the values, the number and the place after it
abbrev pub num_means : Num → ℕ × List ℕ
num_means (Got v next) = (0, v ∷ next ∷ [])
num_means (Bad Cut) = (1, [])
num_means (Bad Form) = (2, [])

-- questions 1 and 2 of the number at the head of t, which stands at `at`, with n bytes before its last
unfoldable pub meant_head : ℕ → List ℕ → ℕ → ℕ × List ℕ
meant_head at t n =
    cond (ltb n (length t)) (cond (formed t n) (0, value_of t n ∷ (at + n + 1) ∷ []) (2, [])) (1, [])

-- of the number at a place of s
abbrev pub meant_at : List ℕ → ℕ → ℕ × List ℕ
meant_at s at = meant_head at (drop at s) (lead (drop at s))
