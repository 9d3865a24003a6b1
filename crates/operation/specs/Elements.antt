-- The three kinds of elements that an operation has a count of. Where the kind is known these are the model's
-- `writing`, `copying` and `listing`.
use Rattle.std.specs.Prelude.{ℕ, List}
use Rattle.model.specs.Operation.{with_head, taken, number, count_at, turns, item, pair, object}
use Rattle.model.specs.declared.Operation.{Operation}
use Rattle.model.specs.Parse.{Parse}
use Rattle.operation.specs.declared.items.Element.{Element}
use Rattle.operation.specs.declared.items.Element.TheVariants.{Item, Pair, Object}

-- item i of a write, pair i of a read, object i of a list
abbrev pub element : Element → List ℕ → ℕ → ℕ → Operation → Parse
element Item = item
element Pair = pair
element Object = object

-- before the count stands the driver or device, or the partition of a list
abbrev pub before_elements : Element → ℕ → ℕ → ℕ → Operation
before_elements Item code x n = with_head code x 0 n
before_elements Pair code x n = with_head code x 0 n
before_elements Object code x n = with_head code 0 x n

abbrev pub counted : Element → ℕ → List ℕ → ℕ → Parse
counted e code s at =
    number s at λ x at₁.
    taken (count_at s at₁) λ n at₂.
    turns (element e s) n 0 at₂ (before_elements e code x n)
