-- What the loops over items do to a state and to the answer area.
use Rattle.std.specs.Prelude.{ℕ, ◌*◌, ◌<◌, ◌≡◌, List, get_or}
use Rattle.model.specs.State.{content_bytes, State, with_content}
use Rattle.model.specs.Operation.{object_at, second_at}
use Rattle.model.specs.Effect.{item_bytes, source_bytes, stores, gathered}
use Rattle.model.specs.declared.Operation.{Operation}
use Rattle.state.specs.Splice.{part}

-- the bytes of item i
unfoldable pub item_of : Operation → ℕ → List ℕ
item_of op i = item_bytes op i

-- a value number of the first k items fits a byte
unfoldable pub Small : List ℕ → List ℕ → ℕ → Type 0
Small seconds forms k = (i : ℕ) → i < k → get_or forms i 0 ≡ 0 → get_or seconds i 0 < 256

-- the first k items stored
unfoldable pub written : Operation → ℕ → State → State
written op k b = with_content b (stores (object_at op) (item_bytes op) k b.content)

-- the contents of the first k sources
unfoldable pub sources : Operation → State → ℕ → List ℕ
sources op b k = gathered op b k

-- the sixteen bytes of an answer area that belong to pair i
abbrev pub slot : List ℕ → ℕ → List ℕ
slot answer i = part answer (content_bytes * i) content_bytes

-- the first k destinations stored from an answer area
unfoldable pub restored : List ℕ → List ℕ → ℕ → State → State
restored seconds answer k b = with_content b (stores (λ i. get_or seconds i 0) (slot answer) k b.content)

-- all destinations stored from the sources
unfoldable pub copied : Operation → State → State
copied op b = with_content b (stores (second_at op) (source_bytes op b) op.count b.content)
