-- Document 02, N4: devices (document 01: cards) that write their own descriptors from the hardcoded one, and what
-- question 21 leaves as it was where there are none.
use Rattle.std.specs.Prelude.{ℕ, ◌≡◌}
use mathlib.Core.List.{List, Memᴰ}
use Rattle.sources.specs.Gate.{Source, config_of, fresh_on, operate_on}
use Rattle.model.specs.Separation.{Call}
use Rattle.sources.specs.Separation.{answers_of, area_after}
use Rattle.model.specs.Demand2.{operation_in, Entering}
use Rattle.model.specs.Rings.{Ringless}

-- document 02, N4, 'New numbers: 21': whatever calls came since the fresh state, no call is answered 21 but one that
-- brings in a device with a ring
abbrev pub Never21On : Source → Type 0
Never21On source =
    (area : List ℕ) → (fresh_on source area).0 ≡ 0 → (calls : List Call) (bytes answer : List ℕ)
    → (Entering (operation_in bytes) → Ringless (config_of source) (operation_in bytes).subject)
    → (operate_on source (area_after source (fresh_on source area).1 calls) bytes answer).0 ≡ 21 → ⊥

-- document 02, N4, 'New numbers: 21': no session of a line without rings changes its answers, since 21 is asked last
-- and is never the answer of a call
abbrev pub NoRingsOn : Source → Type 0
NoRingsOn source =
    (area : List ℕ) → (fresh_on source area).0 ≡ 0 → ((c : ℕ) → Ringless (config_of source) c) → (calls : List Call)
    → Memᴰ 21 (answers_of source (fresh_on source area).1 calls) → ⊥
