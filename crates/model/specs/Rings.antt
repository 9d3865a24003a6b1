-- Document 02, N4: devices (document 01: cards) that write their own descriptors from the hardcoded one, and what
-- question 21 leaves as it was where there are none.
use Rattle.std.specs.Prelude.{ℕ, ◌≤◌, ◌≡◌, true}
use mathlib.Core.List.{List, Memᴰ}
use Rattle.model.specs.Questions.{ringless}
use Rattle.model.specs.Gate.{make_fresh, operate}
use Rattle.model.specs.Separation.{Call, answers_of, area_after}
use Rattle.model.specs.Demand2.{config_in, operation_in, Entering}
use Rattle.model.specs.declared.Config.{Config}

-- document 02, N4: number c names no device with a ring
abbrev pub Ringless : Config → ℕ → Type 0
Ringless config c = 1 ≤ c → c ≤ config.counts.devices → ringless config c ≡ true

-- request N4, 'Proofs': whatever calls came since the fresh state, no call is answered 21 but one that brings in a
-- device with a ring
abbrev pub Never21 : Type 0
Never21 =
    (file area : List ℕ) → (make_fresh file area).0 ≡ 0 → (calls : List Call) (bytes answer : List ℕ)
    → (Entering (operation_in bytes) → Ringless (config_in file) (operation_in bytes).subject)
    → (operate file (area_after file (make_fresh file area).1 calls) bytes answer).0 ≡ 21 → ⊥

-- request N4, 'Proofs': no session of a line without rings changes its answers, since 21 is asked last and is never
-- the answer of a call
abbrev pub NoRings : Type 0
NoRings =
    (file area : List ℕ) → (make_fresh file area).0 ≡ 0
    → ((c : ℕ) → Ringless (config_in file) c)
    → (calls : List Call) → Memᴰ 21 (answers_of file (make_fresh file area).1 calls) → ⊥
