-- A site that took one gate after the other: what is promised of the area that it has today.
use Rattle.std.specs.Prelude.{ℕ, zero, suc, ◌≤◌, ◌≡◌, List, [], ◌∷◌, ◌++◌, cond}
use Rattle.model.specs.Older.{no_locks}
use Rattle.sources.specs.Gate.{file_source}
use Rattle.model.specs.Separation.{Call}
use Rattle.continuity.specs.Past.{
  Past,
  base,
  before_rings,
  before_green,
  before_locks,
  before_serials,
  fresh_in,
  area_in,
  carried,
}
use Rattle.continuity.specs.Carried.{Promised}

-- the gates of before in their order: document 01's, then those up to N3, N4, N5 and N6
abbrev pub gate : ℕ → Past
gate zero = base
gate (suc zero) = before_rings
gate (suc (suc zero)) = before_green
gate (suc (suc (suc zero))) = before_locks
gate (suc (suc (suc (suc n)))) = before_serials

-- the calls that were put to one of them
pub record Stretch : Type 0 where
  pub version : ℕ
  pub calls : List Call

-- each gate is followed by itself or by a later one
abbrev pub Ascending : ℕ → List Stretch → Type 0
Ascending n [] = Unit {0}
Ascending n (t ∷ ts) = (n ≤ t.version) × Ascending t.version ts

-- request N6: from one gate to a later one, an area without lock bytes gets sixteen zeros where the later one has them
abbrev pub moved_on : Past → Past → List ℕ → List ℕ
moved_on old new area = cond old.locks area (cond new.locks (area ++ no_locks) area)

-- the area after all calls, carried over to today's gate
abbrev pub through : List ℕ → ℕ → List ℕ → List Stretch → List ℕ
through file n area [] = carried (gate n) area
through file n area (t ∷ ts) =
    let past = gate t.version in
    through file t.version (area_in past file (moved_on (gate n) past area) t.calls) ts

-- a gate of before made a fresh state, calls were put to it and to those that followed it; from the area that they left
-- what is promised today is promised of every list of calls
abbrev pub Upgrades : Type 0
Upgrades =
    (file area : List ℕ) (n : ℕ) → (fresh_in (gate n) file area).0 ≡ 0 → (ts : List Stretch) → Ascending n ts
    → (more : List Call) → Promised (file_source file) (through file n (fresh_in (gate n) file area).1 ts) more
