-- The theorems: what a gate of before left, carried over, is what today's calls lead to from a fresh state.
use Prim.Native.Nat.{ℕ}
use mathlib.Core.Path.{◌≡◌, refl, sym, ap, ◌∙◌, subst}
use mathlib.Core.Logic.{inl, inr}
use mathlib.Core.List.{List, ◌++◌}
use mathlib.Core.Bool.{Bool, true, false, cond, true≢false}
use native.Mathlib.Omega.{arith}
use lib.ListN.{length}
use Rattle.model.specs.State.{records, area_length, view, well_formed}
use Rattle.model.specs.Older.{no_locks, older_length, older_view, older_formed}
use Rattle.sources.specs.Gate.{file_source, config_of}
use Rattle.sources.specs.Separation.{answers_of, area_after, initial}
use Rattle.model.proofs.Lists.{and_r}
use Rattle.model.proofs.Older.{older_area}
use Rattle.sources.proofs.Sources.{file-fits}
use Rattle.sources.proofs.Calls.{fresh_kept, fresh_zero}
use Rattle.sources.proofs.Reached.{fresh-formed}
use Rattle.continuity.specs.Past.{
  Past,
  base,
  before_rings,
  before_green,
  before_locks,
  before_serials,
  view_in,
  statuses_in,
  answers_in,
  area_in,
  carried,
  readable,
  answers_read,
}
use Rattle.continuity.specs.Carried.{
  Promised,
  OlderCalls,
  answers_now,
  SameCalls,
  CarriedOver,
  OlderFiles,
  OlderAreas,
  GoesOn,
}
use Rattle.continuity.proofs.Judged.{Real}
use Rattle.continuity.proofs.PastAreas.{load_past}
use Rattle.continuity.proofs.PastCalls.{calls_in_lem, fresh_fit, fresh_past}
use Rattle.continuity.proofs.SameCalls.{same_in}
use Rattle.continuity.proofs.Promised.{promised}

pub older_files : (past : Past) → Real past → OlderFiles past
older_files past real file h = sym (load_past past real file h).1

pub older_areas : (past : Past) → OlderAreas past
older_areas past config s n f = go past.locks n (and_r (statuses_in past (view_in past room s)) _ f)
  where
    room : ℕ
    room = records config

    go : (t : Bool) → length s ≡ cond t (area_length room) (older_length room)
        → cond t (well_formed room config (cond t (view room s) (older_view room s)))
        (older_formed room config (cond t (view room s) (older_view room s))) ≡ true
        → (view room (cond t s (s ++ no_locks)) ≡ cond t (view room s) (older_view room s))
        × (well_formed room config (view room (cond t s (s ++ no_locks))) ≡ true)
    go true n f = (refl, f)
    go false n f = let a = older_area room config s n in (a.0, a.1 ∙ f)

pub older_calls : (past : Past) → Real past → OlderCalls past
older_calls past real file area z calls =
    let source = file_source file in
    let q = fresh_past past real file area z in
    let f = fresh_zero source (carried past area) q.1 in
    let r = calls_in_lem past real file q.0 calls (initial source)
    (fresh_kept source.room (config_of source) ((file-fits file).roomy f.0))
    (fresh-formed source.room (config_of source))
    (fresh_fit past real file area source.room (config_of source)) in (
      q.1,
      ap (λ (a : List ℕ). area_after source a (readable past calls)) f.1
          ∙ (r.0 ∙ ap (λ (a : List ℕ). carried past (area_in past file a calls)) (sym q.2)),
      ap (λ (a : List ℕ). answers_of source a (readable past calls)) f.1
          ∙ (r.1 ∙ ap (λ (a : List ℕ). answers_read past calls (answers_in past file a calls)) (sym q.2)),
    )

pub same-calls : (past : Past) → Real past → SameCalls past
same-calls past real file area z calls codes =
    let source = file_source file in
    let q = fresh_past past real file area z in
    let f = fresh_zero source (carried past area) q.1 in
    let r = same_in past real file q.0 calls codes (initial source)
    (fresh_kept source.room (config_of source) ((file-fits file).roomy f.0))
    (fresh-formed source.room (config_of source))
    (fresh_fit past real file area source.room (config_of source)) in (
      ap (λ (a : List ℕ). area_after source a calls) f.1
          ∙ (r.0 ∙ ap (λ (a : List ℕ). carried past (area_in past file a calls)) (sym q.2)),
      ap (λ (a : List ℕ). answers_of source a calls) f.1
          ∙ (r.1 ∙ ap (λ (a : List ℕ). answers_now past calls (answers_in past file a calls)) (sym q.2)),
    )

pub carried_over : (past : Past) → Real past → CarriedOver past
carried_over past real file area z calls more =
    let source = file_source file in
    let q = older_calls past real file area z calls in
    subst (λ (s : List ℕ). Promised source s more) q.1
    (promised source (file-fits file) (carried past area) q.0 (readable past calls) more)

-- each gate of before
pub real_base : Real base
real_base =
    record {
      objects = omega arith;
      edition = omega arith;
      number = omega arith;
      enough = omega arith;
      statuses = omega arith;
      unlocked = λ e. omega arith;
      locked = inr refl;
      greens = inl (omega arith);
      ruled = inr (omega arith);
      ringed = inr refl;
    }

pub real_rings : Real before_rings
real_rings =
    record {
      objects = omega arith;
      edition = omega arith;
      number = omega arith;
      enough = omega arith;
      statuses = omega arith;
      unlocked = λ e. omega arith;
      locked = inr refl;
      greens = inl (omega arith);
      ruled = inr (omega arith);
      ringed = inr refl;
    }

pub real_green : Real before_green
real_green =
    record {
      objects = omega arith;
      edition = omega arith;
      number = omega arith;
      enough = omega arith;
      statuses = omega arith;
      unlocked = λ e. omega arith;
      locked = inr refl;
      greens = inl (omega arith);
      ruled = inr (omega arith);
      ringed = inl (omega arith);
    }

pub real_locks : Real before_locks
real_locks =
    record {
      objects = omega arith;
      edition = omega arith;
      number = omega arith;
      enough = omega arith;
      statuses = omega arith;
      unlocked = λ e. omega arith;
      locked = inr refl;
      greens = inr (omega arith);
      ruled = inl (omega arith);
      ringed = inl (omega arith);
    }

pub real_serials : Real before_serials
real_serials =
    record {
      objects = omega arith;
      edition = omega arith;
      number = omega arith;
      enough = omega arith;
      statuses = omega arith;
      unlocked = λ e. absurd (true≢false e);
      locked = inl (omega arith);
      greens = inr (omega arith);
      ruled = inl (omega arith);
      ringed = inl (omega arith);
    }

-- the theorem, of each
goes : (past : Past) → Real past → GoesOn past
goes past real = (
  older_files past real,
  older_areas past,
  older_calls past real,
  same-calls past real,
  carried_over past real,
)

pub base_goes : GoesOn base
base_goes = goes base real_base

pub rings_goes : GoesOn before_rings
rings_goes = goes before_rings real_rings

pub green_goes : GoesOn before_green
green_goes = goes before_green real_green

pub locks_goes : GoesOn before_locks
locks_goes = goes before_locks real_locks

pub serials_goes : GoesOn before_serials
serials_goes = goes before_serials real_serials
