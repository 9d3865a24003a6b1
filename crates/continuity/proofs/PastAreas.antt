-- Files, records and areas of the gate of before, as today's gate has them.
use Prim.Native.Nat.{ℕ, ◌≤◌}
use mathlib.Core.Path.{◌≡◌, refl, sym, ap, ◌∙◌, subst}
use mathlib.Core.List.{List, ◌++◌}
use mathlib.Core.Bool.{Bool, true, false, not, cond, true≢false, ◌||◌}
use native.Mathlib.Omega.{arith}
use lib.ListN.{length, length-append}
use lib.Dec.{leb, eqb}
use borrow.Author.Tests.{leb-true, eq-eqb}
use Rattle.model.specs.Number.{most_number}
use Rattle.model.specs.Config.{latest}
use Rattle.model.specs.ConfigFile.{ask, refused, load_to, load}
use Rattle.model.specs.State.{State, area_length, view, layout, well_formed}
use Rattle.model.specs.Older.{no_locks, older_length, older_view, older_layout, older_formed}
use Rattle.model.specs.Operation.{Parsed, read_operation_by, read_operation}
use Rattle.model.specs.declared.Config.{Config}
use Rattle.model.specs.Loaded.{Loaded}
use Rattle.model.proofs.Lists.{both_true}
use Rattle.model.proofs.StateLaws.{view-layout}
use Rattle.model.proofs.OldRecords.{read_stays}
use Rattle.model.proofs.WiderFiles.{load-wider}
use Rattle.model.proofs.Older.{older_view_lem, older_formed_lem, older_layout_lem}
use Rattle.sources.proofs.Stores.{Kept}
use Rattle.model.proofs.Formed.{Formed, formed_to_lem}
use Rattle.model.proofs.Reached.{layout_length}
use Rattle.continuity.specs.Past.{
  Past,
  quiet_line,
  load_in,
  coded,
  reading_in,
  length_in,
  view_in,
  layout_in,
  formed_in,
  carried,
}
use Rattle.continuity.proofs.Judged.{Real, Fit}

-- question 6 with and without rings
pub strict : (r q : Bool) (l : Loaded) → (ask 6 (not (eqb l.answer 0) || (r || q)) l).answer ≡ 0
    → (l.answer ≡ 0) × (ask 6 (not (eqb l.answer 0) || (r || q)) l ≡ l) × (r ≡ false → q ≡ true)
unfolding ask refused
strict r q l h = go (eqb l.answer 0) (r || q) refl refl h
  where
    second : (r q : Bool) → r || q ≡ true → r ≡ false → q ≡ true
    second true q e n = absurd (true≢false n)
    second false q e n = e

    go : (t u : Bool) → eqb l.answer 0 ≡ t → r || q ≡ u → (ask 6 (not t || u) l).answer ≡ 0
        → (l.answer ≡ 0) × (ask 6 (not t || u) l ≡ l) × (r ≡ false → q ≡ true)
    go true true e f h = (h, refl, second r q f)
    go true false e f h = absurd (omega arith)
    go false u e f h = absurd (true≢false (sym (eq-eqb l.answer 0 h) ∙ e))

-- a file that was accepted
module _ (past : Past) (real : Real past) (file : List ℕ) where
  pub load_past : (load_in past file).answer ≡ 0
      → ((load file).answer ≡ 0) × (load_in past file ≡ load file)
      × (past.rings ≡ false → quiet_line (load file).config ≡ true)
  unfolding load_in
  load_past h =
      let old = load_to past.limits file in
      let s = strict past.rings (quiet_line old.config) old h in
      let e : load file ≡ old =
      load-wider past.limits latest real.objects real.edition real.number file s.0 in (
        ap (λ (l : Loaded). l.answer) e ∙ s.0,
        s.1 ∙ sym e,
        λ r. ap (λ (l : Loaded). quiet_line l.config) e ∙ s.2 r,
      )

-- a record that could be read
module _ (past : Past) (real : Real past) (bytes : List ℕ) where
  pub read_past : (reading_in past bytes).0 ≡ 0
      → (reading_in past bytes ≡ read_operation bytes) × ((read_operation bytes).0 ≡ 0)
      × ((read_operation bytes).1.code ≤ past.code)
  unfolding reading_in coded
  read_past h =
      let r = read_operation_by past.limits.number bytes in
      go r (leb r.1.code past.code) refl refl h
    where
      go : (r : Parsed) (t : Bool) → read_operation_by past.limits.number bytes ≡ r
          → leb r.1.code past.code ≡ t → (coded t r).0 ≡ 0
          → (coded t r ≡ read_operation bytes) × ((read_operation bytes).0 ≡ 0)
          × ((read_operation bytes).1.code ≤ past.code)
      go r true e f h =
          let same : read_operation bytes ≡ r =
          read_stays past.limits.number most_number real.number bytes (ap (λ (x : Parsed). x.0) e ∙ h) ∙ e in (
            sym same,
            ap (λ (x : Parsed). x.0) same ∙ h,
            subst (λ (x : Parsed). x.1.code ≤ past.code) (sym same) (leb-true r.1.code past.code f),
          )
      go r false e f h = absurd (omega arith)

-- the area of a state that has nothing of what came since
module _ (past : Past) {room : ℕ} (config : Config) (b : State) (kept : Kept room config b)
    (formed : Formed room config b) (fit : Fit past b) where
  older_length_lem : b.lock ≡ no_locks → length (older_layout b) ≡ older_length room
  older_length_lem e =
      let l = layout_length room b kept.shape in
      let s : length (layout b) ≡ length (older_layout b ++ no_locks) = ap length (older_layout_lem b e) in
      omega (arith, l, s, length-append (older_layout b) no_locks)

  pub carried-layout : carried past (layout_in past b) ≡ layout b
  carried-layout = go past.locks refl
    where
      go : (t : Bool) → past.locks ≡ t
          → cond t (cond t (layout b) (older_layout b)) (cond t (layout b) (older_layout b) ++ no_locks) ≡ layout b
      go true e = refl
      go false e = sym (older_layout_lem b (fit.lockless e))

  pub length_in_lem : length (layout_in past b) ≡ length_in past room
  length_in_lem = go past.locks refl
    where
      go : (t : Bool) → past.locks ≡ t
          → length (cond t (layout b) (older_layout b)) ≡ cond t (area_length room) (older_length room)
      go true e = layout_length room b kept.shape
      go false e = older_length_lem (fit.lockless e)

  pub view_in_lem : view_in past room (layout_in past b) ≡ b
  view_in_lem = go past.locks refl
    where
      go : (t : Bool) → past.locks ≡ t
          → cond t (view room (cond t (layout b) (older_layout b)))
          (older_view room (cond t (layout b) (older_layout b)))
          ≡ b
      go true e = view-layout room b kept.shape
      go false e =
          sym (older_view_lem room (older_layout b) (older_length_lem (fit.lockless e)))
          ∙ (ap (view room) (sym (older_layout_lem b (fit.lockless e))) ∙ view-layout room b kept.shape)

  pub formed_in_lem : formed_in past room config b ≡ true
  formed_in_lem = both_true fit.plain (go past.locks refl)
    where
      go : (t : Bool) → past.locks ≡ t → cond t (well_formed room config b) (older_formed room config b) ≡ true
      go true e = formed_to_lem room config b formed
      go false e = sym (older_formed_lem room config b (fit.lockless e)) ∙ formed_to_lem room config b formed
