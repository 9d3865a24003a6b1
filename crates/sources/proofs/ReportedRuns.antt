-- Calls and transfers in any order: where what is written into transfer descriptors is told, every transfer stays in
-- its device's partition, and the line agrees with the plain book.
use Prim.Native.Nat.{ℕ}
use mathlib.Core.Path.{◌≡◌, refl, sym, ap, ◌∙◌, subst}
use mathlib.Core.List.{List, [], ◌∷◌}
use Rattle.model.specs.State.{State, layout}
use Rattle.sources.specs.Gate.{Source, config_of, file_source, fresh_on, operate_on}
use Rattle.model.specs.Trace.{after}
use Rattle.sources.specs.Separation.{answers_of, initial}
use Rattle.model.specs.Separation.{after_call, state_after, operations_of}
use Rattle.sources.specs.Reports.{
  Event,
  called,
  told,
  untold,
  calls_in,
  line_after,
  Happens,
  EachEvent,
  AllTold,
  ReportedRunOn,
  ReportedRun,
}
use Rattle.model.specs.declared.Config.{Config}
use Rattle.sources.proofs.Stores.{Kept}
use Rattle.model.proofs.Formed.{Formed}
use Rattle.sources.proofs.TraceLaws.{transfer-inside, trace_contained}
use Rattle.sources.proofs.Sources.{Fits, file-fits}
use Rattle.sources.proofs.Calls.{call_area, call_kept, call_zero, fresh_kept, fresh_zero}
use Rattle.sources.proofs.Reached.{call_formed, fresh-formed}
use Rattle.sources.proofs.Separation.{separation_on}
use Rattle.sources.proofs.Reports.{report_booked}
use Rattle.sources.proofs.Lines.{Line, line_kept, call_line, line_described, untold_line, told_line}

-- all that happens, one after the other
module _ (source : Source) (fits : Fits source) (accepted : source.loaded.answer ≡ 0) where
  abbrev config : Config
  config = config_of source

  abbrev room : ℕ
  room = source.room

  -- the plain book after the calls
  abbrev book_after : State → List ℕ → List Event → State
  book_after b area es = state_after config b (operations_of (calls_in es)) (answers_of source area (calls_in es))

  pub record Holds (b : State) (area : List ℕ) (m : State) (es : List Event) : Type 0 where
    pub each : EachEvent source area m es
    pub end : Kept room config (book_after b area es)
    pub line : Line room config (book_after b area es) (line_after source area m es)
    pub exact : m ≡ b → AllTold es → line_after source area m es ≡ book_after b area es

  pub events_hold : (es : List Event) (b : State) → Kept room config b → Formed room config b → (area : List ℕ)
      → area ≡ layout b → (m : State) → Line room config b m → Happens source area m es → Holds b area m es
  events_hold [] b kept formed area f m line h = record { each = tt; end = kept; line = line; exact = λ e a. e }
  events_hold (called c ∷ es) b kept formed area f m line h =
      let o = operate_on source area c.bytes c.answer in
      let r =
      events_hold es (after_call config b c.bytes o.0)
      (call_kept source fits accepted b kept area c.bytes c.answer f).0
      (call_formed source fits accepted b kept formed area c.bytes c.answer f) o.1
      (call_area source fits accepted b kept area c.bytes c.answer f)
      (after_call config m c.bytes o.0)
      (call_line config b kept m line c.bytes o.0
      (λ z. (call_zero source fits accepted b kept area c.bytes c.answer f z).1)) h in
      record {
        each = r.each;
        end = r.end;
        line = r.line;
        exact = λ e a. r.exact (ap (λ (x : State). after_call config x c.bytes o.0) e) a;
      }
  events_hold (told t c ∷ es) b kept formed area f m line h =
      let o = operate_on source area c.bytes c.answer in
      let k =
      report_booked source fits accepted b kept formed area f t (line_described config b kept m line t h.0) c
      h.1 in
      let r =
      events_hold es (after_call config b c.bytes o.0)
      (call_kept source fits accepted b kept area c.bytes c.answer f).0
      (call_formed source fits accepted b kept formed area c.bytes c.answer f) o.1
      (call_area source fits accepted b kept area c.bytes c.answer f) (after config m t)
      (subst (λ (x : State). Line room config x (after config m t)) (sym k.book)
      (told_line config b kept m line t h.0)) h.2 in
      record {
        each = (transfer-inside config m (line_kept config b kept m line) t h.0, k.accepted, r.each);
        end = r.end;
        line = r.line;
        exact = λ e a. r.exact (ap (λ (x : State). after config x t) e ∙ sym k.book) a;
      }
  events_hold (untold t ∷ es) b kept formed area f m line h =
      let r =
      events_hold es b kept formed area f (after config m t) (untold_line config b kept m line t h.0 h.1) h.2
      in
      record {
        each = (transfer-inside config m (line_kept config b kept m line) t h.0, r.each);
        end = r.end;
        line = r.line;
        exact = λ e a. absurd a;
      }

-- the theorem
pub reported_run_on : (source : Source) → Fits source → ReportedRunOn source
reported_run_on source fits area h events happens =
    let q = fresh_zero source area h in
    let config = config_of source in
    let b = initial source in
    let k = fresh_kept source.room config (fits.roomy q.0) in
    let same : Line source.room config b b =
    record {
      columns = refl;
      size = k.shape.contents;
      sixteen = k.shape.sixteen;
      descriptors = λ n dn. refl;
    } in
    let r =
    events_hold source fits q.0 events b k (fresh-formed source.room config) (fresh_on source area).1 q.1 b
    same happens in
    record {
      each = r.each;
      separated = separation_on source fits area h (calls_in events);
      agrees = record { columns = r.line.columns; descriptors = r.line.descriptors };
      exact = r.exact refl;
      hardcoded = (line_kept config _ r.end _ r.line).hardcoded;
      contained = λ trace rs. trace_contained config trace _ (line_kept config _ r.end _ r.line) rs;
    }

-- of every file
pub reported_run : ReportedRun
reported_run file = reported_run_on (file_source file) (file-fits file)
