-- Document 02: the gate as it was before a request, as today's definitions at older parameters.
use Rattle.std.specs.Prelude.{ℕ, zero, suc, List, [], ◌∷◌, ◌++◌, Bool, true}
use Rattle.std.specs.Prelude.{false, not, cond, ◌&&◌, ◌||◌, length, leb, eqb}
use Rattle.model.specs.Base.{all, every}
use Rattle.model.specs.Number.{most_before}
use Rattle.model.specs.Config.{small_room, Limits, first_limits}
use Rattle.model.specs.ConfigFile.{ask, load_to}
use Rattle.model.specs.State.{State, records, area_length, view, layout, fresh, well_formed}
use Rattle.model.specs.Older.{no_locks, older_length, older_view, older_layout, older_formed}
use Rattle.model.specs.Operation.{
  Parsed,
  unread,
  family_of,
  actor_of,
  read_operation_by,
  number_by,
  only,
  arguments_by,
  ended,
}
use Rattle.model.specs.Effect.{answer_bytes, answered}
use Rattle.model.specs.Questions.{ringless, q11, q12, q13, q14, q15, q16, q17, q18, q19, q20, q21, q22, q23}
use Rattle.model.specs.Questions as Q
use Rattle.model.specs.Gate.{or_else, applied, Outcome}
use Rattle.model.specs.Separation.{Call}
use Rattle.model.specs.declared.Family.{Family}
use Rattle.model.specs.declared.Actor.{Actor}
use Rattle.model.specs.declared.Config.{Config}
use Rattle.model.specs.Loaded.{Loaded}
use Rattle.model.specs.declared.Operation.{Operation}
use Rattle.model.specs.Parse.{Parse}

-- what requests of document 02 changed in calls that were there before them
pub record Past : Type 0 where
  -- requests N2 and N7: how many objects a file could have, of what edition it was, how large numbers were
  pub limits : Limits
  -- requests N4 to N6: the largest code, the largest number of a question, the largest status
  pub code : ℕ
  pub question : ℕ
  pub status : ℕ
  -- request N4: a hardcoded value could write kind 1 objects
  pub rings : Bool
  -- request N6: areas had lock bytes
  pub locks : Bool

-- document 01
abbrev pub base : Past
base =
    record {
      limits = record { objects = small_room; edition = 1; number = most_before };
      code = 12;
      question = 20;
      status = 2;
      rings = false;
      locks = false;
    }

-- before request N4, with N2; before N5, N6 and N7, each with those before it
abbrev pub before_rings : Past
before_rings =
    record { limits = first_limits; code = 12; question = 20; status = 2; rings = false; locks = false }

abbrev pub before_green : Past
before_green = record { limits = first_limits; code = 12; question = 21; status = 2; rings = true; locks = false }

abbrev pub before_locks : Past
before_locks = record { limits = first_limits; code = 13; question = 22; status = 3; rings = true; locks = false }

abbrev pub before_serials : Past
before_serials = record { limits = first_limits; code = 15; question = 23; status = 3; rings = true; locks = true }

-- question 6 before N4: does no hardcoded value write a kind 1 object? It was a file's last question
abbrev pub quiet_line : Config → Bool
quiet_line config = every config.counts.devices (ringless config)

unfoldable pub load_in : Past → List ℕ → Loaded
load_in past file =
    let l = load_to past.limits file in
    ask 6 (not (eqb l.answer 0) || (past.rings || quiet_line l.config)) l

-- question 10: numbers and codes were smaller
unfoldable pub coded : Bool → Parsed → Parsed
coded true r = r
coded false r = (10, unread)

unfoldable pub reading_in : Past → List ℕ → Parsed
reading_in past bytes =
    let r = read_operation_by past.limits.number bytes in
    coded (leb r.1.code past.code) r

-- the same, as question 10's text was: `reading_in` is equal to it (proofs/ReadText)
unfoldable pub code_in : Past → List ℕ → ℕ → ℕ → Parse
code_in past s code at =
    only (leb 1 code && leb code past.code)
    (arguments_by past.limits.number (family_of code) (actor_of code) code s at)

unfoldable pub read_then : Past → List ℕ → Parsed
read_then past s =
    let parse = number_by past.limits.number s 0 (code_in past s) in
    ended (eqb parse.answer 0 && eqb parse.at (length s)) parse

-- requests N4 to N6: a question with a larger number was not asked. What questions 14, 19 and 20 ask of green zones is
-- nothing where no status is 3, so that they are those of before N5 where the largest status is 2
abbrev pub ask_in : Past → ℕ → Bool → ℕ → ℕ
ask_in past n t rest = cond (leb n past.question) (Q.ask n t rest) rest

unfoldable pub judge_in : Past → Config → State → Operation → Family → Actor → ℕ
judge_in past config b op f a =
    Q.ask 11 (q11 config op f a) (Q.ask 12 (q12 op f) (Q.ask 13 (q13 config op f) (Q.ask 14 (q14 b op f a)
    (Q.ask 15 (q15 b op f) (Q.ask 16 (q16 b op f a) (ask_in past 23 (q23 b op f a) (Q.ask 17 (q17 b op f a)
    (Q.ask 18 (q18 config b op f a) (Q.ask 19 (q19 config b op f a) (Q.ask 20 (q20 config b op f a)
    (ask_in past 22 (q22 config b op f a) (ask_in past 21 (q21 config b op f a) 0))))))))))))

abbrev pub judged_in : Past → Config → Operation → State → ℕ
judged_in past config op b = judge_in past config b op (family_of op.code) (actor_of op.code)

-- request N6: the area with and without lock bytes; question 9 with the statuses that there were
abbrev pub length_in : Past → ℕ → ℕ
length_in past room = cond past.locks (area_length room) (older_length room)

abbrev pub view_in : Past → ℕ → List ℕ → State
view_in past room s = cond past.locks (view room s) (older_view room s)

abbrev pub layout_in : Past → State → List ℕ
layout_in past b = cond past.locks (layout b) (older_layout b)

abbrev pub statuses_in : Past → State → Bool
statuses_in past b = all (λ s. leb s past.status) b.status

abbrev pub formed_in : Past → ℕ → Config → State → Bool
formed_in past room config b =
    statuses_in past b && cond past.locks (well_formed room config b) (older_formed room config b)

-- document 01, 'State area': making a fresh state
abbrev pub fresh_answer_in : Past → ℕ → Loaded → List ℕ → ℕ
fresh_answer_in past room l area = or_else l.answer (Q.ask 7 (eqb (length area) (length_in past room)) 0)

abbrev pub fresh_after_in : Past → ℕ → ℕ → Config → List ℕ → List ℕ
fresh_after_in past room zero config area = layout_in past (fresh room config)
fresh_after_in past room (suc n) config area = area

unfoldable pub fresh_in : Past → List ℕ → List ℕ → ℕ × List ℕ
fresh_in past file area =
    let l = load_in past file in
    let room = records l.config in
    (fresh_answer_in past room l area, fresh_after_in past room (fresh_answer_in past room l area) l.config area)

-- document 01, 'What the gate covers': one operation call
abbrev pub verdict_in : Past → ℕ → Config → Parsed → List ℕ → List ℕ → ℕ
verdict_in past room config r area answer =
    Q.ask 7 (eqb (length area) (length_in past room))
    (Q.ask 8 (leb answer_bytes (length answer))
    (Q.ask 9 (formed_in past room config (view_in past room area))
    (or_else r.0 (judged_in past config r.1 (view_in past room area)))))

abbrev pub outcome_in : Past → ℕ → ℕ → Config → Operation → List ℕ → List ℕ → Outcome
outcome_in past room zero config op area answer = (
  0,
  layout_in past (applied config op (view_in past room area)),
  answered op (family_of op.code) (view_in past room area) answer,
)
outcome_in past room (suc n) config op area answer = (suc n, area, answer)

abbrev pub operated_in : Past → ℕ → Loaded → Parsed → List ℕ → List ℕ → Outcome
operated_in past room l r area answer =
    outcome_in past room (or_else l.answer (verdict_in past room l.config r area answer)) l.config r.1 area
    answer

unfoldable pub operate_in : Past → List ℕ → List ℕ → List ℕ → List ℕ → Outcome
operate_in past file area bytes answer =
    operated_in past (records (load_in past file).config) (load_in past file) (reading_in past bytes) area answer

-- document 01, 'Lists of calls, and runs': the answers of a list of calls, and the area after it
abbrev pub answers_in : Past → List ℕ → List ℕ → List Call → List ℕ
answers_in past file area [] = []
answers_in past file area (c ∷ cs) =
    (operate_in past file area c.bytes c.answer).0
    ∷ answers_in past file (operate_in past file area c.bytes c.answer).1 cs

abbrev pub area_in : Past → List ℕ → List ℕ → List Call → List ℕ
area_in past file area [] = area
area_in past file area (c ∷ cs) = area_in past file (operate_in past file area c.bytes c.answer).1 cs

-- request N6: an older area becomes a new one by sixteen zeros at its end
abbrev pub carried : Past → List ℕ → List ℕ
carried past area = cond past.locks area (area ++ no_locks)

-- the calls of a list whose operation could be read, and their answers
abbrev pub keep : {A : Type 0} → Bool → A → List A → List A
keep true a l = a ∷ l
keep false a l = l

abbrev pub readable : Past → List Call → List Call
readable past [] = []
readable past (c ∷ cs) = keep (eqb (reading_in past c.bytes).0 0) c (readable past cs)

abbrev pub answers_read : Past → List Call → List ℕ → List ℕ
answers_read past [] ns = []
answers_read past (c ∷ cs) [] = []
answers_read past (c ∷ cs) (n ∷ ns) = keep (eqb (reading_in past c.bytes).0 0) n (answers_read past cs ns)
