-- Laws of the file's definitions by cases, in the form in which the readers' proofs cite them.
-- Assumes nothing.
use Prim.Native.Nat.{ℕ, suc, ◌+◌, ◌-◌, ◌<◌, ◌≤◌}
use mathlib.Core.Path.{◌≡◌, refl, sym, subst}
use lib.ListN.{set}
use mathlib.Core.List.{List, [], ◌∷◌}
use mathlib.Core.Bool.{Bool, true, false, cond, ◌&&◌}
use lib.Dec.{leb}
use borrow.Author.Tests.{le-leb, lt-leb, leb-true}
use native.Mathlib.Omega.{arith}
use Rattle.std.specs.Prelude.{Result, Ok, Err}
use Rattle.std.specs.Result.{IfOk}
use Rattle.model.specs.Answers.{reading_of, head_of, number_of}
use Rattle.model.specs.Number.{number_at}
use Rattle.model.specs.Config.{
  most_drivers,
  most_devices,
  most_objects,
  most_values,
  most_edition,
  serial_edition,
  most_serial,
}
use Rattle.model.specs.ConfigFile.{
  num_question,
  ranged,
  field_at,
  field_to,
  on_field,
  Progress,
  read,
  stop,
  on_reading,
  set_count,
  turns,
  done,
  field,
  absent,
  read_row,
  counts_to,
  counts_at,
}
use Rattle.model.specs.Num.{Num, Got, Bad}
use Rattle.model.specs.Field.{Field, Value, No}
use Rattle.model.specs.Head.{Head, Counted, Stopped}
use Rattle.model.specs.declared.Fault.{Fault}
use Rattle.model.specs.declared.Question.{Question}
use Rattle.model.specs.declared.Counts.{Counts}
use Rattle.model.specs.declared.Values.{Values}
use Rattle.model.proofs.Lists.{and_r}
use Rattle.sound.specs.Columns.{Within}
use Rattle.config.specs.Readings.{progress, serial_at}

and-false : (b : Bool) → b && false ≡ false
and-false true = refl
and-false false = refl

-- one field, from what the number reader answered
module _ (s : List ℕ) (at low high : ℕ) where
  pub field_bad : (f : Fault) → Bad f ≡ number_at s at → No (num_question (Bad f)) ≡ field_at s at low high
  unfolding field_to ranged
  field_bad f h = rw (← h)

  module _ (v next : ℕ) (h : Got v next ≡ number_at s at) where
    pub field_low : v < low → No 3 ≡ field_at s at low high
    unfolding field_to ranged
    field_low p = rw (← h, lt-leb low v p)

    pub field_high : high < v → No 3 ≡ field_at s at low high
    unfolding field_to ranged
    field_high p = rw (← h, lt-leb v high p, and-false)

    pub field_value : low ≤ v → v ≤ high → Value v next ≡ field_at s at low high
    unfolding field_to ranged
    field_value p q = rw (← h, le-leb low v p, le-leb v high q)

-- what follows a field, and how far a table is read
pub on_value : {R : Type 0} (halt : ℕ → R) (v next : ℕ) (k : ℕ → ℕ → R) → on_field halt (Value v next) k ≡ k v next
unfolding on_field
on_value halt v next k = refl

pub on_no : {R : Type 0} (halt : ℕ → R) (q : ℕ) (k : ℕ → ℕ → R) → on_field halt (No q) k ≡ halt q
unfolding on_field
on_no halt q k = refl

pub read_is : {T : Type 0} (t : T) (next : ℕ) → read t next ≡ progress (Ok next) t
unfolding read
read_is t next = refl

pub stop_is : {T : Type 0} (t : T) (q : Question) → stop t (number_of q) ≡ progress (Err q) t
unfolding stop
stop_is t q = refl

pub set_count_is : (t : Values) (v n : ℕ) → set_count t v n ≡ record { count = set t.count v n; entries = t.entries }
unfolding set_count
set_count_is t v n = refl

pub ruleset row_laws = (on_value, on_no, read_is, stop_is)

-- a serial is there in a file of an edition that has it, and then is one field
pub serial_none : (s : List ℕ) (edition at : ℕ) → edition < serial_edition → Value 0 at ≡ serial_at s edition at
unfolding serial_at
serial_none s edition at h = rw (lt-leb serial_edition edition h)

pub serial_some : (s : List ℕ) (edition at : ℕ) → serial_edition ≤ edition
    → field_at s at 0 most_serial ≡ serial_at s edition at
unfolding serial_at
serial_some s edition at h = rw (le-leb serial_edition edition h)

pub serial_row : {R : Type 0} (s : List ℕ) (edition at : ℕ) (halt : ℕ → R) (k : List ℕ → ℕ → R)
    → on_field halt (serial_at s edition at) (λ n next. k (n ∷ []) next)
    ≡ read_row s at (cond (leb serial_edition edition) (field 0 most_serial λ serial. done) (absent done)) halt k
unfolding serial_at on_field
serial_row {R} s edition at halt k = go (leb serial_edition edition)
  where
    go : (t : Bool)
        → on_field halt (cond t (field_at s at 0 most_serial) (Value 0 at)) (λ n next. k (n ∷ []) next)
        ≡ read_row s at (cond t (field 0 most_serial λ serial. done) (absent done)) halt k
    go true = refl
    go false = refl

-- the number of a field that is not refused lies in its range
in_range : (low high w p : ℕ) (t : Bool) {v next : ℕ} → (leb low w && leb w high) ≡ t
    → Value v next ≡ cond t (Value w p) (No 3) → v ≤ high
in_range low high w p true {v} {next} h e =
    let z : v ≡ w = cc in
    omega (arith, leb-true w high (and_r (leb low w) (leb w high) h))
in_range low high w p false {v} {next} h e = let z : ◌≡◌ {A = ℕ} 0 1 = cc in omega arith

ranged-most : (low high : ℕ) (n : Num) {v next : ℕ} → Value v next ≡ ranged low high n → v ≤ high
unfolding ranged
ranged-most low high (Got w p) {v} {next} e = in_range low high w p (leb low w && leb w high) refl e
ranged-most low high (Bad f) {v} {next} e = let z : ◌≡◌ {A = ℕ} 0 1 = cc in omega arith

pub field_most : (s : List ℕ) (at low high : ℕ) {v next : ℕ} → Value v next ≡ field_at s at low high → v ≤ high
unfolding field_to
field_most s at low high e = ranged-most low high (number_at s at) e

-- counts that were read are within the columns
abbrev WithinHead : Head → Type 0
WithinHead (Counted n next) = Within n
WithinHead (Stopped q) = Unit {0}

field-within : (s : List ℕ) (at low high : ℕ) (k : ℕ → ℕ → Head) → ((v next : ℕ) → v ≤ high → WithinHead (k v next))
    → WithinHead (on_field Stopped (field_at s at low high) k)
unfolding on_field
field-within s at low high k h = go (field_at s at low high) refl
  where
    go : (f : Field) → f ≡ field_at s at low high → WithinHead (on_field Stopped f k)
    go (Value v next) e = h v next (field_most s at low high e)
    go (No q) e = tt

head_within : (s : List ℕ) → WithinHead (counts_at s)
unfolding counts_to
head_within s =
    field-within s 0 1 most_edition _ λ edition a _.
    field-within s a 0 most_drivers _ λ d b hd.
    field-within s b 0 most_devices _ λ v c hv.
    field-within s c 0 most_objects _ λ n e hn.
    field-within s e 0 most_values _ λ k next hk.
    record { drivers = hd; devices = hv; objects = hn; values = hk }

pub counts_within : (s : List ℕ) (r : Result (Counts × ℕ) Question) → head_of r ≡ counts_at s
    → IfOk r (λ p. Within p.0)
counts_within s (Ok p) e = subst WithinHead (sym e) (head_within s)
counts_within s (Err q) e = tt

-- a loop over the numbers 1 to n, at number o: the turns from there on
unfoldable pub ahead : {T : Type 0} → (ℕ → ℕ → T → Progress T) → ℕ → ℕ → ℕ → T → Progress T
ahead f n o at t = turns f (n + 1 - o) (o - 1) at t

module _ {T : Type 0} (f : ℕ → ℕ → T → Progress T) (n at : ℕ) (t : T) where
  pub ahead_start : ahead f n 1 at t ≡ turns f n 0 at t
  unfolding ahead
  ahead_start =
      let q : n + 1 - 1 ≡ n = omega arith in
      rw q

  pub ahead_end : (o : ℕ) → n + 1 ≤ o → ahead f n o at t ≡ progress (Ok at) t
  unfolding ahead turns read
  ahead_end o last =
      let q : n + 1 - o ≡ 0 = omega arith in
      rw q

  module _ (o : ℕ) (first : 1 ≤ o) (last : o < n + 1) {u : T} where
    ahead_more : (r : Result ℕ Question) → progress r u ≡ f o at t
        → ahead f n o at t ≡ on_reading (stop u) (reading_of r) (λ next. ahead f n (o + 1) next u)
    unfolding ahead turns
    ahead_more r e =
        let q : n + 1 - o ≡ suc (n + 1 - (o + 1)) = omega arith in
        let z : o - 1 + 1 ≡ o = omega arith in
        let y : o + 1 - 1 ≡ o = omega arith in
        rw (q, z, y, ← e)

    pub ahead_go : (next : ℕ) → progress (Ok next) u ≡ f o at t → ahead f n o at t ≡ ahead f n (o + 1) next u
    unfolding on_reading
    ahead_go next e = ahead_more (Ok next) e

    pub ahead_stop : (q : Question) → progress (Err q) u ≡ f o at t → ahead f n o at t ≡ progress (Err q) u
    unfolding on_reading stop
    ahead_stop q e = ahead_more (Err q) e

pub ruleset turn_laws = (ahead_start, ahead_go, ahead_end)

pub ruleset field_laws = (field_bad, field_low, field_high, field_value)

pub ruleset value_laws = (row_laws, turn_laws, field_most, set_count_is)

pub ruleset serial_laws = (serial_none, serial_some, field_most)

pub ruleset entry_laws = (row_laws, field_most)
