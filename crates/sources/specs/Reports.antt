-- Document 01, 'Lists of calls, and runs': what devices do between two calls, told to the gate by calls of codes 2 and
-- 4. A trace (document 01: run) that is told transfer by transfer is a list of calls, and demand 3 holds of calls and
-- transfers in any order, as long as the gate is told of what is written into transfer descriptors.
use Rattle.std.specs.Prelude.{ℕ, ◌≤◌, ◌≡◌, List, [], ◌∷◌, ◌++◌, Bool, true, false, length, eqb}
use Rattle.model.specs.Number.{bytes_of}
use Rattle.model.specs.Config.{kind_of, descriptor}
use Rattle.model.specs.State.{content_bytes, State, with_content, device_in, object_in, content_of, window, layout}
use Rattle.model.specs.Operation.{object_at, second_at, form_at, read_operation}
use Rattle.model.specs.Effect.{answer_bytes}
use Rattle.sources.specs.Gate.{Source, config_of, file_source, fresh_on, operate_on}
use Rattle.model.specs.Trace.{Transfer, Described, Traces, after}
use Rattle.model.specs.Separation.{Call, after_call, Hardcoded, Contained}
use Rattle.sources.specs.Separation.{area_after, initial, final, Separated}
use Rattle.model.specs.declared.Config.{Config}
use Rattle.model.specs.declared.Operation.{Operation}

-- document 01, 'Operation records', code 2: a device's write of one item, into the object that was written; for kind 1
-- the value number that was put there, otherwise the sixteen bytes
pub record ReportsWrite (config : Config) (t : Transfer) (op : Operation) : Type 0 where
  pub code : op.code ≡ 2
  pub device : op.subject ≡ t.device
  pub one : op.count ≡ 1
  pub object : object_at op 0 ≡ t.object
  pub value : kind_of config t.object ≡ 1 → (form_at op 0 ≡ 0) × (second_at op 0 ≡ t.entry.value)
  pub bytes : (kind_of config t.object ≡ 1 → ⊥) → (form_at op 0 ≡ 1) × (window content_bytes op.raw ≡ t.bytes)

-- document 01, 'Operation records', code 4: a device's read of one object, with destination 0
pub record ReportsRead (t : Transfer) (op : Operation) : Type 0 where
  pub code : op.code ≡ 4
  pub device : op.subject ≡ t.device
  pub one : op.count ≡ 1
  pub object : object_at op 0 ≡ t.object
  pub nowhere : second_at op 0 ≡ 0

-- document 01, 'Operation records': the operation that tells of a transfer, which is a write or not
abbrev pub Reports : Bool → Config → Transfer → Operation → Type 0
Reports true config t op = ReportsWrite config t op
Reports false config t op = ReportsRead t op

-- a call that tells of a transfer: its bytes read as that operation (question 10), whatever bytes they are, and its
-- answer area is long enough (question 8)
pub record Tells (config : Config) (t : Transfer) (c : Call) : Type 0 where
  pub readable : (read_operation c.bytes).0 ≡ 0
  pub reports : Reports t.writing config t (read_operation c.bytes).1
  pub roomy : answer_bytes ≤ length c.answer

-- document 01, 'Operation records': bytes that tell of a transfer: code, device, a count of 1, the object; then, for a
-- write, form 0 and the value number, or form 1 and the sixteen bytes; for a read, destination 0
abbrev pub report_code : Bool → ℕ
report_code true = 2
report_code false = 4

abbrev pub report_end : Bool → Bool → Transfer → List ℕ
report_end true true t = bytes_of 0 ++ bytes_of t.entry.value
report_end true false t = bytes_of 1 ++ t.bytes
report_end false one t = bytes_of 0

abbrev pub report_bytes : Config → Transfer → List ℕ
report_bytes config t =
    bytes_of (report_code t.writing) ++ (bytes_of t.device ++ (bytes_of 1 ++ (bytes_of t.object
    ++ report_end t.writing (eqb (kind_of config t.object) 1) t)))

-- every transfer that a device can make after a list of calls from a fresh state can be told by them
abbrev pub ReportReadableOn : Source → Type 0
ReportReadableOn source =
    (area : List ℕ) → (fresh_on source area).0 ≡ 0 → (calls : List Call) (t : Transfer)
    → Described (config_of source) (final source (fresh_on source area).1 calls) t
    → (answer : List ℕ) → answer_bytes ≤ length answer
    → Tells (config_of source) t (record { bytes = report_bytes (config_of source) t; answer = answer })

abbrev pub ReportReadable : Type 0
ReportReadable = (file : List ℕ) → ReportReadableOn (file_source file)

-- a call that tells of a transfer, on an area of state b, is accepted, the plain book after it is the state after the
-- transfer, and the area shows it
pub record Booked (source : Source) (area : List ℕ) (b : State) (t : Transfer) (c : Call) : Type 0 where
  pub accepted : (operate_on source area c.bytes c.answer).0 ≡ 0
  pub book : after_call (config_of source) b c.bytes (operate_on source area c.bytes c.answer).0
      ≡ after (config_of source) b t
  pub shown : (operate_on source area c.bytes c.answer).1 ≡ layout (after (config_of source) b t)

-- for every list of calls from a fresh state, every transfer that a device can then make, and every call that tells of
-- it
abbrev pub ReportAcceptedOn : Source → Type 0
ReportAcceptedOn source =
    (area : List ℕ) → (fresh_on source area).0 ≡ 0 → (calls : List Call) (t : Transfer)
    → Described (config_of source) (final source (fresh_on source area).1 calls) t
    → (c : Call) → Tells (config_of source) t c
    → Booked source (area_after source (fresh_on source area).1 calls) (final source (fresh_on source area).1 calls)
    t c

abbrev pub ReportAccepted : Type 0
ReportAccepted = (file : List ℕ) → ReportAcceptedOn (file_source file)

-- document 01, 'Lists of calls, and runs': what happens at a line, one after the other
pub data Event : Type 0 where
  -- a call
  called : Call → Event
  -- a transfer, and the call that tells of it before anything else happens
  told : Transfer → Call → Event
  -- a transfer of which no call tells
  untold : Transfer → Event

-- the calls among them
abbrev pub calls_in : List Event → List Call
calls_in [] = []
calls_in (called c ∷ es) = c ∷ calls_in es
calls_in (told t c ∷ es) = c ∷ calls_in es
calls_in (untold t ∷ es) = calls_in es

-- the area that a call leaves
abbrev pub left : Source → List ℕ → Call → List ℕ
left source area c = (operate_on source area c.bytes c.answer).1

-- what the line does at a call that is answered so: what its operation says, at answer 0
abbrev pub followed : Source → List ℕ → State → Call → State
followed source area m c =
    after_call (config_of source) m c.bytes (operate_on source area c.bytes c.answer).0

-- what the line's objects hold, and where everything is, after all that happened; m is what they held before, and the
-- gate keeps the area. A transfer changes what the line holds, the call that tells of it the area alone
abbrev pub line_after : Source → List ℕ → State → List Event → State
line_after source area m [] = m
line_after source area m (called c ∷ es) = line_after source (left source area c) (followed source area m c) es
line_after source area m (told t c ∷ es) = line_after source (left source area c) (after (config_of source) m t) es
line_after source area m (untold t ∷ es) = line_after source area (after (config_of source) m t) es

-- a transfer that is no write into a transfer descriptor
abbrev pub Harmless : Config → Transfer → Type 0
Harmless config t = t.writing ≡ true → kind_of config t.object ≡ 1 → ⊥

-- what can happen: each transfer is described at its moment, by what the line holds; each write into a transfer
-- descriptor is told
abbrev pub Happens : Source → List ℕ → State → List Event → Type 0
Happens source area m [] = Unit {0}
Happens source area m (called c ∷ es) = Happens source (left source area c) (followed source area m c) es
Happens source area m (told t c ∷ es) =
    Described (config_of source) m t × Tells (config_of source) t c
    × Happens source (left source area c) (after (config_of source) m t) es
Happens source area m (untold t ∷ es) =
    Described (config_of source) m t × Harmless (config_of source) t
    × Happens source area (after (config_of source) m t) es

-- document 01, 'Lists of calls, and runs': a transfer touches an object that is in its device's partition, and no
-- hardcoded descriptor
abbrev pub Inside : Config → State → Transfer → Type 0
Inside config m t = (object_in m t.object ≡ device_in m t.device) × (kind_of config t.object ≡ 4 → ⊥)

-- so does each transfer that happened; and each call that tells of one was answered 0
abbrev pub EachEvent : Source → List ℕ → State → List Event → Type 0
EachEvent source area m [] = Unit {0}
EachEvent source area m (called c ∷ es) = EachEvent source (left source area c) (followed source area m c) es
EachEvent source area m (told t c ∷ es) =
    Inside (config_of source) m t × ((operate_on source area c.bytes c.answer).0 ≡ 0)
    × EachEvent source (left source area c) (after (config_of source) m t) es
EachEvent source area m (untold t ∷ es) =
    Inside (config_of source) m t × EachEvent source area (after (config_of source) m t) es

-- the line and the plain book differ at most in what objects of kinds 2 and 3 hold
pub record Agrees (config : Config) (m b : State) : Type 0 where
  pub columns : m ≡ with_content b m.content
  pub descriptors : (n : ℕ) → descriptor config n ≡ true → content_of m n ≡ content_of b n

-- everything that happened was told
abbrev pub AllTold : List Event → Type 0
AllTold [] = Unit {0}
AllTold (called c ∷ es) = AllTold es
AllTold (told t c ∷ es) = AllTold es
AllTold (untold t ∷ es) = ⊥

-- what holds after all that happened, from a fresh state on
pub record RunReported (source : Source) (area : List ℕ) (events : List Event) : Type 0 where
  pub each : EachEvent source area (initial source) events
  -- demand 3 of the calls: the area shows the plain book, what came into a partition was cleared, ..
  pub separated : Separated source area (calls_in events)
  -- the line agrees with that book, and is as the book says if all was told; hardcoded descriptors hold the file's
  -- value
  pub agrees : Agrees (config_of source) (line_after source area (initial source) events)
      (final source area (calls_in events))
  pub exact : AllTold events → line_after source area (initial source) events ≡ final source area (calls_in events)
  pub hardcoded : Hardcoded (config_of source) (line_after source area (initial source) events)
  -- every trace from there stays within its devices' partitions
  pub contained : (trace : List Transfer)
      → Traces (config_of source) (line_after source area (initial source) events) trace
      → Contained (config_of source) (line_after source area (initial source) events) trace

-- demand 3 of calls and of transfers between them
abbrev pub ReportedRunOn : Source → Type 0
ReportedRunOn source =
    (area : List ℕ) → (fresh_on source area).0 ≡ 0 → (events : List Event)
    → Happens source (fresh_on source area).1 (initial source) events
    → RunReported source (fresh_on source area).1 events

abbrev pub ReportedRun : Type 0
ReportedRun = (file : List ℕ) → ReportedRunOn (file_source file)
