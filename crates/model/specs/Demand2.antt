-- Demand 2, said of a whole operation call: for every file, state area, operation and answer area, whatever their
-- length and content. When it is accepted; and when it is refused for what devices could come to do (document 01:
-- reach), or for the rule of a green zone.
use Rattle.std.specs.Prelude.{ℕ, ◌≤◌, ◌<◌, ◌≡◌, ◌↔◌, ◌⊎◌, true, false, length}
use mathlib.Core.List.{List, Memᴰ}
use Rattle.model.specs.Config.{kind_of, hardcoded_of, descriptor, Entry, writes, entries}
use Rattle.model.specs.ConfigFile.{load}
use Rattle.model.specs.FileQuestions.{FileYes}
use Rattle.model.specs.State.{
  State,
  driver_in,
  object_in,
  lock_of,
  held,
  green,
  records,
  area_length,
  view,
  well_formed,
}
use Rattle.model.specs.Closure.{active, Reads, crosses}
use Rattle.model.specs.Operation.{family_of, actor_of, lock_code, unlock_code, object_at, second_at, read_operation}
use Rattle.model.specs.Effect.{answer_bytes, concerned}
use Rattle.model.specs.Questions.{q11, q12, q13, q14, q15, q16, q17, q18, q19, q20, q21, q22, q23}
use Rattle.model.specs.Gate.{applied, operate}
use Rattle.model.specs.declared.Config.{Config}
use Rattle.model.specs.declared.Family.{Family}
use Rattle.model.specs.declared.Family.TheVariants.{
  Write,
  Copy,
  Create,
  Destroy,
  Activate,
  Deactivate,
  Lock,
  Unlock,
}
use Rattle.model.specs.declared.Actor.{Actor}
use Rattle.model.specs.declared.Operation.{Operation}

-- what a call speaks of: the configuration of its file, its operation with family and actor, and the state of its area
abbrev pub config_in : List ℕ → Config
config_in file = (load file).config

abbrev pub operation_in : List ℕ → Operation
operation_in bytes = (read_operation bytes).1

abbrev pub family_in : List ℕ → Family
family_in bytes = family_of (operation_in bytes).code

abbrev pub actor_in : List ℕ → Actor
actor_in bytes = actor_of (operation_in bytes).code

abbrev pub state_in : List ℕ → List ℕ → State
state_in file area = view (records (config_in file)) area

-- document 01, 'The questions': the file meets 1 to 6, and each of 7 to 10 is a yes
pub record Upto10 (file area bytes answer : List ℕ) : Type 0 where
  pub y1_6 : FileYes file
  pub y7 : length area ≡ area_length (records (config_in file))
  pub y8 : answer_bytes ≤ length answer
  pub y9 : well_formed (records (config_in file)) (config_in file) (state_in file area) ≡ true
  pub y10 : (read_operation bytes).0 ≡ 0

-- document 01, 'The questions', and document 02, N6: each of 11 to 18 is a yes too, and 23, which is asked after 16
pub record Upto18 (file area bytes answer : List ℕ) : Type 0 where
  pub y1_10 : Upto10 file area bytes answer
  pub y11 : q11 (config_in file) (operation_in bytes) (family_in bytes) (actor_in bytes) ≡ true
  pub y12 : q12 (operation_in bytes) (family_in bytes) ≡ true
  pub y13 : q13 (config_in file) (operation_in bytes) (family_in bytes) ≡ true
  pub y14 : q14 (state_in file area) (operation_in bytes) (family_in bytes) (actor_in bytes) ≡ true
  pub y15 : q15 (state_in file area) (operation_in bytes) (family_in bytes) ≡ true
  pub y16 : q16 (state_in file area) (operation_in bytes) (family_in bytes) (actor_in bytes) ≡ true
  pub y23 : q23 (state_in file area) (operation_in bytes) (family_in bytes) (actor_in bytes) ≡ true
  pub y17 : q17 (state_in file area) (operation_in bytes) (family_in bytes) (actor_in bytes) ≡ true
  pub y18 : q18 (config_in file) (state_in file area) (operation_in bytes) (family_in bytes) (actor_in bytes) ≡ true

-- document 01, 'The questions', and document 02, N4 to N6: each of the twenty-three is a yes
pub record AllYes (file area bytes answer : List ℕ) : Type 0 where
  pub y1_18 : Upto18 file area bytes answer
  pub y19 : q19 (config_in file) (state_in file area) (operation_in bytes) (family_in bytes) (actor_in bytes) ≡ true
  pub y20 : q20 (config_in file) (state_in file area) (operation_in bytes) (family_in bytes) (actor_in bytes) ≡ true
  pub y22 : q22 (config_in file) (state_in file area) (operation_in bytes) (family_in bytes) (actor_in bytes) ≡ true
  pub y21 : q21 (config_in file) (state_in file area) (operation_in bytes) (family_in bytes) (actor_in bytes) ≡ true

-- document 01, 'The questions': 0 is accepted
abbrev pub Acceptance : Type 0
Acceptance =
    (file area bytes answer : List ℕ) → ((operate file area bytes answer).0 ≡ 0) ↔ AllYes file area bytes answer

-- question 19, codes 1 and 3: a write or read of a driver
abbrev pub ByDriver : Operation → Type 0
ByDriver op = (op.code ≡ 1) ⊎ (op.code ≡ 3)

-- document 02, N5: the zone of the driver at work, before the call
abbrev pub drivers_zone : State → Operation → ℕ
drivers_zone b op = driver_in b op.subject

-- document 01, 'Reach': an active device, a pair that it reads by the rules, and an entry of it that crosses (document
-- 01: is outside)
abbrev pub SomeCrosses : Config → State → Type 0
SomeCrosses config b =
    (c o v : ℕ) × (e : Entry) × (active b c ≡ true) × Reads config true b c o v × Memᴰ e (entries config v)
    × (crosses config b c e ≡ true)

-- demand 2, question 19: with 1 to 18 a yes, outside green zones, exactly if there is one in the state that would
-- follow
abbrev pub Refusal19 : Type 0
Refusal19 =
    (file area bytes answer : List ℕ) → Upto18 file area bytes answer → ByDriver (operation_in bytes)
    → green (state_in file area) (drivers_zone (state_in file area) (operation_in bytes)) ≡ false
    → ((operate file area bytes answer).0 ≡ 19)
    ↔ SomeCrosses (config_in file) (applied (config_in file) (operation_in bytes) (state_in file area))

-- question 20, codes 10 to 12: a deactivation
abbrev pub Leaving : Operation → Type 0
Leaving op = (op.code ≡ 10) ⊎ ((op.code ≡ 11) ⊎ (op.code ≡ 12))

-- question 20: an active device, in code 11 another one, a pair that it reads by the rules, and an entry of it that
-- names an object concerned
abbrev pub SomeNames : Config → State → Operation → Type 0
SomeNames config b op =
    (c o v : ℕ) × (e : Entry) × (active b c ≡ true) × (op.code ≡ 11 → c ≡ op.subject → ⊥)
    × Reads config true b c o v × Memᴰ e (entries config v)
    × (concerned config op (actor_of op.code) e.object ≡ true)

-- document 02, N5, question 20: a descriptor that stays in a green zone, and an entry of the value that it holds which
-- names an object that leaves this zone
abbrev pub SomeClings : Config → State → Operation → Type 0
SomeClings config b op =
    (n : ℕ) × (e : Entry) × (descriptor config n ≡ true) × (green b (object_in b n) ≡ true)
    × (concerned config op (actor_of op.code) n ≡ false) × Memᴰ e (entries config (held b n))
    × (concerned config op (actor_of op.code) e.object ≡ true) × (object_in b e.object ≡ object_in b n)

-- demand 2, question 20: with 1 to 18 a yes, exactly if there is one of either in the state before the call
abbrev pub Refusal20 : Type 0
Refusal20 =
    (file area bytes answer : List ℕ) → Upto18 file area bytes answer → Leaving (operation_in bytes)
    → ((operate file area bytes answer).0 ≡ 20)
    ↔ (SomeNames (config_in file) (state_in file area) (operation_in bytes)
    ⊎ SomeClings (config_in file) (state_in file area) (operation_in bytes))

-- document 02, N5, question 22: item i stores value v into an object of kind 1; a copy stores what its source holds
-- before the call
abbrev pub StoresValue : Config → State → Operation → Family → ℕ → ℕ → Type 0
StoresValue config b op Write i v = (kind_of config (object_at op i) ≡ 1) × (second_at op i ≡ v)
StoresValue config b op Copy i v =
    (second_at op i ≡ 0 → ⊥) × (kind_of config (second_at op i) ≡ 1) × (held b (object_at op i) ≡ v)
StoresValue config b op Create i v = ⊥
StoresValue config b op Destroy i v = ⊥
StoresValue config b op Activate i v = ⊥
StoresValue config b op Deactivate i v = ⊥
StoresValue config b op Lock i v = ⊥
StoresValue config b op Unlock i v = ⊥

-- document 02, N5, question 22: an entry writes an object of kind 1; and it breaks the rule of green zone p: what it
-- names is elsewhere, is of kind 4, or is of kind 1 and written
abbrev pub WritesDescriptor : Config → Entry → Type 0
WritesDescriptor config e = (kind_of config e.object ≡ 1) × (writes e ≡ true)

abbrev pub BreaksRule : Config → State → ℕ → Entry → Type 0
BreaksRule config b p e =
    (object_in b e.object ≡ p → ⊥) ⊎ ((kind_of config e.object ≡ 4) ⊎ WritesDescriptor config e)

-- document 02, N5, question 22: some value that is stored has an entry that breaks the rule of the driver's zone
abbrev pub SomeBreaks : Config → State → Operation → Family → Type 0
SomeBreaks config b op f =
    (i v : ℕ) × (e : Entry) × (i < op.count) × StoresValue config b op f i v × Memᴰ e (entries config v)
    × BreaksRule config b (drivers_zone b op) e

-- demand 2, question 22: with 1 to 18 a yes, in a green zone, exactly if there is one; and never 19 there
abbrev pub Refusal22 : Type 0
Refusal22 =
    (file area bytes answer : List ℕ) → Upto18 file area bytes answer → ByDriver (operation_in bytes)
    → green (state_in file area) (drivers_zone (state_in file area) (operation_in bytes)) ≡ true
    → (((operate file area bytes answer).0 ≡ 22)
    ↔ SomeBreaks (config_in file) (state_in file area) (operation_in bytes) (family_in bytes))
    × ((operate file area bytes answer).0 ≡ 19 → ⊥)

-- document 02, N4, question 21, code 8: a device (document 01: card) is brought in
abbrev pub Entering : Operation → Type 0
Entering op = op.code ≡ 8

-- document 02, N5, question 22: the hardcoded value of the device that comes in has an entry that writes kind 1
abbrev pub RingEnters : Config → Operation → Type 0
RingEnters config op =
    (e : Entry) × Memᴰ e (entries config (hardcoded_of config op.subject)) × WritesDescriptor config e

-- demand 2, question 22: with 1 to 18 and 23 a yes, exactly if it is to come into a green zone
abbrev pub Entering22 : Type 0
Entering22 =
    (file area bytes answer : List ℕ) → Upto18 file area bytes answer → Entering (operation_in bytes)
    → ((operate file area bytes answer).0 ≡ 22)
    ↔ ((green (state_in file area) (operation_in bytes).partition ≡ true)
    × RingEnters (config_in file) (operation_in bytes))

-- demand 2, question 21: with 1 to 18, 23 and 22 a yes, exactly if some entry crosses in the state that would follow,
-- whichever active device's it is
abbrev pub Refusal21 : Type 0
Refusal21 =
    (file area bytes answer : List ℕ) → Upto18 file area bytes answer → Entering (operation_in bytes)
    → q22 (config_in file) (state_in file area) (operation_in bytes) (family_in bytes) (actor_in bytes) ≡ true
    → ((operate file area bytes answer).0 ≡ 21)
    ↔ SomeCrosses (config_in file) (applied (config_in file) (operation_in bytes) (state_in file area))

-- document 02, N6, codes 14 and 15: a device is locked, or unlocked
abbrev pub Locking : Operation → Type 0
Locking op = op.code ≡ lock_code

abbrev pub Unlocking : Operation → Type 0
Unlocking op = op.code ≡ unlock_code

-- demand 2, question 23: with 1 to 11, 14 and 16 a yes, codes 8 and 14 are refused exactly if the device's lock is 1,
-- and code 15 exactly if it is 0
abbrev pub Refusal23 : Type 0
Refusal23 =
    (file area bytes answer : List ℕ) → Upto10 file area bytes answer
    → q11 (config_in file) (operation_in bytes) (family_in bytes) (actor_in bytes) ≡ true
    → q14 (state_in file area) (operation_in bytes) (family_in bytes) (actor_in bytes) ≡ true
    → q16 (state_in file area) (operation_in bytes) (family_in bytes) (actor_in bytes) ≡ true
    → (Entering (operation_in bytes) ⊎ Locking (operation_in bytes)
    → ((operate file area bytes answer).0 ≡ 23) ↔ (lock_of (state_in file area) (operation_in bytes).subject ≡ 1))
    × (Unlocking (operation_in bytes)
    → ((operate file area bytes answer).0 ≡ 23) ↔ (lock_of (state_in file area) (operation_in bytes).subject ≡ 0))

-- demand 2 as one statement; what an accepted call leaves is `operate`'s own definition (Gate)
pub record Demand2 : Type 0 where
  pub accepted : Acceptance
  pub refused_19 : Refusal19
  pub refused_20 : Refusal20
  pub refused_22 : Refusal22
  pub entering_22 : Entering22
  pub refused_21 : Refusal21
  pub refused_23 : Refusal23
