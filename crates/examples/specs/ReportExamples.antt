-- Document 01, 'Lists of calls, and runs': a write into a transfer descriptor of which the gate is not told. Every call
-- is accepted, and then a device writes an object that is in no partition.
use Rattle.std.specs.Prelude.{ℕ, ◌≡◌, List, [], ◌∷◌, ◌++◌, true}
use Rattle.model.specs.Config.{Entry}
use Rattle.model.specs.State.{State, cleared}
use Rattle.sources.specs.Gate.{Source, config_of, file_source}
use Rattle.model.specs.Trace.{Transfer, Described}
use Rattle.sources.specs.Separation.{answers_of, initial}
use Rattle.sources.specs.Reports.{Event, called, untold, calls_in, line_after, Inside}
use Rattle.model.specs.Examples.{calling, fresh_of}

-- a device with its hardcoded descriptor 1 and the descriptors 2 and 3, and an object 4 of nobody's; value 1 reads
-- object 2, 2 puts value 3 into object 3, 3 writes object 4, 4 reads object 3
abbrev pub file_x : List ℕ
file_x =
    1 ∷ 1 ∷ 1 ∷ 4 ∷ 4
    ∷ 4 ∷ 2 ∷ 1 ∷ 1 ∷ 2 ∷ 1 ∷ 1 ∷ 2 ∷ 1 ∷ 3 ∷ 0 ∷ 0
    ∷ 1
    ∷ 1 ∷ 2 ∷ 1 ∷ 0 ∷ 1 ∷ 3 ∷ 2 ∷ 3 ∷ 1 ∷ 4 ∷ 2 ∷ 0 ∷ 1 ∷ 3 ∷ 1 ∷ 0 ∷ []

abbrev pub line_x : Source
line_x = file_source file_x

-- partition 1, driver 1 and device 1 in it; object 2 gets value 2, and then value 4
abbrev pub first_calls : List Event
first_calls =
    called (calling (5 ∷ 1 ∷ []))
    ∷ called (calling (7 ∷ 1 ∷ 1 ∷ []))
    ∷ called (calling (8 ∷ 1 ∷ 1 ∷ []))
    ∷ called (calling (1 ∷ 1 ∷ 1 ∷ 2 ∷ 0 ∷ 2 ∷ [])) ∷ []

abbrev pub entry_of : ℕ → ℕ → ℕ → Entry
entry_of o mode v = record { object = o; mode = mode; value = v }

-- device 1 puts value 3 into object 3, and, later, writes object 4
abbrev pub puts_three : Transfer
puts_three =
    record {
      device = 1;
      object = 3;
      writing = true;
      descriptor = 2;
      entry = entry_of 3 2 3;
      bytes = cleared;
    }

abbrev pub writes_four : Transfer
writes_four =
    record {
      device = 1;
      object = 4;
      writing = true;
      descriptor = 3;
      entry = entry_of 4 2 0;
      bytes = cleared;
    }

-- all that happens, and the line when the device writes first and at the end
abbrev pub events_x : List Event
events_x = first_calls ++ (untold puts_three ∷ called (calling (1 ∷ 1 ∷ 1 ∷ 2 ∷ 0 ∷ 4 ∷ [])) ∷ [])

abbrev pub at_first : State
at_first = line_after line_x (fresh_of file_x) (initial line_x) first_calls

abbrev pub at_last : State
at_last = line_after line_x (fresh_of file_x) (initial line_x) events_x

-- each call is accepted, each transfer is described by what the line holds, and the last is not inside
pub record NotTold : Type 0 where
  pub accepted : answers_of line_x (fresh_of file_x) (calls_in events_x) ≡ 0 ∷ 0 ∷ 0 ∷ 0 ∷ 0 ∷ []
  pub first : Described (config_of line_x) at_first puts_three
  pub last : Described (config_of line_x) at_last writes_four
  pub outside : Inside (config_of line_x) at_last writes_four → ⊥
