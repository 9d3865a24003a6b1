-- Document 01, question 18, in its own words and over a whole call: 'is each transfer described now, by an entry of its
-- mode in a descriptor that the card reads with today's values'.
use Rattle.std.specs.Prelude.{ℕ, ◌<◌, ◌≡◌, ◌↔◌, ◌⊎◌, true}
use mathlib.Core.List.{List, Memᴰ}
use Rattle.model.specs.Config.{kind_of, Entry, reads, writes, entries}
use Rattle.model.specs.State.{State, held, view}
use Rattle.model.specs.Operation.{object_at, second_at, read_operation}
use Rattle.sources.specs.Gate.{Source, config_of, file_source, operate_on}
use Rattle.model.specs.Trace.{CanRead}
use Rattle.sources.specs.FirstNo.{EachYes, before, call_questions}
use Rattle.model.specs.declared.Config.{Config}
use Rattle.model.specs.declared.Operation.{Operation}

-- question 18: an entry of mode 1 or 3 for object n in a descriptor that device c can read today
pub record ReadNow (config : Config) (b : State) (c n : ℕ) : Type 0 where
  pub descriptor : ℕ
  pub entry : Entry
  pub readable : CanRead config b c descriptor
  pub listed : Memᴰ entry (entries config (held b descriptor))
  pub named : entry.object ≡ n
  pub mode : reads entry ≡ true

-- question 18: an entry of mode 2 or 3, 'the put value equal for kind 1'
pub record WriteNow (config : Config) (b : State) (c n v : ℕ) : Type 0 where
  pub descriptor : ℕ
  pub entry : Entry
  pub readable : CanRead config b c descriptor
  pub listed : Memᴰ entry (entries config (held b descriptor))
  pub named : entry.object ≡ n
  pub mode : writes entry ≡ true
  pub stored : kind_of config n ≡ 1 → entry.value ≡ v

-- question 18, code 2: an item that is not described now; code 4: a source that is not, or a destination into which the
-- value that the source holds may not be written now
abbrev pub Undescribed : Config → State → Operation → ℕ → Type 0
Undescribed config b op i =
    ((op.code ≡ 2) × (WriteNow config b op.subject (object_at op i) (second_at op i) → ⊥))
    ⊎ ((op.code ≡ 4)
    × ((ReadNow config b op.subject (object_at op i) → ⊥)
    ⊎ ((second_at op i ≡ 0 → ⊥) × (WriteNow config b op.subject (second_at op i) (held b (object_at op i)) → ⊥))))

-- demand 2, question 18: exactly if each question before it is a yes and some transfer is not described now; so codes
-- other than 2 and 4 are never refused by 18
abbrev pub Refusal18On : Source → Type 0
Refusal18On source =
    source.loaded.answer ≡ 0 → (area bytes answer : List ℕ)
    → ((operate_on source area bytes answer).0 ≡ 18)
    ↔ (EachYes (before 18 (call_questions source area bytes answer))
    × ((i : ℕ) × (i < (read_operation bytes).1.count)
    × Undescribed (config_of source) (view source.room area) (read_operation bytes).1 i))

abbrev pub Refusal18 : Type 0
Refusal18 = (file : List ℕ) → Refusal18On (file_source file)
