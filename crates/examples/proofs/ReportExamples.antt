-- A write into a transfer descriptor that was not told, computed: what the line holds, and what it lets the device do.
use Prim.Native.Nat.{ℕ}
use mathlib.Core.Path.{◌≡◌, refl, sym, ap, ◌∙◌, subst}
use mathlib.Core.List.{List, [], ◌∷◌, Memᴰ}
use mathlib.Core.Bool.{true, not}
use native.Mathlib.Omega.{arith}
use lib.ListN.{get_or}
use lib.Dec.{eqb}
use Rattle.model.specs.Config.{descriptor, hardcoded_to, Entry, entries}
use Rattle.model.specs.State.{State, device_in, object_in, held}
use Rattle.sources.specs.Gate.{config_of, operate_on}
use Rattle.model.specs.Trace.{CanRead, own, next}
use Rattle.sources.specs.Separation.{answers_of}
use Rattle.model.specs.Examples.{fresh_of, session_of}
use Rattle.sources.specs.Reports.{calls_in}
use Rattle.examples.specs.ReportExamples.{file_x, line_x, entry_of, events_x, at_first, at_last, NotTold}
use Rattle.model.specs.declared.Config.{Config}
use Rattle.model.proofs.Lists.{both_true}

-- what a line shows of objects 1 to 3, of the partitions of device 1 and of objects 1 to 4
shown : State → List ℕ
shown m =
    held m 1 ∷ held m 2 ∷ held m 3 ∷ device_in m 1 ∷ object_in m 1 ∷ object_in m 2 ∷ object_in m 3 ∷ object_in m 4 ∷ []

first-shown : shown at_first ≡ 1 ∷ 2 ∷ 0 ∷ 1 ∷ 1 ∷ 1 ∷ 1 ∷ 0 ∷ []
unfolding session_of operate_on shown
first-shown = refl

last-shown : shown at_last ≡ 1 ∷ 4 ∷ 3 ∷ 1 ∷ 1 ∷ 1 ∷ 1 ∷ 0 ∷ []
unfolding session_of operate_on shown
last-shown = refl

answered : answers_of line_x (fresh_of file_x) (calls_in events_x) ≡ 0 ∷ 0 ∷ 0 ∷ 0 ∷ 0 ∷ []
unfolding session_of operate_on
answered = refl

-- the line of file_x
abbrev config : Config
config = config_of line_x

hardwired : hardcoded_to config 1 1 ≡ true
unfolding session_of
hardwired = refl

two : descriptor config 2 ≡ true
unfolding session_of
two = refl

three : descriptor config 3 ≡ true
unfolding session_of
three = refl

value_1 : Memᴰ (entry_of 2 1 0) (entries config 1)
unfolding session_of
value_1 = Memᴰ.head refl

value_2 : Memᴰ (entry_of 3 2 3) (entries config 2)
unfolding session_of
value_2 = Memᴰ.head refl

value_3 : Memᴰ (entry_of 4 2 0) (entries config 3)
unfolding session_of
value_3 = Memᴰ.head refl

value_4 : Memᴰ (entry_of 3 1 0) (entries config 4)
unfolding session_of
value_4 = Memᴰ.head refl

-- what a device can read, by what is shown
module _ (m : State) (a b c p : ℕ) (e : shown m ≡ a ∷ b ∷ c ∷ 1 ∷ 1 ∷ 1 ∷ 1 ∷ p ∷ []) where
  at : (i : ℕ) → get_or (shown m) i 0 ≡ get_or (a ∷ b ∷ c ∷ 1 ∷ 1 ∷ 1 ∷ 1 ∷ p ∷ []) i 0
  at i = ap (λ (l : List ℕ). get_or l i 0) e

  one-held : held m 1 ≡ a
  unfolding shown
  one-held = at 0

  two_held : held m 2 ≡ b
  unfolding shown
  two_held = at 1

  three-held : held m 3 ≡ c
  unfolding shown
  three-held = at 2

  device_in_lem : device_in m 1 ≡ 1
  unfolding shown
  device_in_lem = at 3

  two_in : object_in m 2 ≡ 1
  unfolding shown
  two_in = at 5

  three_in : object_in m 3 ≡ 1
  unfolding shown
  three_in = at 6

  four_in : object_in m 4 ≡ p
  unfolding shown
  four_in = at 7

  some : (n : ℕ) → n ≡ 1 → not (eqb n 0) ≡ true
  some n h = rw h refl

  entry_in : (o v : ℕ) {f : Entry} → held m o ≡ v → Memᴰ f (entries config v)
      → Memᴰ f (entries config (held m o))
  entry_in o v {f} h x = subst (λ (w : ℕ). Memᴰ f (entries config w)) (sym h) x

  reads_two : a ≡ 1 → CanRead config m 1 2
  reads_two h =
      next (entry_of 2 1 0) (own (some (device_in m 1) device_in_lem) hardwired)
      (entry_in 1 1 (one-held ∙ h) value_1) refl
      (both_true two (some (object_in m 2) two_in)) refl

  reads_three : a ≡ 1 → b ≡ 4 → CanRead config m 1 3
  reads_three h k =
      next (entry_of 3 1 0) (reads_two h) (entry_in 2 4 (two_held ∙ k) value_4) refl
      (both_true three (some (object_in m 3) three_in)) refl

-- the theorem: the premise that writes into transfer descriptors are told is needed
pub not_told : NotTold
not_told =
    record {
      accepted = answered;
      first = record {
        readable = reads_two at_first 1 2 0 0 first-shown refl;
        listed = entry_in at_first 1 2 0 0 first-shown 2 2 (two_held at_first 1 2 0 0 first-shown) value_2;
        named = refl;
        fits = refl;
        sixteen = refl;
      };
      last = record {
        readable = reads_three at_last 1 4 3 0 last-shown refl refl;
        listed = entry_in at_last 1 4 3 0 last-shown 3 3 (three-held at_last 1 4 3 0 last-shown) value_3;
        named = refl;
        fits = refl;
        sixteen = refl;
      };
      outside = λ q.
          apart (object_in at_last 4) (device_in at_last 1) (four_in at_last 1 4 3 0 last-shown)
          (device_in_lem at_last 1 4 3 0 last-shown) q.0;
    }
  where
    apart : (n m : ℕ) → n ≡ 0 → m ≡ 1 → n ≡ m → ⊥
    apart n m x y z = omega arith
