-- Questions 1, 2 and 3 of one number of a configuration file: it passes exactly if each is a yes.
use Prim.Native.Nat.{ℕ}
use mathlib.Core.Path.{◌≡◌, refl, sym, ◌∙◌}
use mathlib.Core.List.{List}
use mathlib.Core.Bool.{Bool, true, false, cond, ◌&&◌}
use lib.ListN.{length}
use lib.Dec.{ltb, leb}
use borrow.Author.Tests.{lt-ltb, ltb-true, le-leb, leb-true}
use Rattle.model.specs.Number.{lead, formed, form_to, head_to, number_to}
use Rattle.model.specs.ConfigFile.{ranged, field_at, field_to}
use Rattle.model.specs.FileQuestions.{Asked, rest, size, LastByte, RightForm, InRange}
use Rattle.model.specs.Num.{Got, Bad}
use Rattle.model.specs.declared.Fault.TheVariants.{Cut, Form}
use Rattle.model.specs.Field.{Field}
use Rattle.model.specs.Field.{Value, No}
use Rattle.model.proofs.Lists.{and_l, and_r, both_true}

-- a field that is a number in its range; a number that is one
abbrev pub is_value : Field → Bool
is_value (Value v next) = true
is_value (No q) = false

abbrev pub passes : List ℕ → Asked → Bool
passes s a = is_value (field_at s a.at a.low a.high)

-- it passes exactly if 1, 2 and 3 are a yes
module _ (s : List ℕ) (a : Asked) where
  three_tests : passes s a
      ≡ (ltb (lead (rest s a)) (length (rest s a))
      && (formed (rest s a) (lead (rest s a)) && (leb a.low (size s a) && leb (size s a) a.high)))
  unfolding field_to ranged number_to head_to form_to
  three_tests = go (ltb (lead (rest s a)) (length (rest s a))) (formed (rest s a) (lead (rest s a))) _
    where
      tested : (t : Bool) (v next : ℕ) → is_value (cond t (Value v next) (No 3)) ≡ t
      tested true v next = refl
      tested false v next = refl

      go : (t u : Bool) (next : ℕ)
          → is_value (ranged a.low a.high (cond t (cond u (Got (size s a) next) (Bad Form)) (Bad Cut)))
          ≡ (t && (u && (leb a.low (size s a) && leb (size s a) a.high)))
      go true true next = tested (leb a.low (size s a) && leb (size s a) a.high) (size s a) next
      go true false next = refl
      go false u next = refl

  -- the four tests
  abbrev ends : Bool
  ends = ltb (lead (rest s a)) (length (rest s a))

  abbrev forms : Bool
  forms = formed (rest s a) (lead (rest s a))

  abbrev least : Bool
  least = leb a.low (size s a)

  abbrev most : Bool
  most = leb (size s a) a.high

  pub pass_yes : passes s a ≡ true → LastByte s a × RightForm s a × InRange s a
  pass_yes h =
      let k = sym three_tests ∙ h in
      let r = and_r ends (forms && (least && most)) k in
      let q = and_r forms (least && most) r in (
        ltb-true _ _ (and_l ends (forms && (least && most)) k),
        and_l forms (least && most) r,
        (leb-true _ _ (and_l least most q), leb-true _ _ (and_r least most q)),
      )

  pub yes_pass : LastByte s a → RightForm s a → InRange s a → passes s a ≡ true
  yes_pass h k q =
      three_tests ∙ both_true (lt-ltb _ _ h) (both_true k (both_true (le-leb _ _ q.0) (le-leb _ _ q.1)))
