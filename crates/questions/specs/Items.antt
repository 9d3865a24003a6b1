-- Questions 11 to 17 and 23 as the code puts them: some of their parts, and the first that is answered with no.
use Rattle.std.specs.Prelude.{ℕ, Bool, not, ◌||◌, cond, eqb}
use Rattle.model.specs.Base.{below}
use Rattle.model.specs.State.{State}
use Rattle.model.specs.Questions.{
  changed,
  is_active,
  inactive,
  unlocked_actor,
  locked_actor,
  q11,
  q12,
  q13,
  q14,
  q15,
  q16,
  q17,
  q23,
  ask,
}
use Rattle.model.specs.declared.Family.{Family}
use Rattle.model.specs.declared.Actor.{Actor}
use Rattle.model.specs.declared.Config.{Config}
use Rattle.model.specs.declared.Operation.{Operation}

-- question 12: item i changes no object that an item before it changes
unfoldable pub apart : Operation → Family → ℕ → Bool
apart op f i = below i (λ j. eqb (changed op f i) 0 || not (eqb (changed op f j) (changed op f i)))

-- question 16: the driver or device is active, or all listed objects are; or they are inactive
abbrev pub activity : State → Operation → Actor → Bool → Bool
activity b op a wanted = cond wanted (is_active b op a) (inactive b op a)

-- question 23: the device has a lock, or it has none
abbrev pub lockage : State → Operation → Actor → Bool → Bool
lockage b op a wanted = cond wanted (locked_actor b op a) (unlocked_actor b op a)

-- the number of the first of the questions 11 to 13, of 14 to 17 with 23 after 16, and of all these that is answered
-- with no; else the rest
unfoldable pub names_no : Config → Operation → Family → Actor → ℕ → ℕ
names_no config op f a rest = ask 11 (q11 config op f a) (ask 12 (q12 op f) (ask 13 (q13 config op f) rest))

unfoldable pub places_no : State → Operation → Family → Actor → ℕ → ℕ
places_no b op f a rest =
    ask 14 (q14 b op f a) (ask 15 (q15 b op f) (ask 16 (q16 b op f a) (ask 23 (q23 b op f a)
    (ask 17 (q17 b op f a) rest))))

unfoldable pub first_no : Config → State → Operation → Family → Actor → ℕ → ℕ
first_no config b op f a rest = names_no config op f a (places_no b op f a rest)
