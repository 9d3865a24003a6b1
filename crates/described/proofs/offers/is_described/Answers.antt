-- `described::offers::is_described` meets its contract: a law for each kind of transfer. Assumes nothing.
use mathlib.Core.Path.{◌≡◌, ◌∙◌, sym, ap, subst}
use mathlib.Core.List.{List}
use Prim.Native.Nat.{ℕ, ◌<◌}
use native.Mathlib.Omega.{arith}
use lib.ListN.{get_or, length}
use borrow.Author.Tests.{ltb-true}
use Rattle.std.proofs.lemmas.Bool.{le-ltb}
use Rattle.std.proofs.lemmas.Grind.{get_or_default_zero}
use Rattle.scene.specs.Digits.{Without}
use Rattle.described.proofs.Offering.{
  described_past,
  described-read,
  described-any,
  described_large,
  described-value,
}
use Rattle.described.proofs.offers.is_described.Goals as goal
use Rattle.described.proofs.offers.is_described.Goals.{In-Some}

-- the word that was found
word : (c : In-Some) → c.in-Some.field-0.now ≡ get_or c.args.table.now c.args.object 0
word c =
    let k : c.args.object < length c.args.table.now = ltb-true _ _ (sym c.in-Some.ensures.lookup.0) in
    c.in-Some.ensures.lookup.1 ∙ get_or_default_zero _ _ _ k

pub returns-in_default : goal.returns-in_default
returns-in_default c =
    λ m b d h f. described_past m b d c.args.table.now f c.args.object c.in_default.ensures.lookup.3
    c.args.transfer

pub returns-in-Read : goal.returns-in-Read
returns-in-Read c =
    λ m b d h f. rw c.in-Read.is
    (rw (word (goal.at.returns-in-Read c).In-Some) at c.has.ensures
    ∙ described-read m b d c.args.table.now f c.args.object 0)

pub returns-then-w-lt-READ_DIGIT : goal.returns-then-w-lt-READ_DIGIT
returns-then-w-lt-READ_DIGIT c =
    λ m b d h f. rw c.in-Write.is
    (rw (word (goal.at.returns-then-w-lt-READ_DIGIT c).In-Some) at c.has-then-w-lt-READ_DIGIT.ensures
    ∙ described-value m b d c.args.table.now f c.args.object c.in-Write.w
    (ap (λ (l : List ℕ). get_or l c.args.object 0) h ∙ c.if-config-object-eq-TRANSFER_KIND.true)
    c.if-w-lt-READ_DIGIT.true)

pub returns-else-w-lt-READ_DIGIT : goal.returns-else-w-lt-READ_DIGIT
returns-else-w-lt-READ_DIGIT c =
    λ m b d h f. rw c.in-Write.is
    (le-ltb _ _ c.if-w-lt-READ_DIGIT.false
    ∙ described_large m b d c.args.table.now f c.args.object c.in-Write.w
    (ap (λ (l : List ℕ). get_or l c.args.object 0) h ∙ c.if-config-object-eq-TRANSFER_KIND.true)
    c.if-w-lt-READ_DIGIT.false)

pub returns-in-Write-2 : goal.returns-in-Write-2
returns-in-Write-2 c =
    let w = c.without in
    let x : ℕ = get_or c.args.table.now c.args.object 0 in
    let e : c.in-Some.field-0.now ≡ x = word (goal.at.returns-in-Write-2 c).In-Some in
    λ m b d h f. rw c.in-Write-2.is
    (described-any m b d c.args.table.now f c.args.object c.in-Write-2.field-0
    (λ e. c.if-config-object-eq-TRANSFER_KIND.false (sym (ap (λ (l : List ℕ). get_or l c.args.object 0) h) ∙ e))
    w.result (omega arith)
    (subst (λ (y : ℕ). Without x y w.result) c.power.ensures
    (subst (λ (y : ℕ). Without y c.power.result w.result) e w.ensures)))
