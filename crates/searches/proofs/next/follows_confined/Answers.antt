-- `searches::next::follows_confined` meets its contract: neither question is put, or the state that would follow is
-- searched. Assumes nothing.
use mathlib.Core.Path.{◌∙◌, sym}
use Rattle.searches.proofs.Readying
use Rattle.searches.proofs.Asking
use Rattle.searches.proofs.next.follows_confined.Goals as goal

pub returns-then-not-is_followed : goal.returns-then-not-is_followed
returns-then-not-is_followed c = Asking.neither_put _ _ _ _ _ (sym c.is_followed.ensures ∙ c.if-not-is_followed.true)

pub is_confined_in-requires-clause-fit : goal.is_confined_in-requires-clause-fit
is_confined_in-requires-clause-fit c = Readying.spare_fit _ _ _ _ _ _ c.requires.ready c.requires.asked

pub is_confined_in-requires-clause-searchable : goal.is_confined_in-requires-clause-searchable
is_confined_in-requires-clause-searchable c =
    Readying.next-searchable _ _ _ _ _ _ c.requires.ready c.requires.asked
    (sym c.is_followed.ensures ∙ c.if-not-is_followed.false)

pub returns-then-area-from : goal.returns-then-area-from
returns-then-area-from c =
    Asking.follows_next _ _ _ _ _ c.requires.asked (sym c.is_followed.ensures ∙ c.if-not-is_followed.false)
    c.is_confined_in.ensures

pub is_confined_in-requires-else-area-from-clause-fit : goal.is_confined_in-requires-else-area-from-clause-fit
is_confined_in-requires-else-area-from-clause-fit c =
    Readying.spare_fit _ _ _ _ _ _ c.requires.ready c.requires.asked

pub is_confined_in-requires-else-area-from-clause-searchable :
    goal.is_confined_in-requires-else-area-from-clause-searchable
is_confined_in-requires-else-area-from-clause-searchable c =
    Readying.next-searchable _ _ _ _ _ _ c.requires.ready c.requires.asked
    (sym c.is_followed.ensures ∙ c.if-not-is_followed.false)

pub returns-else-area-from : goal.returns-else-area-from
returns-else-area-from c =
    Asking.follows_next _ _ _ _ _ c.requires.asked (sym c.is_followed.ensures ∙ c.if-not-is_followed.false)
    c.is_confined_in-else-area-from.ensures
