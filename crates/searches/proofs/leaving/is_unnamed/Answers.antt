-- `searches::leaving::is_unnamed` meets its contract: the search's answer is the definition's. Assumes nothing.
use Rattle.searches.proofs.Asking
use Rattle.searches.proofs.leaving.is_unnamed.Goals as goal

pub returns : goal.returns
returns c = Asking.none_of 19 _ _ _ c.is_none.ensures c.naming.ensures.result_value
