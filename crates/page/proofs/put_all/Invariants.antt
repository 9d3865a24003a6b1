-- `page::put_all` meets its contract: after b-index turns so many bytes are put down. Assumes nothing.
use lib.ListN.{take}
use Rattle.page.specs.Page.{Put}
use Rattle.page.proofs.put_all.Given as goal

abbrev pub invariant-loop-b : goal.invariant-loop-b
invariant-loop-b l = Put (take l.b-index l.text) l.at l.initial.out l.end l.out
