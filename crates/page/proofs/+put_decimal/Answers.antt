-- `page::put_decimal` meets its contract: one digit, or the others and then the last. Assumes nothing.
use Rattle.page.proofs.Laying
use Rattle.page.proofs.+put_decimal.Goals as goal

pub returns-then-n-lt10 : goal.returns-then-n-lt10
returns-then-n-lt10 t c =
    Laying.put_digit c.args.at c.args.out.now c.args.n _ c.last_digit.ensures c.if-n-lt10.true c.put.ensures

pub returns : goal.returns
returns t c =
    Laying.put_digits c.args.at c.args.out.now c.args.n _ c.last_digit-2.ensures c.if-n-lt10.false
    c.put_decimal-end.ensures c.put-2.ensures
