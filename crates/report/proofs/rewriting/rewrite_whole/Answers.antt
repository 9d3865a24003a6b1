-- `report::rewriting::rewrite_whole` meets its contract: too long, written or refused, never too short. Assumes
-- nothing.
use mathlib.Core.Path.{◌≡◌}
use lib.ListN.{length}
use Rattle.model.specs.Office.{most_file}
use Rattle.model.specs.Rewriting.{most_word}
use Rattle.report.proofs.Saving
use borrow.Author.Rules.{rules}
use Rattle.report.proofs.rewriting.rewrite_whole.Goals as goal

pub returns-then-line-gt-MOST_FILE : goal.returns-then-line-gt-MOST_FILE
returns-then-line-gt-MOST_FILE c =
    let a = c.args in
    let word : length a.text.now ≡ most_word = search rules in
    let (f0, (f1, (f2, (f3, (f4, f5))))) = Saving.saved_long _ a.text.now _ word c.if-line-gt-MOST_FILE.true
    c.put_long.ensures in
    record { text_value = f0; text_after = f1; file_value = f2; file_after = f3; counts = f4; counts_2 = f5 }

pub returns-in-Ok : goal.returns-in-Ok
returns-in-Ok c =
    let a = c.args in
    let room : length a.file.now ≡ most_file = search rules in
    let (f0, (f1, (f2, (f3, (f4, f5))))) = Saving.saved_file _ a.text.now a.file.now c.if-line-gt-MOST_FILE.false room
    c.rewrite.ensures.out_after _ c.in-Ok.ensures.value in
    record { text_value = f0; text_after = f1; file_value = f2; file_after = f3; counts = f4; counts_2 = f5 }

pub returns-in-Err-Refused : goal.returns-in-Err-Refused
returns-in-Err-Refused c =
    let a = c.args in
    let word : length a.text.now ≡ most_word = search rules in
    let room : length a.file.now ≡ most_file = search rules in
    let e = rw c.in-Err-Refused.field-0-is at c.in-Err-Refused.ensures.value in
    let (f0, (f1, (f2, (f3, (f4, f5))))) = Saving.saved_refused _ a.text.now a.file.now c.if-line-gt-MOST_FILE.false
    room c.rewrite.ensures.out_after word _ e (rw (c.from.ensures, c.number.ensures) at c.put_line-n.ensures) in
    record { text_value = f0; text_after = f1; file_value = f2; file_after = f3; counts = f4; counts_2 = f5 }

pub returns-in-Err-Short : goal.returns-in-Err-Short
returns-in-Err-Short c =
    let a = c.args in
    let room : length a.file.now ≡ most_file = search rules in
    let e = rw c.in-Err-Short.field-0-is at c.in-Err-Short.ensures.value in
    absurd (Saving.never_short _ a.text.now a.file.now c.if-line-gt-MOST_FILE.false room
    c.rewrite.ensures.out_after _ e)
