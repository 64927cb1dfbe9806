-- `text_windows::is_whole` is right since nothing is due behind ASCII that fits; else the byte before, the one before it and the one before that are each tested. Assumes nothing.
use Rattle.std.proofs.Common.{arith}
use Rattle.text_windows.proofs.Runs.{whole_one, whole_two, whole_three, whole_four}
use Rattle.text_windows.proofs.is_whole.Goals as goal

pub returns-then-p-lt128 : goal.returns-then-p-lt128
returns-then-p-lt128 c = whole_one c.args.s.now c.args.at (omega arith) c.requires.2 c.if-p-lt128.true

pub returns-then-p-ge192 : goal.returns-then-p-ge192
returns-then-p-ge192 c = let a = c.args in whole_two a.s.now a.at (omega arith) c.if-p-ge192.true

pub returns-then-s-at-ge224 : goal.returns-then-s-at-ge224
returns-then-s-at-ge224 c = let a = c.args in whole_three a.s.now a.at (omega arith) c.if-s-at-ge224.true

pub returns : goal.returns
returns c = let a = c.args in whole_four a.s.now a.at (omega arith) c.if-p-ge192.false c.if-s-at-ge224.false
