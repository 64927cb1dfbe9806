-- `text_windows::by_start` is right since the first three fit where they are tested. Assumes nothing.
use Rattle.std.proofs.Common.{sym, arith}
use Rattle.text_windows.proofs.by_start.Goals as goal

pub by_windows-requires : goal.by_windows-requires
by_windows-requires c = (omega arith, omega arith, omega arith, c.fit_three.ensures.yes c.if-fit_three.true)

pub returns : goal.returns
returns c = sym (c.fit_three.ensures.no c.if-fit_three.false)
