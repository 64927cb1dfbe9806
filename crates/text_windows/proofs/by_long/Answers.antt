-- `text_windows::by_long` is right since ASCII bytes fit. Assumes nothing.
use Rattle.std.proofs.Common.{arith}
use Rattle.text_windows.proofs.Runs.{ascii_to_fit}
use Rattle.text_windows.proofs.by_long.Goals as goal

pub by_windows-requires : goal.by_windows-requires
by_windows-requires c = (omega arith, c.pass_ascii-at.ensures.within, omega arith, ascii_to_fit c.pass_ascii-at.ensures)
