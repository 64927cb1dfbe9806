use Rattle.text_chars.proofs.Laws.{Following}
use Rattle.text_chars.proofs.follow.Given as goal

abbrev pub invariant-loop-i : goal.invariant-loop-i
invariant-loop-i g l = Following l.s l.at g.row.N l.low l.high 0x80 0xBF l.i
