-- `text_chars::by_chars` is right since the text goes on at `i`, the loop's invariant, and nothing is left at the end. Assumes nothing.
use Rattle.std.proofs.Common.{get_or, sym, ◌∙◌, arith}
use Rattle.text_chars.proofs.Rows.{plain_so}
use Rattle.text_chars.proofs.Laws.{plain_at, text_over}
use Rattle.text_chars.proofs.by_chars.Goals as goal

pub loop-i-preserved-then-flaw-lt128 : goal.loop-i-preserved-then-flaw-lt128
loop-i-preserved-then-flaw-lt128 c =
    let s = c.args.s.now in
    let l = c.loop-i in
    l.invariant ∙ plain_at s l.i (omega arith) (plain_so (get_or s l.i 0) c.flaw.result c.flaw.ensures (omega arith))

pub returns : goal.returns
returns c = sym (c.loop-i.invariant ∙ text_over c.args.s.now c.loop-i.i (omega arith))
