-- `utf8::is_short_utf8` meets its contract. The loop's invariant: the text goes on at `i`; nothing is left at the end. Assumes nothing.
use mathlib.Core.Path.{sym, ◌∙◌}
use native.Mathlib.Omega.{arith}
use lib.ListN.{get_or}
use Rattle.text_chars.proofs.Rows.{plain_so}
use Rattle.text_chars.proofs.Laws.{plain_at, text_over}
use Rattle.utf8.proofs.is_short_utf8.Goals as goal

pub loop-i-preserved : goal.loop-i-preserved
loop-i-preserved c =
    let s = c.args.s.now in
    let i = c.loop-i.i in
    c.loop-i.invariant ∙ plain_at s i (omega arith) (plain_so (get_or s i 0) c.flaw.result c.flaw.ensures (omega arith))

pub returns : goal.returns
returns c = sym (c.loop-i.invariant ∙ text_over c.args.s.now c.loop-i.i (omega arith))
