-- `text_chars::is_ascii` is right since a byte has no flaw just where it is ASCII and not 0. Assumes nothing.
use Rattle.std.proofs.Common.{sym, get_or, take}
use Rattle.std.proofs.lemmas.List.{take_more}
use Rattle.text_chars.proofs.Laws.{flaw_low, ascii_push}
use Rattle.text_chars.proofs.is_ascii.Goals as goal

pub loop-b-preserved : goal.loop-b-preserved
loop-b-preserved c =
    let s = c.args.run.now in
    let i = c.loop-b.b-index in
    rw (c.loop-b.invariant, flaw_low (get_or s i 0) c.flaw.result c.flaw.ensures, take_more s i 0 c.loop-b-test.true) (sym (ascii_push (take i s) (get_or s i 0)))
