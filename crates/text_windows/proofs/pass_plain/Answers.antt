-- `text_windows::pass_plain` is right since ASCII bytes fit where nothing is due before them. Assumes nothing.
use Rattle.std.proofs.Common.{sym, arith}
use Rattle.std.proofs.lemmas.Bool.{not-true}
use Rattle.text_windows.proofs.Runs.{plain_run}
use Rattle.text_windows.proofs.pass_plain.Goals as goal

pub returns : goal.returns
returns c =
    let (h, f) = plain_run c.args.s.now c.args.at c.pass_ascii.result (omega arith) c.pass_ascii.ensures c.requires.2 (not-true _ (sym c.if-not-is_whole.ensures)) in
    (omega arith, h, f)
