-- `tidying::tidy` is right since the frame that is read is tidied, and the stream's answer is the frame's. Assumes nothing.
use Rattle.std.proofs.lemmas.Result.{err_from_is_err_and}
use Rattle.tidying.proofs.Laws.Frame.{tidies_refused, accepted_frame, tidies_frame}
use Rattle.tidying.proofs.tidy.Goals as goal

pub returns-in_err-start : goal.returns-in_err-start
returns-in_err-start c =
    let p = err_from_is_err_and c.from_residual.result c.from_residual.ensures.1 in
    rw (p.1, p.2) (tidies_refused c.args.stream.now c.args.out.now _ _ c.in_err-start.ensures)

pub tidy_frame-requires : goal.tidy_frame-requires
tidy_frame-requires c = let w = c.in_ok-start.ensures in accepted_frame c.args.stream.now w.1 c.piece.ensures.bytes w.2

pub returns : goal.returns
returns c = let w = c.in_ok-start.ensures in tidies_frame c.args.stream.now w.1 c.piece.ensures.bytes c.tidy_frame.ensures
