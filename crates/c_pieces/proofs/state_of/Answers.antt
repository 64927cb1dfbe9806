-- `c_pieces::state_of` is right since four numbers are needed, and the last three say how the stream stands. Assumes nothing.
use borrow.Author.Tests.{lt-leb}
use Rattle.c_pieces.proofs.Laws.{given_none, given_some}
use Rattle.c_pieces.proofs.state_of.Goals as goal

pub returns-then-state-lt4 : goal.returns-then-state-lt4
returns-then-state-lt4 c = rw (lt-leb 4 _ c.if-state-lt4.true)

pub returns-in_err-end : goal.returns-in_err-end
returns-in_err-end c = rw c.from_residual.ensures (given_none c.args.state.now c.if-state-lt4.false c.in_err-end.ensures)

pub returns : goal.returns
returns c = given_some c.args.state.now c.if-state-lt4.false _ c.in_ok-end.ensures
