-- `c_inflight::first_free` is right since what is passed is taken, and the rest is searched. Assumes nothing.
use Rattle.std.proofs.lemmas.List.{take_rest}
use Rattle.c_inflight.proofs.Laws.{zero_at, zero_none}
use Rattle.c_inflight.proofs.first_free.Goals as goal

pub returns-in_err-i : goal.returns-in_err-i
returns-in_err-i c = rw c.from_residual.ensures (zero_none c.pass_taken-from.ensures (take_rest c.args.codes.now c.pass_taken-from.result) c.in_err-i.ensures)

pub returns : goal.returns
returns c = zero_at c.pass_taken-from.ensures (take_rest c.args.codes.now c.pass_taken-from.result) c.in_ok-i.ensures
