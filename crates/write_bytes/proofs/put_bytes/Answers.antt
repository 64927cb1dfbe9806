-- `write_bytes::put_bytes` is right since as many bytes are put as there are, or as there is room for. Assumes nothing.
use native.Mathlib.Omega.{arith}
use Rattle.write_bytes.proofs.Laws.{sets_out, put_all}
use Rattle.write_bytes.proofs.put_bytes.Goals as goal

pub returns-then-at-out : goal.returns-then-at-out
returns-then-at-out c =
    let a = c.args in
    put_all a.out.now _ a.out.now a.s.now a.at c.min-n.result (omega (arith, c.min-n.ensures)) c.put_fit.ensures (omega (arith, c.min-n.ensures))

pub returns-else-at-out : goal.returns-else-at-out
returns-else-at-out c = sets_out c.args.s.now c.args.out.now c.args.at (omega arith)
