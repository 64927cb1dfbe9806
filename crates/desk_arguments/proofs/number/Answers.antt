-- `desk_arguments::number` is right since the number so far, with what is left, decides. Assumes nothing.
use Rattle.std.proofs.Common.{sym, ◌∙◌, rules}
use Rattle.desk_arguments.proofs.Laws.{number_empty, number_start, number_end, number_next, number_bad}
use Rattle.desk_arguments.proofs.number.Goals as goal

pub returns-then-is_empty : goal.returns-then-is_empty
returns-then-is_empty c = number_empty _ (search rules)

pub loop-b-init : goal.loop-b-init
loop-b-init c = number_start _ (sym c.is_empty.ensures ∙ c.if-is_empty.false)

pub returns-in_err-n : goal.returns-in_err-n
returns-in_err-n c =
    let l = c.loop-b in
    rw c.from_residual.ensures (number_bad c.args.s.now l.n l.b-index l.invariant c.loop-b-test.true c.in_err-n.ensures)

pub loop-b-preserved : goal.loop-b-preserved
loop-b-preserved c =
    let l = c.loop-b in
    number_next c.args.s.now l.n l.b-index l.invariant c.loop-b-test.true _ c.in_ok-n.ensures

pub returns : goal.returns
returns c =
    let l = c.loop-b in
    number_end c.args.s.now l.n l.b-index l.invariant c.loop-b-test.false
