-- `desk::stream::to_front` is right since a byte is read before it is written over. Assumes nothing.
use Rattle.std.proofs.Common.{ℕ, ◌+◌, ◌<◌, List, length, get_or, set, refl, ap, ◌∙◌, arith, length-set}
use Rattle.desk.proofs.Laws.{front_none, front_next}
use Rattle.desk.proofs.stream.to_front.Goals as goal

pub loop-i-init : goal.loop-i-init
loop-i-init c = (refl, omega arith, front_none _ _)

pub loop-i-preserved : goal.loop-i-preserved
loop-i-preserved c =
    let l = c.loop-i in
    let a = c.args in
    let h : a.start + l.i < length a.buf.now = omega arith in
    (simp length-set l.invariant.0, omega arith, ap (λ (b : List ℕ). set b l.i (get_or b (a.start + l.i) 0)) l.invariant.2 ∙ front_next a.buf.now a.start l.i h)
