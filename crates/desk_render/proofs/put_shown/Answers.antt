-- `desk_render::put_shown` is right since each turn shows one byte, and what is left decides. Assumes nothing.
use mathlib.Core.Path.{◌≡◌}
use lib.ListN.{length}
use native.Mathlib.Omega.{arith}
use Rattle.desk_render.proofs.Laws.{showing_start, showing_full, showing_next, showing_end, shows_none}
use Rattle.desk_render.proofs.put_shown.Goals as goal

pub returns-then-out-at : goal.returns-then-out-at
returns-then-out-at c = record { shows = shows_none _ _ _ c.if-out-at.true; within = omega arith; room = omega arith }

pub returns-then-out-next : goal.returns-then-out-next
returns-then-out-next c =
    let l = c.loop-i in
    record { shows = showing_full l.invariant c.loop-i-test.true (omega (arith, c.if-out-next.true, c.shown_size-n.ensures, l.invariant.same)); within = l.invariant.ahead; room = omega (arith, l.invariant.within) }

pub loop-i-preserved : goal.loop-i-preserved
loop-i-preserved c =
    let l = c.loop-i in
    showing_next l.invariant c.loop-i-test.true c.shown_size-n.ensures (omega (arith, c.if-out-next.false, l.invariant.same)) c.put_byte.ensures

pub returns : goal.returns
returns c =
    let i = c.loop-i.invariant in
    let e : c.loop-i.i ≡ length c.args.s.now = omega arith in
    record { shows = rw e at (showing_end i (omega arith)); within = omega arith; room = omega (arith, i.within) }

pub loop-i-init : goal.loop-i-init
loop-i-init c = showing_start _ _ _ c.if-out-at.false

pub put_byte-requires : goal.put_byte-requires
put_byte-requires c = record { n_value = c.shown_size-n.ensures; n_in_bounds = omega (arith, c.if-out-next.false) }

pub overflow_add-next : goal.overflow_add-next
overflow_add-next c = omega (arith, c.if-out-next.false, c.loop-i.invariant.within)
