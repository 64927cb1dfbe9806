-- `text_windows::pass_sixteens` is right since the bytes before `i` fit, the loop's invariant. Assumes nothing.
use Rattle.std.proofs.Common.{◌+◌, ◌-◌, arith}
use Rattle.text_windows.proofs.Runs.{fit_less, fit_join, fit_stopped, fit_passed}
use Rattle.text_windows.proofs.pass_sixteens.Goals as goal

pub loop-i-init : goal.loop-i-init
loop-i-init c = (omega arith, omega arith, c.requires.4)

pub fit_sixteen-requires : goal.fit_sixteen-requires
fit_sixteen-requires c =
    let r = c.start_of-start in
    let l = c.loop-i in
    (r.ensures.0, r.ensures.2, fit_less c.args.s.now 0 l.i r.result r.ensures.1 l.invariant.2)

pub returns-then-not-fit_sixteen : goal.returns-then-not-fit_sixteen
returns-then-not-fit_sixteen c = fit_stopped _ _ (c.fit_sixteen.ensures.no (c.if-not-fit_sixteen.true))

pub overflow_add-i : goal.overflow_add-i
overflow_add-i c = omega (arith, c.start_of-start.ensures.2)

pub loop-i-smaller : goal.loop-i-smaller
loop-i-smaller c =
    let r = c.start_of-start in
    omega (arith, r.ensures.2, r.ensures.3 (omega arith))

pub loop-i-preserved : goal.loop-i-preserved
loop-i-preserved c =
    let r = c.start_of-start in
    let l = c.loop-i in
    let s = c.args.s.now in
    (omega (arith, r.ensures.0), r.ensures.2, fit_join s 0 l.i r.result (r.result + 16) r.ensures.1 l.invariant.2 (c.fit_sixteen.ensures.yes (c.if-not-fit_sixteen.false)))

pub returns : goal.returns
returns c = fit_passed _ _ _ c.loop-i.invariant.1 (omega arith) (omega arith) c.loop-i.invariant.2
