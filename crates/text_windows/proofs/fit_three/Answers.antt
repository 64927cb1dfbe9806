-- `text_windows::fit_three` is right since each of the three is tested behind those before it. Assumes nothing.
use Rattle.std.proofs.Common.{sym, ◌∙◌, arith}
use Rattle.text_windows.proofs.Runs.{three_no, three_last}
use Rattle.text_windows.proofs.fit_three.Goals as goal

pub returns-then-not-is_fitting : goal.returns-then-not-is_fitting
returns-then-not-is_fitting c = three_no c.args.s.now (omega arith) 0 (omega arith) (sym c.is_fitting.ensures ∙ c.if-not-is_fitting.true)

pub returns-then-not-is_fitting-2 : goal.returns-then-not-is_fitting-2
returns-then-not-is_fitting-2 c = three_no c.args.s.now (omega arith) 1 (omega arith) (sym c.is_fitting-2.ensures ∙ c.if-not-is_fitting-2.true)

pub returns : goal.returns
returns c = three_last c.args.s.now (omega arith) c.is_fitting-3.result (sym c.is_fitting.ensures ∙ c.if-not-is_fitting.false) (sym c.is_fitting-2.ensures ∙ c.if-not-is_fitting-2.false) c.is_fitting-3.ensures
