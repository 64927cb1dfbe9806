-- `subscribe_write::after_limit` is right since the identifier is tested before the filters are asked for. Assumes nothing.
use mathlib.Core.Path.{refl}
use Rattle.records.proofs.Laws.{handed_on}
use Rattle.subscribe_write.specs.Handed.{handed}
use Rattle.subscribe_write.proofs.Laws.{after_limit_all}
use Rattle.subscribe_write.proofs.after_limit.Goals as goal

pub returns-in_err-test_number : goal.returns-in_err-test_number
returns-in_err-test_number c =
    let a = c.args in
    λ us ls fs. handed_on _ _ _ c.from_residual.ensures.1 (after_limit_all (handed a.m us ls fs a.filter_lengths.now a.options.now) c.in_err-test_number.ensures refl refl)

pub returns : goal.returns
returns c =
    let a = c.args in
    λ us ls fs. after_limit_all (handed a.m us ls fs a.filter_lengths.now a.options.now) c.in_ok-test_number.ensures (c.test_asked.ensures fs) refl
