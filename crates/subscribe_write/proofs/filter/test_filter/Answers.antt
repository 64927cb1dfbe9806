-- `subscribe_write::filter::test_filter` is right since the text is tested first, then the forward rule, then QoS. Assumes nothing.
use Rattle.records.proofs.Laws.{handed_on}
use Rattle.subscribe_write.proofs.Filters.{filter_bad, filter_rule, filter_qos, filter_fine}
use Rattle.subscribe_write.proofs.filter.test_filter.Goals as goal

pub returns-in_err-test_word : goal.returns-in_err-test_word
returns-in_err-test_word c =
    let a = c.args in
    handed_on _ _ _ c.from_residual.ensures.1 (filter_bad a.s.now a.options _ c.in_err-test_word.ensures)

pub returns-then-options-eq3 : goal.returns-then-options-eq3
returns-then-options-eq3 c =
    let a = c.args in
    filter_rule a.s.now a.options c.in_ok-test_word.ensures c.if-options-eq3.true

pub returns-then-options-eq3-2 : goal.returns-then-options-eq3-2
returns-then-options-eq3-2 c =
    let a = c.args in
    filter_qos a.s.now a.options c.in_ok-test_word.ensures c.if-options-eq3.false c.if-options-eq3-2.true

pub returns : goal.returns
returns c =
    let a = c.args in
    filter_fine a.s.now a.options c.in_ok-test_word.ensures c.if-options-eq3.false c.if-options-eq3-2.false
