-- `subscribe_write::write` is right since the order is settled from what is found, and only then is the frame put. Assumes nothing.
use mathlib.Core.Path.{◌∙◌}
use Rattle.writing.specs.Handed.{subscribe}
use Rattle.records.specs.AsNumbers.{limit_of}
use Rattle.write_order.proofs.Laws.{settled_found, none_handed_on, frame_written}
use Rattle.subscribe_write.specs.Handed.{handed}
use Rattle.subscribe_write.proofs.write.Goals as goal

pub returns-in_err-n : goal.returns-in_err-n
returns-in_err-n c =
    let a = c.args in
    none_handed_on (limit_of a.limit) (subscribe (handed a.m a.user.now a.user_lengths.now a.filters.now a.filter_lengths.now a.options.now)) a.out.now _ _ c.from_residual.ensures.1
    (c.in_err-n.ensures ∙ settled_found (limit_of a.limit) _ (subscribe (handed a.m a.user.now a.user_lengths.now a.filters.now a.filter_lengths.now a.options.now)) (record { early = c.before_size-fields.ensures; rest = c.rest-len.ensures a.filter_lengths.now; late = c.after_limit-end.ensures a.user.now a.user_lengths.now a.filters.now }))

pub returns : goal.returns
returns c =
    let a = c.args in
    frame_written (limit_of a.limit) (subscribe (handed a.m a.user.now a.user_lengths.now a.filters.now a.filter_lengths.now a.options.now)) a.out.now _
    (c.in_ok-n.ensures ∙ settled_found (limit_of a.limit) _ (subscribe (handed a.m a.user.now a.user_lengths.now a.filters.now a.filter_lengths.now a.options.now)) (record { early = c.before_size-fields.ensures; rest = c.rest-len.ensures a.filter_lengths.now; late = c.after_limit-end.ensures a.user.now a.user_lengths.now a.filters.now })) _ c.put.ensures
