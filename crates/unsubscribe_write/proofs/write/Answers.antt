-- `unsubscribe_write::write` is right since the order is settled from what is found, and only then is the frame put. Assumes nothing.
use mathlib.Core.Path.{◌∙◌}
use Rattle.writing.specs.Handed.{unsubscribe}
use Rattle.records.specs.AsNumbers.{limit_of}
use Rattle.write_order.proofs.Laws.{settled_found, none_handed_on, frame_written}
use Rattle.unsubscribe_write.specs.Handed.{handed}
use Rattle.unsubscribe_write.proofs.Laws.{after_limit_all}
use Rattle.unsubscribe_write.proofs.write.Goals as goal

pub returns-in_err-n : goal.returns-in_err-n
returns-in_err-n c =
    let a = c.args in
    none_handed_on (limit_of a.limit) (unsubscribe (handed a.m a.user.now a.user_lengths.now a.topics.now a.topic_lengths.now)) a.out.now _ _ c.from_residual.ensures.1
    (c.in_err-n.ensures ∙ settled_found (limit_of a.limit) _ (unsubscribe (handed a.m a.user.now a.user_lengths.now a.topics.now a.topic_lengths.now)) (record { early = c.before_size-fields.ensures; rest = c.rest-len.ensures; late = after_limit_all (handed a.m a.user.now a.user_lengths.now a.topics.now a.topic_lengths.now) (c.test_asked-end.ensures a.topics.now) }))

pub returns : goal.returns
returns c =
    let a = c.args in
    frame_written (limit_of a.limit) (unsubscribe (handed a.m a.user.now a.user_lengths.now a.topics.now a.topic_lengths.now)) a.out.now _
    (c.in_ok-n.ensures ∙ settled_found (limit_of a.limit) _ (unsubscribe (handed a.m a.user.now a.user_lengths.now a.topics.now a.topic_lengths.now)) (record { early = c.before_size-fields.ensures; rest = c.rest-len.ensures; late = after_limit_all (handed a.m a.user.now a.user_lengths.now a.topics.now a.topic_lengths.now) (c.test_asked-end.ensures a.topics.now) })) _ c.put.ensures
