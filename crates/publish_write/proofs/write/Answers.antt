-- `publish_write::write` is right since the order is settled from what is found, and only then is the frame laid, which fits. Assumes nothing.
use mathlib.Core.Path.{◌∙◌}
use Rattle.writing.specs.Handed.{publish}
use Rattle.records.specs.AsNumbers.{limit_of}
use Rattle.write_order.proofs.Laws.{settled_found, none_handed_on, all_written}
use Rattle.publish_plan.specs.Handed.{handed}
use Rattle.publish_write.proofs.Laws.{put_frame, frame_fits}
use Rattle.publish_write.proofs.Parts.{props_rows}
use Rattle.publish_write.proofs.write.Goals as goal

pub lay_frame-requires : goal.lay_frame-requires
lay_frame-requires c =
    let a = c.args in
    let h =
    handed a.head a.topic.now a.response_topic.now a.correlation_data.now a.user.now a.user_lengths.now a.subscription_identifiers.now
    a.content_type.now a.payload.now in
    let f = settled_found (limit_of a.limit) _ (publish h) (record {
      early = c.before_size-fields.ensures a.payload.now;
      rest = c.sizes-sizes.ensures.0;
      late = c.after_limit-end.ensures a.topic.now a.response_topic.now a.correlation_data.now a.user.now a.user_lengths.now
          a.content_type.now a.payload.now;
    }) in
    let g = props_rows a.head a.topic.now a.response_topic.now a.correlation_data.now a.user.now a.user_lengths.now a.subscription_identifiers.now
    a.content_type.now a.payload.now in
    let s = c.sizes-sizes.ensures in
    frame_fits h s.0 s.1 g (limit_of a.limit) a.out.now _ (c.in_ok-n.ensures ∙ f)

pub returns-in_err-n : goal.returns-in_err-n
returns-in_err-n c =
    let a = c.args in
    let h =
    handed a.head a.topic.now a.response_topic.now a.correlation_data.now a.user.now a.user_lengths.now a.subscription_identifiers.now
    a.content_type.now a.payload.now in
    let f = settled_found (limit_of a.limit) _ (publish h) (record {
      early = c.before_size-fields.ensures a.payload.now;
      rest = c.sizes-sizes.ensures.0;
      late = c.after_limit-end.ensures a.topic.now a.response_topic.now a.correlation_data.now a.user.now a.user_lengths.now
          a.content_type.now a.payload.now;
    }) in
    none_handed_on (limit_of a.limit) (publish h) a.out.now _ _ c.from_residual.ensures.1 (c.in_err-n.ensures ∙ f)

pub returns : goal.returns
returns c =
    let a = c.args in
    let h =
    handed a.head a.topic.now a.response_topic.now a.correlation_data.now a.user.now a.user_lengths.now a.subscription_identifiers.now
    a.content_type.now a.payload.now in
    let f = settled_found (limit_of a.limit) _ (publish h) (record {
      early = c.before_size-fields.ensures a.payload.now;
      rest = c.sizes-sizes.ensures.0;
      late = c.after_limit-end.ensures a.topic.now a.response_topic.now a.correlation_data.now a.user.now a.user_lengths.now
          a.content_type.now a.payload.now;
    }) in
    let g = props_rows a.head a.topic.now a.response_topic.now a.correlation_data.now a.user.now a.user_lengths.now a.subscription_identifiers.now
    a.content_type.now a.payload.now in
    let s = c.sizes-sizes.ensures in
    all_written (limit_of a.limit) (publish h) a.out.now _
    (c.in_ok-n.ensures ∙ f) _
    (put_frame h s.0 s.1 g a.out.now c.lay_frame.ensures)
