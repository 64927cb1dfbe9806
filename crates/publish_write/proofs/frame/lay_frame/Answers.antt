-- `publish_write::frame::lay_frame` is right since the front and the back, one behind the other, stand behind the first byte. Assumes nothing.
use mathlib.Core.List.{◌++◌}
use Rattle.writing.specs.Handed.{publish}
use Rattle.writing.specs.Spell.{short, string}
use Rattle.writing.specs.Write.{first_byte, ident_bytes}
use Rattle.records.specs.AsNumbers.{told_qos}
use Rattle.publish_plan.specs.Handed.{handed}
use Rattle.publish_write.specs.Laid.{all_rows}
use Rattle.publish_write.proofs.Lay.{laid_last, first_laid}
use Rattle.publish_write.proofs.frame.lay_frame.Goals as goal

pub returns : goal.returns
returns c =
    let a = c.args in
    let f = short a.rest ++ (string a.topic.now ++ ident_bytes (told_qos a.head.qos) a.head.pkid) in
    let b = short a.properties ++ (all_rows a.head a.response_topic.now a.correlation_data.now a.user.now a.user_lengths.now a.subscription_identifiers.now a.content_type.now ++ a.payload.now) in
    let h =
    handed a.head a.topic.now a.response_topic.now a.correlation_data.now a.user.now a.user_lengths.now a.subscription_identifiers.now
    a.content_type.now a.payload.now in
    first_laid (first_byte (publish h)) _ (f ++ b) a.out.now _ _ (c.first_byte.ensures a.topic.now a.response_topic.now a.correlation_data.now a.user.now a.user_lengths.now a.subscription_identifiers.now
    a.content_type.now a.payload.now) c.store.ensures (laid_last c.lay_front-next.ensures b c.lay_back.ensures)
