-- `publish_write::frame::lay_strings` is right since the rows stand one behind the other. Assumes nothing.
use Rattle.grammar.specs.Tables.{text, bytes}
use Rattle.writing.specs.Spell.{row_bytes}
use Rattle.write_runs.specs.Given.{given_lent}
use Rattle.publish_write.proofs.Lay.{laid_then, room_first, room_rest}
use Rattle.publish_write.proofs.Parts.{lent_room}
use Rattle.publish_write.proofs.frame.lay_strings.Goals as goal

pub lay_lent-second-requires : goal.lay_lent-second-requires
lay_lent-second-requires c =
    let a = c.args in
    let x = row_bytes (8, text) (given_lent a.head.response_topic a.response_topic.now) in
    let y = row_bytes (9, bytes) (given_lent a.head.correlation_data a.correlation_data.now) in
    lent_room 8 text a.head.response_topic a.response_topic.now a.out.now a.at (room_first a.out.now x y a.at c.requires)

pub lay_lent-requires : goal.lay_lent-requires
lay_lent-requires c =
    let a = c.args in
    let x = row_bytes (8, text) (given_lent a.head.response_topic a.response_topic.now) in
    let y = row_bytes (9, bytes) (given_lent a.head.correlation_data a.correlation_data.now) in
    lent_room 9 bytes a.head.correlation_data a.correlation_data.now _ _ (room_rest (c.lay_lent-second.ensures text) y c.requires)

pub returns : goal.returns
returns c = laid_then (c.lay_lent-second.ensures text) (c.lay_lent.ensures bytes)
