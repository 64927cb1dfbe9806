-- `publish_write::frame::lay_back` is right since L, the properties and the payload stand one behind the other. Assumes nothing.
use mathlib.Core.List.{◌++◌}
use native.Mathlib.Omega.{arith}
use lib.Seq.{take-length}
use Rattle.writing.specs.Spell.{short}
use Rattle.publish_write.specs.Laid.{all_rows}
use Rattle.publish_write.proofs.Lay.{length_laid, laid_last, room_first, room_rest}
use Rattle.publish_write.proofs.frame.lay_back.Goals as goal

pub overflow_add-second : goal.overflow_add-second
overflow_add-second c =
    let a = c.args in
    let x = all_rows a.head a.response_topic.now a.correlation_data.now a.user.now a.user_lengths.now a.subscription_identifiers.now a.content_type.now in
    let y = a.payload.now in
    omega (arith, (length_laid a.properties c.requires.3 {l = a.out.now} {at = a.at} c.put_length.ensures).place, (room_first a.out.now (short a.properties) (x ++ y) a.at c.requires.1).fits)

pub lay_properties-third-requires : goal.lay_properties-third-requires
lay_properties-third-requires c =
    let a = c.args in
    let x = all_rows a.head a.response_topic.now a.correlation_data.now a.user.now a.user_lengths.now a.subscription_identifiers.now a.content_type.now in
    let y = a.payload.now in
    let p = length_laid a.properties c.requires.3 {l = a.out.now} {at = a.at} c.put_length.ensures in
    (c.requires.0, room_first _ x y _ (room_rest p (x ++ y) c.requires.1), c.requires.2)

pub copy-requires : goal.copy-requires
copy-requires c =
    let a = c.args in
    let x = all_rows a.head a.response_topic.now a.correlation_data.now a.user.now a.user_lengths.now a.subscription_identifiers.now a.content_type.now in
    let y = a.payload.now in
    let p = length_laid a.properties c.requires.3 {l = a.out.now} {at = a.at} c.put_length.ensures in
    (omega arith, (room_rest c.lay_properties-third.ensures y (room_rest p (x ++ y) c.requires.1)).fits)

pub returns : goal.returns
returns c =
    let a = c.args in
    let x = all_rows a.head a.response_topic.now a.correlation_data.now a.user.now a.user_lengths.now a.subscription_identifiers.now a.content_type.now in
    let y = a.payload.now in
    let p = length_laid a.properties c.requires.3 {l = a.out.now} {at = a.at} c.put_length.ensures in
    laid_last p (x ++ y) (laid_last c.lay_properties-third.ensures y (rw (take-length a.payload.now) at c.copy.ensures.0))
