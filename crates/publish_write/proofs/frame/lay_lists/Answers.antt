-- `publish_write::frame::lay_lists` is right since the rows stand one behind the other. Assumes nothing.
use mathlib.Core.List.{◌++◌}
use native.Mathlib.Omega.{arith}
use Rattle.grammar.specs.Tables.{number, text, pair}
use Rattle.writing.specs.Handed.{several}
use Rattle.writing.specs.Spell.{row_bytes}
use Rattle.write_runs.specs.Given.{given_lent, given_pairs}
use Rattle.publish_write.proofs.Lay.{ids_laid, laid_then, room_first, room_rest}
use Rattle.publish_write.proofs.Parts.{lent_room}
use Rattle.publish_write.proofs.frame.lay_lists.Goals as goal

pub overflow_add-third : goal.overflow_add-third
overflow_add-third c =
    let a = c.args in
    let x = row_bytes (38, pair) (given_pairs a.user.now a.user_lengths.now) in
    let y = row_bytes (11, number) (several a.subscription_identifiers.now) in
    let z = row_bytes (3, text) (given_lent a.head.content_type a.content_type.now) in
    omega (arith, (ids_laid a.subscription_identifiers.now c.requires.2 c.put_ids.ensures).place, (room_first _ y z _ (room_rest c.lay_pairs-second.ensures (y ++ z) c.requires.1)).fits)

pub lay_lent-requires : goal.lay_lent-requires
lay_lent-requires c =
    let a = c.args in
    let x = row_bytes (38, pair) (given_pairs a.user.now a.user_lengths.now) in
    let y = row_bytes (11, number) (several a.subscription_identifiers.now) in
    let z = row_bytes (3, text) (given_lent a.head.content_type a.content_type.now) in
    lent_room 3 text a.head.content_type a.content_type.now _ _ (room_rest (ids_laid a.subscription_identifiers.now c.requires.2 c.put_ids.ensures) z (room_rest c.lay_pairs-second.ensures (y ++ z) c.requires.1))

pub returns : goal.returns
returns c =
    let a = c.args in
    laid_then c.lay_pairs-second.ensures (laid_then (ids_laid a.subscription_identifiers.now c.requires.2 c.put_ids.ensures) (c.lay_lent.ensures text))
