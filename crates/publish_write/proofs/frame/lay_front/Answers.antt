-- `publish_write::frame::lay_front` is right since R, the topic and the identifier stand one behind the other. Assumes nothing.
use mathlib.Core.List.{◌++◌}
use native.Mathlib.Omega.{arith}
use Rattle.writing.specs.Spell.{short, string}
use Rattle.writing.specs.Write.{ident_bytes}
use Rattle.writing.proofs.Sizes.{length_string}
use Rattle.records.specs.AsNumbers.{told_qos}
use Rattle.publish_write.proofs.Lay.{length_laid, laid_then, room_first, room_rest}
use Rattle.publish_write.proofs.Parts.{whole_laid}
use Rattle.publish_write.proofs.frame.lay_front.Goals as goal

pub overflow_add-second : goal.overflow_add-second
overflow_add-second c =
    let a = c.args in
    let t = string a.topic.now in
    let i = ident_bytes (told_qos a.head.qos) a.head.pkid in
    omega (arith, (length_laid a.rest c.requires.1 {l = a.out.now} {at = 1} c.put_length-second.ensures).place, (room_first a.out.now (short a.rest) (t ++ i) 1 c.requires.0).fits)

pub lay_string-third-requires : goal.lay_string-third-requires
lay_string-third-requires c =
    let a = c.args in
    let t = string a.topic.now in
    let i = ident_bytes (told_qos a.head.qos) a.head.pkid in
    let p = length_laid a.rest c.requires.1 {l = a.out.now} {at = 1} c.put_length-second.ensures in
    (omega arith, omega (arith, length_string a.topic.now, (room_first _ t i _ (room_rest p (t ++ i) c.requires.0)).fits))

pub lay_pkid-requires : goal.lay_pkid-requires
lay_pkid-requires c =
    let a = c.args in
    let t = string a.topic.now in
    let i = ident_bytes (told_qos a.head.qos) a.head.pkid in
    let p = length_laid a.rest c.requires.1 {l = a.out.now} {at = 1} c.put_length-second.ensures in
    rw c.qos_number.ensures (room_rest (whole_laid a.topic.now c.lay_string-third.ensures) i (room_rest p (t ++ i) c.requires.0))

pub returns : goal.returns
returns c =
    let a = c.args in
    let p = length_laid a.rest c.requires.1 {l = a.out.now} {at = 1} c.put_length-second.ensures in
    laid_then p (laid_then (whole_laid a.topic.now c.lay_string-third.ensures) (rw c.qos_number.ensures at c.lay_pkid.ensures))
