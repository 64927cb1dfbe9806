-- `ack_write::rest` is right since R is the identifier alone, or the reason and the block too. Assumes nothing.
use mathlib.Core.Path.{sym, ◌∙◌}
use Rattle.records.specs.AsNumbers.{told_ack_kind}
use Rattle.ack_write.specs.Handed.{handed}
use Rattle.ack_write.proofs.Laws.{rest_plain, rest_full}
use Rattle.ack_write.proofs.rest.Goals as goal

pub returns-then-is_plain : goal.returns-then-is_plain
returns-then-is_plain c =
    let a = c.args in
    rest_plain (told_ack_kind a.m.kind) (handed a.m a.reason_string.now a.user.now a.user_lengths.now) (sym c.is_plain.ensures ∙ c.if-is_plain.true)

pub returns : goal.returns
returns c =
    let a = c.args in
    rest_full (told_ack_kind a.m.kind) (handed a.m a.reason_string.now a.user.now a.user_lengths.now) (sym c.is_plain.ensures ∙ c.if-is_plain.false) _ _ _ c.rows_length-len.ensures c.with_length.ensures c.add.ensures
