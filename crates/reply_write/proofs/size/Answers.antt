-- `reply_write::size` is right since what it hands on is whether all belongs together, and R. Assumes nothing.
use mathlib.Core.Path.{◌∙◌}
use Rattle.records.specs.AsNumbers.{told_reply_kind}
use Rattle.writing.specs.Handed.{reply}
use Rattle.write_order.proofs.Laws.{sized_found}
use Rattle.reply_write.specs.Handed.{handed}
use Rattle.reply_write.proofs.size.Goals as goal

pub returns : goal.returns
returns c =
    let a = c.args in
    c.size.ensures ∙ sized_found (reply (told_reply_kind a.m.kind) (handed a.m a.reason_string.now a.user.now a.user_lengths.now a.reasons.now)) _ _ c.belongs.ensures c.rest.ensures
