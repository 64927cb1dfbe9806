-- `ack_write::size` is right since what it hands on is whether all belongs together, and R. Assumes nothing.
use mathlib.Core.Path.{◌∙◌}
use Rattle.writing.specs.Handed.{ack}
use Rattle.write_order.proofs.Laws.{sized_found}
use Rattle.records.specs.AsNumbers.{told_ack_kind}
use Rattle.ack_write.specs.Handed.{handed}
use Rattle.ack_write.proofs.size.Goals as goal

pub returns : goal.returns
returns c = let a = c.args in c.size.ensures ∙ sized_found (ack (told_ack_kind a.m.kind) (handed a.m a.reason_string.now a.user.now a.user_lengths.now)) _ _ c.belongs.ensures c.rest.ensures
