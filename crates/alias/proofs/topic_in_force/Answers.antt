-- `alias::topic_in_force` is right since `part` hands back what lies at the place. Assumes nothing.
use mathlib.Core.Path.{sym, ap, ◌∙◌}
use Rattle.alias.specs.AliasAnswer.{told_placed}
use Rattle.alias.proofs.topic_in_force.Goals as goal

pub returns-in-Ok-InPacket : goal.returns-in-Ok-InPacket
returns-in-Ok-InPacket c = rw (sym c.place_in_force.ensures ∙ ap told_placed c.in-Ok-InPacket.is, c.in-Ok-InPacket.field-0-is) c.part.ensures

pub returns-in-Ok-InTable : goal.returns-in-Ok-InTable
returns-in-Ok-InTable c = rw (sym c.place_in_force.ensures ∙ ap told_placed c.in-Ok-InTable.is, c.in-Ok-InTable.field-0-is) c.part-in-Ok-InTable.ensures

pub returns-in-Err : goal.returns-in-Err
returns-in-Err c = rw (sym c.place_in_force.ensures ∙ ap told_placed c.in-Err.is) c.part-in-Err.ensures
