-- `property_value::pass_listed` is right since the identifier that was read says whether a list's value is to follow. Assumes nothing.
use mathlib.Core.Path.{refl}
use Rattle.tables.proofs.Laws.{lookup_absent}
use Rattle.property_value.specs.OneProperty.{publish_lists}
use Rattle.property_value.proofs.Laws.{past_none, past_in, past_out}
use Rattle.property_value.proofs.pass_listed.Goals as goal

pub returns-in-Err : goal.returns-in-Err
returns-in-Err c = past_none _ _ _ (rw c.in-Err.is at c.read_u8.ensures)

pub returns-in-38 : goal.returns-in-38
returns-in-38 c =
    past_in _ _ _ _ _ (rw c.in-Ok.is at c.read_u8.ensures) _ _ _ c.in-38.is refl c.pass_pair.ensures

pub returns-in-11 : goal.returns-in-11
returns-in-11 c =
    past_in _ _ _ _ _ (rw c.in-Ok.is at c.read_u8.ensures) _ _ _ c.in-11.is refl c.pass_number.ensures

pub returns-in-0-to-10 : goal.returns-in-0-to-10
returns-in-0-to-10 c =
    past_out _ _ _ _ _ (rw c.in-Ok.is at c.read_u8.ensures) (lookup_absent publish_lists.forms _ c.in-0-to-10.in-0-to-10-own.rest)
