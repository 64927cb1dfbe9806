-- `property_value::find_property` is right since the identifier that was read says the form of the value behind it. Assumes nothing.
use mathlib.Core.Path.{refl}
use Rattle.reading.specs.Read.{value_at}
use Rattle.positions.specs.Position.{from_at}
use Rattle.property_value.proofs.Laws.{property_refused, property_read}
use Rattle.property_value.proofs.find_property.Goals as goal

pub returns-in-Err : goal.returns-in-Err
returns-in-Err c = property_refused _ _ _ _ (rw c.in-Err.is at c.read_u8.ensures)

pub returns-in-None : goal.returns-in-None
unfolding from_at value_at
returns-in-None c = property_read _ _ _ _ _ (rw c.in-Ok.is at c.read_u8.ensures) _ _ (rw c.in-None.is at c.property.ensures) (record { says = refl; typed = tt })

pub returns-in-Some : goal.returns-in-Some
returns-in-Some c = property_read _ _ _ _ _ (rw c.in-Ok.is at c.read_u8.ensures) _ _ (rw c.in-Some.is at c.property.ensures) c.read_value.ensures
