-- `write_properties::put_number` is right since the identifier stands before the number. Assumes nothing.
use Rattle.write_properties.proofs.put_number.Goals as goal

pub returns : goal.returns
returns c = c.put_counted.ensures
