-- `write_properties::put_header` is right since R stands behind the first byte, as a number behind its identifier. Assumes nothing.
use Rattle.write_properties.proofs.put_header.Goals as goal

pub returns : goal.returns
returns c = c.put_counted.ensures.0
