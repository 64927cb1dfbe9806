-- `publish_write::copy::copy` is right since all bytes are copied. Assumes nothing.
use mathlib.Core.Path.{refl}
use Rattle.publish_write.proofs.copy.copy.Goals as goal

pub returns : goal.returns
returns c = (c.copy_any.ensures, refl)
