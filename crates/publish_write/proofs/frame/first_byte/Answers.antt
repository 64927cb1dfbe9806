-- `publish_write::frame::first_byte` is right since the flags are digits that do not meet. Assumes nothing.
use Rattle.publish_plan.specs.Handed.{handed}
use Rattle.publish_write.proofs.Parts.{first_all}
use Rattle.publish_write.proofs.frame.first_byte.Goals as goal

pub returns : goal.returns
returns c = λ t a b u l i d p. first_all (handed c.args.head t a b u l i d p) c.bit.ensures.0 c.qos_number.ensures c.bit-2.ensures.0
