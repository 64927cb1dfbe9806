-- `publish_write::copy::copy_any` is right since each count of bytes has a copy. Assumes nothing.
use Rattle.publish_write.proofs.copy.copy_any.Goals as goal

pub returns-then-n-ge16 : goal.returns-then-n-ge16
returns-then-n-ge16 c = c.copy_sixteens.ensures

pub returns-then-n-ge8 : goal.returns-then-n-ge8
returns-then-n-ge8 c = c.copy_eights.ensures

pub returns-then-n-ge4 : goal.returns-then-n-ge4
returns-then-n-ge4 c = c.copy_fours.ensures

pub returns-else-n-ge4 : goal.returns-else-n-ge4
returns-else-n-ge4 c = c.copy_few.ensures
