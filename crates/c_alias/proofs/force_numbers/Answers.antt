-- `c_alias::force_numbers` is right since a place is told with the slice that it lies in. Assumes nothing.
use Rattle.c_alias.proofs.force_numbers.Goals as goal

pub returns-in-Err : goal.returns-in-Err
returns-in-Err c = rw c.in-Err.is
