-- `c_pieces::frame_numbers` is right since each is laid out as the header says. Assumes nothing.
use Rattle.c_pieces.proofs.frame_numbers.Goals as goal

pub returns-in-Err : goal.returns-in-Err
returns-in-Err c = rw (c.in-Err.is, c.first_value.ensures, c.second_value.ensures, c.values-v.ensures)
