-- `c_pieces::state_numbers` is right since each is laid out as the header says. Assumes nothing.
use Rattle.c_pieces.proofs.state_numbers.Goals as goal

pub returns-in-None : goal.returns-in-None
returns-in-None c = rw c.in-None.is

pub returns-in-Some : goal.returns-in-Some
returns-in-Some c = rw (c.in-Some.is, c.number-number.ensures, c.first_value.ensures, c.second_value.ensures, c.values-v.ensures)
