-- `json_lines::values` is right since it is for none, one and two. Assumes nothing.
use Rattle.json_lines.proofs.values.Goals as goal

pub returns-in-None : goal.returns-in-None
returns-in-None c = rw c.in-None.is c.put_word.ensures

pub returns-in-One : goal.returns-in-One
returns-in-One c = rw c.in-One.is c.put_number.ensures

pub returns-in-Two : goal.returns-in-Two
returns-in-Two c = rw c.in-Two.is c.two_values.ensures
