-- `refusal_names::name` is right since a refusal has the name of its row. Assumes nothing.
use Rattle.refusal_names.proofs.name.Goals as goal

pub returns : goal.returns
returns c = rw (c.name_at.ensures, c.number.ensures)
