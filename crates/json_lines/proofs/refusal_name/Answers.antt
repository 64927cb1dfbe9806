-- `json_lines::refusal_name` is right since its parts are put one behind the other. Assumes nothing.
use native.Mathlib.Omega.{arith}
use Rattle.json_text.proofs.Laws.{then}
use Rattle.json_lines.proofs.refusal_name.Goals as goal

pub returns : goal.returns
returns c = then (omega arith) (then (omega arith) (rw c.number.ensures at c.put_number-a.ensures) c.put_word-b.ensures) c.name.ensures
