-- `json_lines::two_values` is right since the second is put behind the first. Assumes nothing.
use native.Mathlib.Omega.{arith}
use Rattle.json_text.proofs.Laws.{then}
use Rattle.json_lines.proofs.two_values.Goals as goal

pub returns : goal.returns
returns c = then (omega arith) c.put_number-a.ensures c.put_number.ensures
