-- `json_text::put_number` is right since the number is put behind the words. Assumes nothing.
use native.Mathlib.Omega.{arith}
use Rattle.json_text.proofs.Laws.{then}
use Rattle.json_text.proofs.put_number.Goals as goal

pub returns : goal.returns
returns c = then (omega arith) c.put_word-next.ensures c.put_decimal.ensures
