-- `json_lines::put_head` is right since its parts are put one behind the other. Assumes nothing.
use native.Mathlib.Omega.{arith}
use Rattle.json_text.proofs.Laws.{then}
use Rattle.json_lines.proofs.Laws.{put_as, head_text_lem}
use Rattle.json_lines.proofs.put_head.Goals as goal

pub returns : goal.returns
returns c = put_as (then (omega arith) (then (omega arith) (then (omega arith) (then (omega arith) c.put_number-a.ensures c.put_number-b.ensures) c.put_word-c.ensures) c.put_word-d.ensures) c.put_number.ensures) (head_text_lem _ _ _ _)
