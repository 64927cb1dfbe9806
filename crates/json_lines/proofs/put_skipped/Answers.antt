-- `json_lines::put_skipped` is right since its parts are put one behind the other. Assumes nothing.
use native.Mathlib.Omega.{arith}
use Rattle.json_text.proofs.Laws.{then}
use Rattle.json_lines.proofs.Laws.{put_as, skipped_line_lem}
use Rattle.json_lines.proofs.put_skipped.Goals as goal

pub returns : goal.returns
returns c = put_as (then (omega arith) (then (omega arith) c.put_head-a.ensures c.put_number-b.ensures) c.put_word.ensures) (skipped_line_lem _ _ _ _)
