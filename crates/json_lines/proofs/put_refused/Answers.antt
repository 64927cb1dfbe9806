-- `json_lines::put_refused` is right since its parts are put one behind the other. Assumes nothing.
use native.Mathlib.Omega.{arith}
use Rattle.json_text.proofs.Laws.{then}
use Rattle.json_lines.proofs.Laws.{put_as, refused_line_lem}
use Rattle.json_lines.proofs.put_refused.Goals as goal

pub returns : goal.returns
returns c = put_as (then (omega arith) c.put_head-a.ensures c.refusal.ensures) (refused_line_lem _ _ _ _)
