-- `json_lines::refusal` is right since its parts are put one behind the other. Assumes nothing.
use native.Mathlib.Omega.{arith}
use Rattle.json_text.proofs.Laws.{then}
use Rattle.json_lines.proofs.Laws.{put_as, refusal_text_lem}
use Rattle.json_lines.proofs.refusal.Goals as goal

pub returns : goal.returns
returns c =
    let v = rw c.values.ensures at c.values-c.ensures in
    put_as (then (omega arith) (then (omega arith) (then (omega arith) c.refusal_name-a.ensures c.put_word-b.ensures) v) c.put_word.ensures) (refusal_text_lem _)
