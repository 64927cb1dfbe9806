-- `write_lists::put_ids` is right since after each turn the identifiers from the i-th on are left to put. Assumes nothing.
use native.Mathlib.Omega.{arith}
use Rattle.write_properties.proofs.Laws.{put_more}
use Rattle.write_lists.proofs.Laws.{ids_more}
use Rattle.write_lists.proofs.put_ids.Goals as goal

pub loop-id-preserved : goal.loop-id-preserved
loop-id-preserved c =
    let a = c.args in
    let l = c.loop-id in
    (put_more l.invariant.0 _ _ (ids_more a.ids.now l.id-index c.loop-id-test.true) _ c.after-to.ensures _ _ c.put_number-n.ensures.0, omega arith)
