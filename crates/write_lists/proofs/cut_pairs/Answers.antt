-- `write_lists::cut_pairs` is right since after each turn the pairs from the i-th length on, at the index `from` of the run, are left to put. Assumes nothing.
use mathlib.Core.Path.{ap, sym, ◌∙◌}
use Prim.Native.Nat.{◌+◌, ◌-◌}
use native.Mathlib.Omega.{arith}
use lib.ListN.{length, get_or}
use Rattle.write_runs.specs.Given.{run}
use Rattle.write_runs.proofs.Laws.Run.{piece_ends, piece_within}
use Rattle.write_properties.proofs.Laws.{put_more, all_put}
use Rattle.write_lists.proofs.Laws.{pair_count, pairs_cut, pairs_done}
use Rattle.write_lists.proofs.cut_pairs.Goals as goal

pub overflow_add-n : goal.overflow_add-n
overflow_add-n c =
    let a = c.args in
    let l = c.loop-i in
    let k = pair_count _ _ _ _ _ _ c.put_pair-n.ensures in
    let u = piece_ends a.bytes.now l.from _ l.invariant.2 _ c.after-mid.ensures in
    let w = piece_within a.bytes.now c.after-mid.result (get_or a.lengths.now (l.i + 1) 0) (omega (arith, c.after-mid.ensures)) in
    omega (arith, k, u, w, ap length c.piece.ensures.bytes, ap length c.piece-in-loop-i.ensures.bytes, l.invariant.1, c.loop-i-test.true)

pub loop-i-preserved : goal.loop-i-preserved
loop-i-preserved c =
    let a = c.args in
    let l = c.loop-i in
    let k = pair_count _ _ _ _ _ _ c.put_pair-n.ensures in
    let mid = c.after-mid in
    let u = piece_ends a.bytes.now l.from _ l.invariant.2 _ mid.ensures in
    let w = piece_ends a.bytes.now mid.result _ (omega (arith, mid.ensures)) _ c.after-from.ensures in
    let e = pairs_cut (run a.bytes.now a.lengths.now) l.i l.from _ _ mid.ensures c.after-from.ensures c.loop-i-test.true in
    (put_more l.invariant.0 _ _ (e ∙ rw (sym c.piece.ensures.bytes, sym c.piece-in-loop-i.ensures.bytes)) _ c.after-to.ensures _ _ c.put_pair-n.ensures, omega (arith, k, u, w, ap length c.piece.ensures.bytes, ap length c.piece-in-loop-i.ensures.bytes, l.invariant.1), omega (arith, c.after-from.ensures), omega (arith, c.loop-i-test.true))

pub returns : goal.returns
returns c =
    let a = c.args in
    let l = c.loop-i in
    (all_put l.invariant.0 (pairs_done (run a.bytes.now a.lengths.now) l.i l.from 0 0 c.loop-i-test.false), omega (arith, l.invariant.1))
