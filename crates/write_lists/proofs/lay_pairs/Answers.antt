-- `write_lists::lay_pairs` is right since after each turn the pairs from the i-th length on, at the index `from` of the run, are left to put, and where one has no room the rest are put by `cut_pairs`. Assumes nothing.
use Prim.Native.Nat.{◌+◌, ◌-◌}
use native.Mathlib.Omega.{arith}
use lib.ListN.{get_or}
use Rattle.write_runs.specs.Given.{run}
use Rattle.write_properties.proofs.Laws.{put_more, all_put}
use Rattle.write_lists.proofs.Laws.{pair_count, part_length, pairs_whole, pairs_done}
use Rattle.write_lists.proofs.lay_pairs.Goals as goal

pub overflow_add-n : goal.overflow_add-n
overflow_add-n c =
    let a = c.args in
    let l = c.loop-i in
    let w = c.is_cut.ensures c.if-is_cut.false in
    let k = get_or a.lengths.now l.i 0 in
    let v = get_or a.lengths.now (l.i + 1) 0 in
    let t = part_length a.bytes.now l.from k (omega (arith, w.0)) (l.from + k - l.from) (omega arith) in
    let u = part_length a.bytes.now (l.from + k) v (omega (arith, w.0)) (l.from + k + v - (l.from + k)) (omega arith) in
    omega (arith, w.1, t, u, pair_count _ _ _ _ _ _ c.lay_pair-n.ensures)

pub loop-i-preserved : goal.loop-i-preserved
loop-i-preserved c =
    let a = c.args in
    let l = c.loop-i in
    let w = c.is_cut.ensures c.if-is_cut.false in
    let k = get_or a.lengths.now l.i 0 in
    let v = get_or a.lengths.now (l.i + 1) 0 in
    let t = part_length a.bytes.now l.from k (omega (arith, w.0)) (l.from + k - l.from) (omega arith) in
    let u = part_length a.bytes.now (l.from + k) v (omega (arith, w.0)) (l.from + k + v - (l.from + k)) (omega arith) in
    let n = pair_count _ _ _ _ _ _ c.lay_pair-n.ensures in
    let e = pairs_whole (run a.bytes.now a.lengths.now) l.i l.from c.loop-i-test.true (omega (arith, w.0)) in
    let p = put_more l.invariant.0 _ _ e (a.at + l.n) (omega arith) _ _ c.lay_pair-n.ensures in
    (p, omega (arith, n, t, u, l.invariant.1), omega (arith, w.0), omega (arith, c.loop-i-test.true), omega (arith, n, t, u, w.1, p.same, l.invariant.0.same))

pub returns : goal.returns
returns c =
    let a = c.args in
    let l = c.loop-i in
    all_put l.invariant.0 (pairs_done (run a.bytes.now a.lengths.now) l.i l.from 0 0 c.loop-i-test.false)
