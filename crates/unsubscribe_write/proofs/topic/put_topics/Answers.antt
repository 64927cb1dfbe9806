-- `unsubscribe_write::topic::put_topics` is right since after each turn the topics from the i-th on, their texts at the index `from` of the run, are left to put. Assumes nothing.
use mathlib.Core.Path.{ap, sym, ◌∙◌}
use native.Mathlib.Omega.{arith}
use lib.ListN.{length, get_or}
use Rattle.write_runs.specs.Given.{run}
use Rattle.write_runs.proofs.Laws.Run.{piece_ends, piece_within}
use Rattle.write_properties.proofs.Laws.{put_more}
use Rattle.unsubscribe_write.proofs.Topics.{topics_cut, topic_put, topic_most}
use Rattle.unsubscribe_write.proofs.topic.put_topics.Goals as goal

pub overflow_add-n : goal.overflow_add-n
overflow_add-n c =
    let a = c.args in
    let l = c.loop-k in
    let k = topic_most _ _ c.put_string-n.ensures.1 in
    let w = piece_within a.bytes.now l.from (get_or a.lengths.now l.k-index 0) l.invariant.2 in
    omega (arith, k, w, ap length c.piece.ensures.bytes, l.invariant.1, c.loop-k-test.true)

pub loop-k-preserved : goal.loop-k-preserved
loop-k-preserved c =
    let a = c.args in
    let l = c.loop-k in
    let k = topic_most _ _ c.put_string-n.ensures.1 in
    let w = piece_ends a.bytes.now l.from _ l.invariant.2 _ c.after-from.ensures in
    let e = topics_cut (run a.bytes.now a.lengths.now) l.k-index l.from _ c.after-from.ensures c.loop-k-test.true in
    (put_more l.invariant.0 _ _ (e ∙ rw (sym c.piece.ensures.bytes)) _ c.after-to.ensures _ _ (topic_put _ _ _ _ _ c.put_string-n.ensures), omega (arith, k, w, ap length c.piece.ensures.bytes, l.invariant.1), omega (arith, c.after-from.ensures))
