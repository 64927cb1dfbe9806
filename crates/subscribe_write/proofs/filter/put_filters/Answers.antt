-- `subscribe_write::filter::put_filters` is right since after each turn the filters from the i-th on, their texts at the index `from` of the run, are left to put. Assumes nothing.
use mathlib.Core.Path.{ap, ◌∙◌}
use mathlib.Core.List.{[], ◌∷◌}
use Prim.Native.Nat.{◌<◌, min}
use native.Mathlib.Omega.{arith}
use Rattle.std.proofs.Common.{rules}
use Rattle.std.proofs.lemmas.Slice.Zip.{zip_turn, zip_end}
use lib.ListN.{length, length-append}
use Rattle.writing.specs.Lists.{flat}
use Rattle.write_runs.specs.Given.{run}
use Rattle.write_runs.proofs.Laws.Run.{piece_ends, piece_within}
use Rattle.write_properties.proofs.Laws.{put_more, all_put}
use Rattle.subscribe_write.specs.Fitting.{fit_filter}
use Rattle.subscribe_write.proofs.Filters.{filters_cut, filters_done, filter_most}
use Rattle.subscribe_write.proofs.filter.put_filters.Goals as goal

pub overflow_add-n : goal.overflow_add-n
overflow_add-n c =
    let a = c.args in
    let l = c.loop-k in
    let t = zip_turn a.lengths.now a.options.now l.yielded c.into_iter-k-iterator.result l.k-iterator c.next.new.self c.next.result (search rules) (search rules) l.yielded_by (c.in-Some.k, c.in-Some.option) c.in-Some.is c.next.ensures.steps in
    let m = filter_most _ _ _ _ _ _ c.put_filter-n.ensures in
    let w = piece_within a.bytes.now l.from c.in-Some.k.now l.invariant.2 in
    omega (arith, m, w, ap length c.piece.ensures.bytes, l.invariant.1, t.0)

pub loop-k-preserved : goal.loop-k-preserved
loop-k-preserved c =
    let a = c.args in
    let l = c.loop-k in
    let t = zip_turn a.lengths.now a.options.now l.yielded c.into_iter-k-iterator.result l.k-iterator c.next.new.self c.next.result (search rules) (search rules) l.yielded_by (c.in-Some.k, c.in-Some.option) c.in-Some.is c.next.ensures.steps in
    let m = filter_most _ _ _ _ _ _ c.put_filter-n.ensures in
    let w = piece_ends a.bytes.now l.from _ l.invariant.2 _ c.after-from.ensures in
    let h : length l.yielded < min (length a.lengths.now) (length a.options.now) = omega (arith, t.0, t.1) in
    let e = ap (flat fit_filter) (filters_cut (run a.bytes.now a.lengths.now) (length l.yielded) l.from c.after-from.result (c.after-from.ensures ∙ rw (t.2 0)) a.options.now h) in
    let d = put_more l.invariant.0 _ _ (e ∙ rw (c.piece.ensures.bytes, t.2 0, t.3 0)) _ c.after-to.ensures _ _ c.put_filter-n.ensures in
    rw (length-append l.yielded ((c.in-Some.k, c.in-Some.option) ∷ []))
    (d, omega (arith, m, w, ap length c.piece.ensures.bytes, l.invariant.1), omega (arith, c.after-from.ensures))

pub returns : goal.returns
returns c =
    let a = c.args in
    let l = c.loop-k in
    let e = zip_end a.lengths.now a.options.now l.yielded c.into_iter-k-iterator.result l.k-iterator c.next.new.self c.next.result (search rules) (search rules) l.yielded_by c.in-None.is c.next.ensures.steps in
    all_put l.invariant.0 (ap (flat fit_filter) (filters_done (run a.bytes.now a.lengths.now) (length l.yielded) l.from a.options.now (omega (arith, e))))
