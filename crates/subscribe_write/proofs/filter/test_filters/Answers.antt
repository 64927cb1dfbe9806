-- `subscribe_write::filter::test_filters` is right since the filters from the i-th on, their texts at the index `at` of the run, decide. Assumes nothing.
use mathlib.Core.Path.{refl, ap, ◌∙◌}
use mathlib.Core.List.{[], ◌∷◌, map}
use Prim.Native.Nat.{◌<◌, min}
use native.Mathlib.Omega.{arith}
use Rattle.std.proofs.Common.{rules}
use Rattle.std.proofs.lemmas.Slice.Zip.{zip_turn, zip_end}
use lib.ListN.{length, length-append}
use Rattle.records.proofs.Laws.{handed_on}
use Rattle.writing.specs.Order.{filter_field}
use Rattle.write_runs.specs.Given.{run}
use Rattle.write_tests.proofs.Laws.{field_refused, field_passed, fields_done}
use Rattle.subscribe_write.proofs.Filters.{filters_cut, filters_done}
use Rattle.subscribe_write.proofs.filter.test_filters.Goals as goal

pub returns-in_err-test_filter : goal.returns-in_err-test_filter
returns-in_err-test_filter c =
    let a = c.args in
    let l = c.loop-n in
    let k = zip_turn a.lengths.now a.options.now l.yielded c.into_iter-n-iterator.result l.n-iterator c.next.new.self c.next.result (search rules) (search rules) l.yielded_by (c.in-Some.n, c.in-Some.option) c.in-Some.is c.next.ensures.steps in
    let w = c.in_err-test_filter.ensures ∙ rw (c.piece.ensures.bytes, k.2 0, k.3 0) in
    handed_on _ _ _ c.from_residual.ensures.1 (field_refused l.invariant _ _ (ap (map filter_field) (filters_cut (run a.bytes.now a.lengths.now) (length l.yielded) l.at _ refl a.options.now (omega (arith, k.0, k.1)))) _ w)

pub loop-n-preserved : goal.loop-n-preserved
loop-n-preserved c =
    let a = c.args in
    let l = c.loop-n in
    let k = zip_turn a.lengths.now a.options.now l.yielded c.into_iter-n-iterator.result l.n-iterator c.next.new.self c.next.result (search rules) (search rules) l.yielded_by (c.in-Some.n, c.in-Some.option) c.in-Some.is c.next.ensures.steps in
    let w = c.in_ok-test_filter.ensures ∙ rw (c.piece.ensures.bytes, k.2 0, k.3 0) in
    let h : length l.yielded < min (length a.lengths.now) (length a.options.now) = omega (arith, k.0, k.1) in
    let d = field_passed l.invariant _ _ (ap (map filter_field) (filters_cut (run a.bytes.now a.lengths.now) (length l.yielded) l.at c.after-at.result (c.after-at.ensures ∙ rw (k.2 0)) a.options.now h)) w in
    rw (length-append l.yielded ((c.in-Some.n, c.in-Some.option) ∷ [])) d

pub returns : goal.returns
returns c =
    let a = c.args in
    let l = c.loop-n in
    let e = zip_end a.lengths.now a.options.now l.yielded c.into_iter-n-iterator.result l.n-iterator c.next.new.self c.next.result (search rules) (search rules) l.yielded_by c.in-None.is c.next.ensures.steps in
    fields_done l.invariant (ap (map filter_field) (filters_done (run a.bytes.now a.lengths.now) (length l.yielded) l.at a.options.now (omega (arith, e))))
