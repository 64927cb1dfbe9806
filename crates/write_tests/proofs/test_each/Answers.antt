-- `write_tests::test_each` is right since the texts from the i-th on, at the index `at` of the run, decide. Assumes nothing.
use mathlib.Core.Path.{refl, ap, ◌∙◌}
use mathlib.Core.List.{List, map}
use Prim.Native.Nat.{ℕ}
use Rattle.records.proofs.Laws.{handed_on}
use Rattle.writing.specs.Order.{judge, word, field_tests}
use Rattle.writing.proofs.ForCode.{strings_done}
use Rattle.write_runs.specs.Given.{run}
use Rattle.write_runs.proofs.Laws.Run.{strings_cut}
use Rattle.write_tests.proofs.Laws.{field_refused, field_passed, fields_done}
use Rattle.write_tests.proofs.test_each.Goals as goal

pub loop-n-init : goal.loop-n-init
loop-n-init c = record { same = refl }

pub returns-in_err-test_word : goal.returns-in_err-test_word
returns-in_err-test_word c =
    let a = c.args in
    let l = c.loop-n in
    let w = c.in_err-test_word.ensures ∙ ap (λ (s : List ℕ). judge (field_tests (word s))) c.piece.ensures.bytes in
    handed_on _ _ _ c.from_residual.ensures.1 (field_refused l.invariant _ _ (ap (map word) (strings_cut (run a.bytes.now a.lengths.now) l.n-index l.at _ refl c.loop-n-test.true)) _ w)

pub loop-n-preserved : goal.loop-n-preserved
loop-n-preserved c =
    let a = c.args in
    let l = c.loop-n in
    let w = c.in_ok-test_word.ensures ∙ ap (λ (s : List ℕ). judge (field_tests (word s))) c.piece.ensures.bytes in
    field_passed l.invariant _ _ (ap (map word) (strings_cut (run a.bytes.now a.lengths.now) l.n-index l.at _ c.after-at.ensures c.loop-n-test.true)) w

pub returns : goal.returns
returns c =
    let a = c.args in
    let l = c.loop-n in
    fields_done l.invariant (ap (map word) (strings_done (run a.bytes.now a.lengths.now) l.n-index l.at c.loop-n-test.false))
