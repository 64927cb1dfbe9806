-- `utf8::is_all_ascii` meets its contract. The loop's invariant: the bytes that are left decide; then the last sixteen do. Assumes nothing.
use mathlib.Core.Path.{◌≡◌, sym, ap, ◌∙◌}
use mathlib.Core.Bool.{true}
use Prim.Native.Nat.{◌-◌}
use native.Mathlib.Omega.{arith}
use lib.ListN.{length, take}
use Rattle.text_chars.proofs.Laws.{ascii_split, last_decide}
use Rattle.utf8.specs.Text.{all_ascii}
use Rattle.utf8.proofs.Laws.{left_on}
use Rattle.utf8.proofs.is_all_ascii.Goals as goal

pub loop-run-preserved : goal.loop-run-preserved
loop-run-preserved c =
    let e = c.in-Some.ensures.cases in
    let i = c.loop-run.invariant in
    let r = c.loop-run.rest.now in
    let p : all_ascii (take 16 r) ≡ true = sym (c.if-not-is_ascii.ensures ∙ ap all_ascii e.0) in
    (omega (arith, e.2, i.0), rw e.1 (left_on c.args.s.now r 16 i.0 (omega (arith, e.2)) i.1), rw e.1 (i.2 ∙ rw p at (ascii_split 16 r)))

pub returns : goal.returns
returns c =
    let s = c.args.s.now in
    let i = c.loop-run.invariant in
    let r = length c.loop-run.rest.now in
    c.is_ascii-2.ensures ∙ last_decide s (length s - r) (length s - 16) (length s - (length s - 16)) (omega (arith, c.in_default.ensures.cases)) (omega arith) (i.2 ∙ ap all_ascii i.1)
