-- `filter_table::put_entries` is right since each turn puts the entry at its index, and goes on where that entry ends. Assumes nothing.
use mathlib.Core.Path.{◌≡◌, ap, ◌∙◌}
use mathlib.Core.List.{List, ◌++◌}
use Prim.Native.Nat.{ℕ, suc, ◌-◌}
use native.Mathlib.Numerals.{add-one}
use native.Mathlib.Omega.{arith}
use lib.ListN.{set, length, take, drop, take-append-drop}
use lib.Seq.{length-take-le}
use Rattle.filter_table.specs.Table.{fill_from}
use Rattle.filter_table.specs.declared.FilterEntry.{FilterEntry}
use Rattle.filter_table.proofs.Laws.{fill_append}
use Rattle.filter_table.proofs.put_entries.Goals as goal

pub loop-place-preserved : goal.loop-place-preserved
loop-place-preserved c =
    let l = c.loop-place in
    let k : ℕ = c.args.n - suc l.place-index in
    let m : c.args.n - l.place-index ≡ suc k = omega (arith, c.loop-place-test.true, length-take-le c.args.n c.args.table.now c.requires) in
    rw (add-one l.place-index)
    (ap (λ (z : FilterEntry × ℕ). fill_from c.args.s.now c.args.end k z.1 (suc l.place-index) (set l.place-items l.place-index z.0)) c.entry_at-e.ensures.is
    ∙ (rw m at l.invariant))

pub returns : goal.returns
returns c =
    let l = c.loop-place in
    let t = c.args.table.now in
    let e : length (take c.args.n t) ≡ c.args.n = length-take-le c.args.n t c.requires in
    let z : c.args.n - l.place-index ≡ 0 = omega (arith, c.loop-place-test.false, e) in
    let q = rw z at l.invariant in
    ap (λ (ys : List FilterEntry). ys ++ drop c.args.n t) q
    ∙ fill_append c.args.s.now c.args.end c.args.n c.args.at 0 (take c.args.n t) (drop c.args.n t) (omega (arith, e))
    ∙ ap (fill_from c.args.s.now c.args.end c.args.n c.args.at 0) (take-append-drop c.args.n t)
