-- `publish_write::frame::lay_pairs` is right since after each turn the pairs from the i-th length on, at the index `from` of the run, are left to lay. Assumes nothing.
use mathlib.Core.Path.{◌≡◌, ap}
use mathlib.Core.List.{[], ◌∷◌, ◌++◌}
use Prim.Native.Nat.{ℕ, ◌+◌, ◌*◌}
use native.Mathlib.Omega.{arith}
use lib.ListN.{length, take, drop, get_or, length-append}
use Rattle.grammar.specs.Tables.{pair}
use Rattle.writing.specs.Handed.{pairs}
use Rattle.writing.specs.Spell.{string, row_bytes}
use Rattle.writing.proofs.ForCode.{run_from}
use Rattle.write_runs.specs.Given.{run}
use Rattle.publish_write.proofs.Parts.{laying_more, laying_end, pairs_next, pairs_none, sum_next, part_length, pair_length}
use Rattle.publish_write.proofs.Turns.{pair_turn, pair_end}
use Rattle.publish_write.proofs.frame.lay_pairs.Goals as goal

pub lay_pair-to-requires : goal.lay_pair-to-requires
lay_pair-to-requires c =
    let a = c.args in
    let l = c.loop-pair in
    let i : ℕ = 2 * length l.yielded in
    let t = pair_turn l.invariant.2 c.next.new.self c.in-Some.pair c.in-Some.is c.next.ensures.steps in
    let r = run a.bytes.now a.lengths.now in
    let k = get_or a.lengths.now i 0 in
    let v = get_or a.lengths.now (i + 1) 0 in
    let s = sum_next a.lengths.now i t.0 in
    let x = take k (drop l.from a.bytes.now) in
    let y = take v (drop (l.from + k) a.bytes.now) in
    let f = l.from + k + v in
    let p = pairs_next r i l.from t.0 in
    let u = row_bytes (38, pair) (pairs (run_from r (i + 2) f)) in
    rw (t.1, t.2) (
      omega (arith, s, l.invariant.1),
      omega (
        arith,
        l.invariant.0.count,
        l.invariant.0.same,
        c.requires.1.fits,
        ap length p,
        length-append (38 ∷ (string x ++ string y)) u,
        pair_length x y,
        part_length a.bytes.now l.from k (omega (arith, s, l.invariant.1)),
        part_length a.bytes.now (l.from + k) v (omega (arith, s, l.invariant.1)),
      ),
    )

pub loop-pair-preserved : goal.loop-pair-preserved
loop-pair-preserved c =
    let a = c.args in
    let l = c.loop-pair in
    let i : ℕ = 2 * length l.yielded in
    let t = pair_turn l.invariant.2 c.next.new.self c.in-Some.pair c.in-Some.is c.next.ensures.steps in
    let s = sum_next a.lengths.now i t.0 in
    let m : 2 * length (l.yielded ++ (c.in-Some.pair ∷ [])) ≡ i + 2 = omega (arith, length-append l.yielded (c.in-Some.pair ∷ [])) in
    let d = laying_more l.invariant.0 _ _ (pairs_next (run a.bytes.now a.lengths.now) i l.from t.0) (rw (t.1, t.2) at c.lay_pair-to.ensures) in
    rw (m, t.1, t.2) (d, omega (arith, s, l.invariant.1), t.3)

pub returns : goal.returns
returns c =
    let a = c.args in
    let l = c.loop-pair in
    laying_end l.invariant.0 (pairs_none (run a.bytes.now a.lengths.now) (2 * length l.yielded) l.from (pair_end l.invariant.2 c.next.new.self c.in-None.is c.next.ensures.steps))
