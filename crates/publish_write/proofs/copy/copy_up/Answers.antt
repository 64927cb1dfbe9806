-- `publish_write::copy::copy_up` is right since after each turn the first i bytes are put. Assumes nothing.
use mathlib.Core.Path.{sym, ap, ◌∙◌}
use mathlib.Core.List.{List}
use Prim.Native.Nat.{ℕ, ◌+◌}
use native.Mathlib.Omega.{arith}
use lib.ListN.{length, take, drop, length-drop}
use lib.Seq.{sets, length-sets, drop-drop}
use Rattle.write_bytes.proofs.Laws.{put_more}
use Rattle.publish_write.proofs.copy.copy_up.Goals as goal

pub loop-i-preserved : goal.loop-i-preserved
loop-i-preserved c =
    let a = c.args in
    let l = c.loop-i in
    let f = c.copy_sixteen.ensures ∙ ap (λ (k : List ℕ). sets l.out (a.at + l.i) (take 16 k)) (sym (drop-drop l.i a.from a.s.now)) in
    let e = put_more a.out.now l.out _ (drop a.from a.s.now) a.at l.i (omega (arith, length-drop a.from a.s.now)) l.invariant.2 16 f in
    (omega arith, ap length e ∙ length-sets a.out.now a.at (take (l.i + 16) (drop a.from a.s.now)), e)
