-- `publish_write::copy::copy_few` is right since one byte is the first, and none is nothing. Assumes nothing.
use mathlib.Core.Path.{◌≡◌, refl, ap, ◌∙◌}
use mathlib.Core.List.{List}
use Prim.Native.Nat.{ℕ}
use native.Mathlib.Omega.{arith}
use lib.Seq.{sets}
use Rattle.write_bytes.proofs.Laws.{taken_one}
use Rattle.publish_write.proofs.copy.copy_few.Goals as goal

pub returns-then-n-ge2 : goal.returns-then-n-ge2
returns-then-n-ge2 c = c.copy_pair.ensures

pub returns-then-n-eq1 : goal.returns-then-n-eq1
returns-then-n-eq1 c =
    let a = c.args in
    rw c.if-n-eq1.true (c.store.ensures ∙ ap (λ (l : List ℕ). sets a.out.now a.at l) (taken_one 0 a.s.now a.from (omega arith)))

pub returns-else-n-eq1 : goal.returns-else-n-eq1
returns-else-n-eq1 c =
    let a = c.args in
    let e : a.n ≡ 0 = omega (arith, c.if-n-eq1.false) in
    rw e refl
