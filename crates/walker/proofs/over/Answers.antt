-- `walker::over` is right since a place within the slice ends where its sum says. Assumes nothing.
use mathlib.Core.Path.{refl, sym, ◌∙◌}
use Prim.Native.Nat.{◌+◌}
use native.Mathlib.Omega.{arith}
use borrow.Author.Tests.{leb-false}
use lib.ListN.{length}
use Rattle.walker.proofs.over.Goals as goal

pub returns : goal.returns
returns c =
    let a = c.args in
    record { spreads = λ h. absurd (omega (arith, h _ _ refl, leb-false (a.p.start + a.p.len) (length a.s.now) (sym c.within.ensures ∙ c.if-within.false))) }
