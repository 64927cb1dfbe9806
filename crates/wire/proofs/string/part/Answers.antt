-- `wire::string::part` meets its contract: the part is handed back if it lies within. Assumes nothing.
use mathlib.Core.Path.{refl, sym, ◌∙◌}
use Prim.Native.Nat.{◌+◌}
use native.Mathlib.Omega.{arith}
use native.Mathlib.Nat.{add-sub_cancel_left}
use borrow.Author.Tests.{leb-true, leb-false}
use lib.ListN.{length}
use Rattle.records.specs.AsNumbers.{told_span}
use Rattle.wire.proofs.Laws.{held_within, held_outside, start_within, start_outside}
use Rattle.wire.proofs.string.part.Goals as goal

pub returns-then-within : goal.returns-then-within
returns-then-within c =
    let a = c.args in
    let h = leb-true (a.p.start + a.p.len) (length a.s.now) (sym c.within.ensures ∙ c.if-within.true) in
    record {
      bytes = rw (add-sub_cancel_left) (held_within a.s.now (told_span a.p) h);
      block = refl;
      start = rw (start_within a.s.now (told_span a.p) h) (omega arith);
    }

pub returns : goal.returns
returns c =
    let a = c.args in
    let h = leb-false (a.p.start + a.p.len) (length a.s.now) (sym c.within.ensures ∙ c.if-within.false) in
    record {
      bytes = held_outside a.s.now (told_span a.p) h;
      block = refl;
      start = rw (start_outside a.s.now (told_span a.p) h) (omega arith);
    }
