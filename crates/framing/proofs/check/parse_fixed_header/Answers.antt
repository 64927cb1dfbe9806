-- `framing::check::parse_fixed_header` is right since a header is a first byte and the number that `length` reads behind it. Assumes nothing.
use mathlib.Core.Path.{sym}
use mathlib.Core.List.{[], ◌∷◌}
use native.Mathlib.Omega.{arith}
use Rattle.reading.specs.Refusal.{nr}
use Rattle.var_length.proofs.Laws.{number_within}
use Rattle.framing.proofs.Laws.{header_none, header_first}
use Rattle.framing.proofs.check.parse_fixed_header.Goals as goal

pub returns-then-stream-lt1 : goal.returns-then-stream-lt1
returns-then-stream-lt1 c = (header_none _ (omega arith), tt)

pub overflow_add-start : goal.overflow_add-start
overflow_add-start c =
    let e = rw c.in-Ok.is at (c.length.ensures (nr 1 (1 ∷ []))) in
    omega (arith, number_within c.args.stream.now 1 _ _ (nr 1 (1 ∷ [])) e)

pub returns-in-Ok : goal.returns-in-Ok
returns-in-Ok c = (rw (sym (c.length.ensures (nr 1 (1 ∷ []))), c.in-Ok.is) at (header_first c.args.stream.now (omega arith)), omega arith)

pub returns-in-Err-Cut : goal.returns-in-Err-Cut
returns-in-Err-Cut c = (rw (sym (c.length.ensures (nr 1 (1 ∷ []))), c.in-Err-Cut.is, c.in-Err-Cut.field-0-is) at (header_first c.args.stream.now (omega arith)), tt)

pub returns-in-Err-Long : goal.returns-in-Err-Long
returns-in-Err-Long c = (rw (sym (c.length.ensures (nr 1 (1 ∷ []))), c.in-Err-Long.is, c.in-Err-Long.field-0-is) at (header_first c.args.stream.now (omega arith)), tt)
