-- `c_inflight::settle` is right since one byte changes, or none. Assumes nothing.
use mathlib.Core.Path.{refl, sym, ap, ◌∙◌}
use Prim.Native.Nat.{ℕ, ◌-◌}
use lib.ListN.{set}
use native.Mathlib.Omega.{arith}
use Rattle.inflight.proofs.Laws.{wait_in_lem, put_in}
use Rattle.c_inflight.proofs.Laws.{settle_zero, settle_above, settle_due, settle_not}
use Rattle.c_inflight.proofs.settle.Goals as goal

pub returns-then-n-eq0 : goal.returns-then-n-eq0
returns-then-n-eq0 c = settle_zero _ _ _ _ c.requires.0 c.if-n-eq0.true refl

pub returns-then-codes-n : goal.returns-then-codes-n
returns-then-codes-n c = settle_above _ _ _ _ c.requires.0 c.if-codes-n.true refl

pub returns-then-codes-at : goal.returns-then-codes-at
returns-then-codes-at c = settle_not _ _ _ _ (λ e. c.if-codes-at.true (wait_in_lem _ _ (omega arith) ∙ e ∙ sym c.code.ensures)) refl

pub returns : goal.returns
returns c =
    settle_due _ _ _ _ (sym (wait_in_lem _ _ (omega arith)) ∙ c.if-codes-at.false ∙ c.code.ensures) (c.code-3.ensures ∙ c.requires.1)
    (ap (λ (w : ℕ). set c.args.codes.now (c.args.id - 1) w) c.code-2.ensures ∙ put_in _ _ _ (omega arith))
