-- `desk_text::is_hidden` is right since its tests are those of the definition. Assumes nothing.
use mathlib.Core.Path.{sym, ap, ◌∙◌}
use Prim.Native.Nat.{ℕ}
use Rattle.desk_text.specs.Text.{control_at, turning_at, hidden}
use Rattle.desk_text.proofs.is_hidden.Goals as goal

pub returns-then-control_at : goal.returns-then-control_at
unfolding hidden
returns-then-control_at c = rw (sym c.control_at.ensures ∙ c.if-control_at.true)

pub returns-then-control_at-2 : goal.returns-then-control_at-2
unfolding hidden
returns-then-control_at-2 c = rw (sym c.control_at.ensures ∙ c.if-control_at.false, ap (λ (j : ℕ). control_at c.args.s.now j) (sym c.saturating_sub.ensures) ∙ sym c.control_at-2.ensures ∙ c.if-control_at-2.true)

pub returns-then-turning_at : goal.returns-then-turning_at
unfolding hidden
returns-then-turning_at c = rw (sym c.control_at.ensures ∙ c.if-control_at.false, ap (λ (j : ℕ). control_at c.args.s.now j) (sym c.saturating_sub.ensures) ∙ sym c.control_at-2.ensures ∙ c.if-control_at-2.false, sym c.turning_at.ensures ∙ c.if-turning_at.true)

pub returns-then-turning_at-2 : goal.returns-then-turning_at-2
unfolding hidden
returns-then-turning_at-2 c = rw (sym c.control_at.ensures ∙ c.if-control_at.false, ap (λ (j : ℕ). control_at c.args.s.now j) (sym c.saturating_sub.ensures) ∙ sym c.control_at-2.ensures ∙ c.if-control_at-2.false, sym c.turning_at.ensures ∙ c.if-turning_at.false, ap (λ (j : ℕ). turning_at c.args.s.now j) (sym c.saturating_sub-2.ensures) ∙ sym c.turning_at-2.ensures ∙ c.if-turning_at-2.true)

pub returns : goal.returns
unfolding hidden
returns c = rw (sym c.control_at.ensures ∙ c.if-control_at.false, ap (λ (j : ℕ). control_at c.args.s.now j) (sym c.saturating_sub.ensures) ∙ sym c.control_at-2.ensures ∙ c.if-control_at-2.false, sym c.turning_at.ensures ∙ c.if-turning_at.false, ap (λ (j : ℕ). turning_at c.args.s.now j) (sym c.saturating_sub-2.ensures) ∙ sym c.turning_at-2.ensures ∙ c.if-turning_at-2.false) (c.turning_at-3.ensures ∙ ap (λ (j : ℕ). turning_at c.args.s.now j) c.saturating_sub-3.ensures)
