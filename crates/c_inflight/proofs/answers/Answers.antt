-- `c_inflight::answers` is right since each kind settles as the definition says. Assumes nothing.
use mathlib.Core.Path.{refl, sym, ◌∙◌}
use mathlib.Core.List.{[]}
use borrow.Author.Rules.{rules}
use native.Mathlib.Omega.{arith}
use Rattle.inflight.specs.Rules.{became_of}
use Rattle.c_inflight.proofs.Laws.{refuses, named, ack_none, ack_ack, ack_rec, ack_comp, ack_other, rec_due}
use Rattle.c_inflight.proofs.answers.Goals as goal

pub returns-then-not-is_table : goal.returns-then-not-is_table
returns-then-not-is_table c = refuses 39 [] (ack_none _ _ _ _ (sym c.is_table.ensures ∙ c.if-not-is_table.true)) refl

pub settle-requires : goal.settle-requires
unfolding became_of
settle-requires c = (omega arith, refl)

pub settle-requires-in-5 : goal.settle-requires-in-5
settle-requires-in-5 c = (omega arith, rec_due _ c.next_of.ensures)

pub settle-requires-in-7 : goal.settle-requires-in-7
unfolding became_of
settle-requires-in-7 c = (omega arith, refl)

pub returns-in-4 : goal.returns-in-4
returns-in-4 c = named c.settle.ensures (ack_ack _ _ _ _ (sym c.is_table.ensures ∙ c.if-not-is_table.false) c.in-4.is)

pub returns-in-5 : goal.returns-in-5
returns-in-5 c = named c.settle-in-5.ensures (ack_rec _ _ _ _ (sym c.is_table.ensures ∙ c.if-not-is_table.false) c.in-5.is c.next_of.ensures)

pub returns-in-7 : goal.returns-in-7
returns-in-7 c = named c.settle-in-7.ensures (ack_comp _ _ _ _ (sym c.is_table.ensures ∙ c.if-not-is_table.false) c.in-7.is)

pub returns-in_default : goal.returns-in_default
returns-in_default c = refuses 31 [] (ack_other _ _ _ _ (sym c.is_table.ensures ∙ c.if-not-is_table.false) (search rules) (search rules) (search rules)) refl
