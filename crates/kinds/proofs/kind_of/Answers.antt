-- `kinds::kind_of` is right since the tables, looked up at each number of the match, say what its arm says. Assumes nothing.
use mathlib.Core.Path.{sym}
use mathlib.Core.Logic.{⊎_elim, inl, inr}
use borrow.Author.Tests.{ne_eqb}
use Rattle.grammar.specs.Tables.{kinds, reasons_of}
use Rattle.kinds.proofs.kind_of.Goals as goal

pub returns-in-3 : goal.returns-in-3
unfolding kinds reasons_of
returns-in-3 c = rw c.in-3.is

pub returns-in-4 : goal.returns-in-4
unfolding kinds reasons_of
returns-in-4 c = rw c.in-4.is

pub returns-in-5 : goal.returns-in-5
unfolding kinds reasons_of
returns-in-5 c = rw c.in-5.is

pub returns-in-6 : goal.returns-in-6
unfolding kinds reasons_of
returns-in-6 c = rw c.in-6.is

pub returns-in-7 : goal.returns-in-7
unfolding kinds reasons_of
returns-in-7 c = rw c.in-7.is

pub returns-in-8 : goal.returns-in-8
unfolding kinds reasons_of
returns-in-8 c = rw c.in-8.is

pub returns-in-9 : goal.returns-in-9
unfolding kinds reasons_of
returns-in-9 c = rw c.in-9.is

pub returns-in-10 : goal.returns-in-10
unfolding kinds reasons_of
returns-in-10 c = rw c.in-10.is

pub returns-in-11 : goal.returns-in-11
unfolding kinds reasons_of
returns-in-11 c = rw c.in-11.is

pub returns-in-12 : goal.returns-in-12
unfolding kinds reasons_of
returns-in-12 c = rw c.in-12.is

pub returns-in-13 : goal.returns-in-13
unfolding kinds reasons_of
returns-in-13 c = rw c.in-13.is

pub returns-in-0 : goal.returns-in-0
unfolding kinds
returns-in-0 c = ⊎_elim (λ h. rw h) (λ h. rw h) c.in-0.is

pub returns-in-1-to-2 : goal.returns-in-1-to-2
unfolding kinds
returns-in-1-to-2 c = rw c.in-1-to-2.in-1-to-2-own.keys13

pub returns-in-1-to-2-2 : goal.returns-in-1-to-2-2
unfolding kinds
returns-in-1-to-2-2 c =
    let r = c.in-1-to-2.in-1-to-2-own.rest.0 in
    simp (
      ne_eqb _ 0 (λ e. r.1 (inl e)),
      ne_eqb _ 15 (λ e. r.1 (inr e)),
      ne_eqb 13 _ (λ e. r.0.1 (sym e)),
      ne_eqb 12 _ (λ e. r.0.0.1 (sym e)),
      ne_eqb 11 _ (λ e. r.0.0.0.1 (sym e)),
      ne_eqb 10 _ (λ e. r.0.0.0.0.1 (sym e)),
      ne_eqb 9 _ (λ e. r.0.0.0.0.0.1 (sym e)),
      ne_eqb 8 _ (λ e. r.0.0.0.0.0.0.1 (sym e)),
      ne_eqb 7 _ (λ e. r.0.0.0.0.0.0.0.1 (sym e)),
      ne_eqb 6 _ (λ e. r.0.0.0.0.0.0.0.0.1 (sym e)),
      ne_eqb 5 _ (λ e. r.0.0.0.0.0.0.0.0.0.1 (sym e)),
      ne_eqb 4 _ (λ e. r.0.0.0.0.0.0.0.0.0.0.1 (sym e)),
      ne_eqb 3 _ (λ e. r.0.0.0.0.0.0.0.0.0.0.0.1 (sym e)),
    )
