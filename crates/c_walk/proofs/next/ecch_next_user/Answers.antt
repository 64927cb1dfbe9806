-- `c_walk::next::ecch_next_user` is right since it returns and stores what the step gives. Assumes nothing.
use mathlib.Core.Path.{◌∙◌}
use Rattle.c_layout.proofs.Laws.{user_number}
use Rattle.c_walk.proofs.next.ecch_next_user.Goals as goal

pub returns : goal.returns
returns c = record {
  o = _;
  m = _;
  steps = c.step_given-t.ensures;
  returned = c.item_number.ensures ∙ user_number c.step_given-t.result.item;
  stored = c.store.ensures ∙ rw c.step_numbers-numbers.ensures;
}
