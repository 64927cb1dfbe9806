-- `write_lengths::write_remaining_length` is right since it tests first the number, then the room, and puts the spelling at the front.
-- Assumes nothing.
use mathlib.Core.Path.{sym, ◌∙◌}
use native.Mathlib.Omega.{arith}
use borrow.Author.Tests.{le-leb}
use Rattle.writing.specs.Size.{most}
use Rattle.writing.specs.Spell.{short}
use Rattle.writing.specs.Order.{number_test}
use Rattle.writing.proofs.Sizes.{length_short}
use Rattle.write_numbers.proofs.Laws.Leaf.{leaf_no_room, leaf_written}
use Rattle.write_lengths.proofs.write_remaining_length.Goals as goal

pub returns-then-out-need : goal.returns-then-out-need
returns-then-out-need c =
    let a = c.args in
    leaf_no_room (number_test a.n) (short a.n) a.out.now (le-leb a.n most (omega arith)) _ (c.len_len-need.ensures ∙ sym (length_short a.n)) (omega arith)

pub returns : goal.returns
returns c =
    let a = c.args in
    let e = c.put_fitting-size.ensures in
    leaf_written (number_test a.n) (short a.n) a.out.now (le-leb a.n most (omega arith)) _ e.1 _ (omega (arith, length_short a.n)) e.0
