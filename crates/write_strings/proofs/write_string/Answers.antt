-- `write_strings::write_string` is right since it tests the room, and puts the string at the front. Assumes nothing.
use mathlib.Core.Path.{sym}
use native.Mathlib.Omega.{arith}
use borrow.Author.Tests.{le-leb}
use lib.ListN.{length}
use Rattle.writing.specs.Spell.{string}
use Rattle.writing.specs.Order.{length_test}
use Rattle.writing.proofs.Sizes.{length_string}
use Rattle.write_numbers.proofs.Laws.Leaf.{leaf_no_room, leaf_written}
use Rattle.write_strings.proofs.write_string.Goals as goal

pub returns-then-out-size : goal.returns-then-out-size
returns-then-out-size c =
    let a = c.args in
    let s = a.s.now in
    leaf_no_room (length_test s) (string s) a.out.now (le-leb (length s) 65535 (omega arith)) _ (sym (length_string s)) (omega arith)

pub returns : goal.returns
returns c =
    let a = c.args in
    let s = a.s.now in
    leaf_written (length_test s) (string s) a.out.now (le-leb (length s) 65535 (omega arith)) _ (sym (length_string s)) _ (omega arith) c.put_fitting.ensures
