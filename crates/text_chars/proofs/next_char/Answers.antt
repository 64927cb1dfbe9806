-- `text_chars::next_char` is right since the first byte decides which row of the table the bytes behind it have to meet. Assumes nothing.
use Rattle.std.proofs.Common.{◌≡◌, ◌+◌, get_or, arith}
use mathlib.Core.Option.{some}
use Rattle.grammar.specs.Text.{rows, row_at}
use Rattle.text_chars.specs.Text.{due_of}
use Rattle.text_chars.proofs.Laws.{went, no_char, char_whole, char_broken, plain_at}
use Rattle.text_chars.proofs.Rows.{plain_so, plain_not, row_none, row_one, row_two, row_three, row_over}
use Rattle.text_chars.proofs.next_char.Goals as goal

pub returns-then-flaw-lt128 : goal.returns-then-flaw-lt128
returns-then-flaw-lt128 c =
    let a = c.args in
    went a.s.now a.at (a.at + 1) (omega arith) (omega arith) (plain_at a.s.now a.at (omega arith) (plain_so (get_or a.s.now a.at 0) c.flaw.result c.flaw.ensures c.if-flaw-lt128.true))

pub returns-then-b-lt194 : goal.returns-then-b-lt194
returns-then-b-lt194 c = no_char _ _ (omega arith) (row_none _ (plain_not (get_or c.args.s.now c.args.at 0) c.flaw.result c.flaw.ensures c.if-flaw-lt128.false) c.if-b-lt194.true)

pub returns-then-follow : goal.returns-then-follow
returns-then-follow c =
    let a = c.args in
    let e : a.at + 1 + 1 ≡ a.at + 2 = omega arith in
    rw e at (char_whole a.s.now a.at (omega arith) c.follow.ensures (row_one _ c.if-b-lt194.false c.if-b-lt224.true) c.if-follow.true)

pub returns-then-b-lt224 : goal.returns-then-b-lt224
returns-then-b-lt224 c =
    let a = c.args in
    char_broken a.s.now a.at (omega arith) c.follow.ensures (row_one _ c.if-b-lt194.false c.if-b-lt224.true) c.if-follow.false

pub returns-then-follow-2 : goal.returns-then-follow-2
returns-then-follow-2 c =
    let a = c.args in
    let e : a.at + 1 + 2 ≡ a.at + 3 = omega arith in
    let r : row_at rows (get_or a.s.now a.at 0) ≡ some (due_of 2 c.low_of.result c.high_of.result) = rw (c.low_of.ensures, c.high_of.ensures) (row_two _ c.if-b-lt224.false c.if-b-lt240.true) in
    rw e at (char_whole a.s.now a.at (omega arith) c.follow-then-b-lt240.ensures r c.if-follow-2.true)

pub returns-then-b-lt240 : goal.returns-then-b-lt240
returns-then-b-lt240 c =
    let a = c.args in
    let r : row_at rows (get_or a.s.now a.at 0) ≡ some (due_of 2 c.low_of.result c.high_of.result) = rw (c.low_of.ensures, c.high_of.ensures) (row_two _ c.if-b-lt224.false c.if-b-lt240.true) in
    char_broken a.s.now a.at (omega arith) c.follow-then-b-lt240.ensures r c.if-follow-2.false

pub returns-then-follow-3 : goal.returns-then-follow-3
returns-then-follow-3 c =
    let a = c.args in
    let e : a.at + 1 + 3 ≡ a.at + 4 = omega arith in
    let r : row_at rows (get_or a.s.now a.at 0) ≡ some (due_of 3 c.low_of-then-b-lt245.result c.high_of-then-b-lt245.result) = rw (c.low_of-then-b-lt245.ensures, c.high_of-then-b-lt245.ensures) (row_three _ c.if-b-lt240.false c.if-b-lt245.true) in
    rw e at (char_whole a.s.now a.at (omega arith) c.follow-then-b-lt245.ensures r c.if-follow-3.true)

pub returns-else-follow-3 : goal.returns-else-follow-3
returns-else-follow-3 c =
    let a = c.args in
    let r : row_at rows (get_or a.s.now a.at 0) ≡ some (due_of 3 c.low_of-then-b-lt245.result c.high_of-then-b-lt245.result) = rw (c.low_of-then-b-lt245.ensures, c.high_of-then-b-lt245.ensures) (row_three _ c.if-b-lt240.false c.if-b-lt245.true) in
    char_broken a.s.now a.at (omega arith) c.follow-then-b-lt245.ensures r c.if-follow-3.false

pub returns-else-b-lt245 : goal.returns-else-b-lt245
returns-else-b-lt245 c = no_char _ _ (omega arith) (row_over _ c.if-b-lt245.false)
