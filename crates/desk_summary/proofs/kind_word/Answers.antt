-- `desk_summary::kind_word` is right since the word is the part of its bytes before the zeros. Assumes nothing.
use Rattle.std.proofs.Common.{◌-◌, length, ◌∙◌, arith}
use Rattle.kinds.specs.Kinds.{word_of}
use Rattle.desk_lines.proofs.Laws.{then, name_part}
use Rattle.desk_summary.proofs.Laws.{word_short}
use Rattle.desk_summary.proofs.kind_word.Goals as goal

pub returns : goal.returns
returns c =
    let num = c.args.num in
    let p = c.put_word-a.ensures in
    let h = rw c.word_of-shown.ensures at c.part.ensures.bytes in
    let w = rw (h ∙ name_part (word_of num) (11 - length (word_of num))) at c.put_word.ensures in
    record { placed = then p w; short = omega (arith, p.behind, w.behind, word_short num) }
