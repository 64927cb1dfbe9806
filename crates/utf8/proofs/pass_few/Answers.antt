-- `utf8::pass_few` is right since behind a chunk that is ASCII the text goes on. Assumes nothing.
use mathlib.Core.Path.{sym, ◌∙◌}
use Prim.Native.Nat.{◌-◌}
use native.Mathlib.Omega.{arith}
use lib.ListN.{length}
use Rattle.text_chars.proofs.Laws.{plain_front, last_text, text_over}
use Rattle.utf8.proofs.pass_few.Goals as goal

pub returns-then-is_ascii : goal.returns-then-is_ascii
returns-then-is_ascii c =
    let s = c.args.s.now in
    plain_front 8 s (omega arith) (sym c.is_ascii.ensures ∙ c.if-not-is_ascii.false)
    ∙ last_text s 8 (length s - 8) (length s - (length s - 8)) (omega arith) (omega arith) (sym c.is_ascii-2.ensures ∙ c.if-is_ascii.true)
    ∙ sym (text_over s (length s) (omega arith))

pub returns : goal.returns
returns c = plain_front 8 c.args.s.now (omega arith) (sym c.is_ascii.ensures ∙ c.if-not-is_ascii.false)
