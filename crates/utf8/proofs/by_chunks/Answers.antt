-- `utf8::by_chunks` meets its contract: where the text goes on it is tested by characters, what ASCII chunks cover is text, and any other is tested by windows. Assumes nothing.
use mathlib.Core.Path.{sym, ◌∙◌}
use native.Mathlib.Omega.{arith}
use Rattle.utf8.proofs.by_chunks.Goals as goal

pub pass_few-requires : goal.pass_few-requires
pass_few-requires c = (omega arith, c.requires)

pub returns-then-s-lt16 : goal.returns-then-s-lt16
returns-then-s-lt16 c = c.by_chars.ensures ∙ sym c.pass_few.ensures

pub returns-then-is_chunks : goal.returns-then-is_chunks
returns-then-is_chunks c = sym (c.is_chunks.ensures c.if-is_chunks.true)
