-- `journal::blocks` is right since the chunks are the definition's blocks. Assumes nothing.
use mathlib.Core.Path.{sym, ◌∙◌}
use Rattle.journal.proofs.Finding.{blocks_are}
use Rattle.journal.proofs.blocks.Goals as goal

pub returns : goal.returns
returns c = (sym c.is_whole.ensures ∙ c.if-not-is_whole.false, c.as_chunks.ensures.front ∙ blocks_are _ _)
