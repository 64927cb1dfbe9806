-- `journal::latest_block` is right since the walk takes the block that the definition names. Assumes nothing.
use mathlib.Core.Path.{◌∙◌, ap}
use Rattle.journal.specs.JournalAnswer.{block_says}
use Rattle.journal.proofs.Finding.{bad_says, recover_bad, recover_latest}
use Rattle.journal.proofs.latest_block.Goals as goal

pub returns-in_err-blocks : goal.returns-in_err-blocks
returns-in_err-blocks c = bad_says _ c.from_residual.ensures.1 ∙ recover_bad _ c.in_err-blocks.ensures

pub returns : goal.returns
returns c = ap block_says c.ok_or.ensures.value ∙ recover_latest _ c.find.result c.in_ok-blocks.ensures.0 c.in_ok-blocks.ensures.1 c.find.ensures
