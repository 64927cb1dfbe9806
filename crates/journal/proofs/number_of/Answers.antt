-- `journal::number_of` is right since the library reads a number as the definition does. Assumes nothing.
use mathlib.Core.Path.{◌∙◌}
use Rattle.journal.proofs.Turns.{number_read}
use Rattle.journal.proofs.number_of.Goals as goal

pub returns : goal.returns
returns c = c.from_be_bytes.ensures ∙ number_read _ c.told-b
