-- `journal::check_right` is right since the library reads a number as the definition does. Assumes nothing.
use mathlib.Core.Path.{ap₂, ◌∙◌}
use lib.Dec.{eqb}
use Rattle.journal.proofs.Turns.{check_read}
use Rattle.journal.proofs.check_right.Goals as goal

pub returns : goal.returns
returns c = ap₂ eqb c.crc32.ensures (c.from_be_bytes.ensures ∙ check_read _ c.told-b)
