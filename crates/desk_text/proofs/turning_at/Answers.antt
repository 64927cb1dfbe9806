-- `desk_text::turning_at` is right since its bytes are those of the definition. Assumes nothing.
use mathlib.Core.Path.{◌∙◌}
use Rattle.desk_text.specs.Text.{turning_at}
use Rattle.desk_text.proofs.turning_at.Goals as goal

pub returns : goal.returns
unfolding turning_at
returns c = c.is_turning.ensures ∙ rw (c.byte_at.ensures, c.byte_at-2.ensures, c.byte_at-3.ensures)
