-- `desk_text::control_at` is right since its bytes are those of the definition. Assumes nothing.
use mathlib.Core.Path.{◌∙◌}
use Rattle.desk_text.specs.Text.{control_at}
use Rattle.desk_text.proofs.control_at.Goals as goal

pub returns : goal.returns
unfolding control_at
returns c = c.is_control.ensures ∙ rw (c.byte_at.ensures, c.byte_at-2.ensures)
