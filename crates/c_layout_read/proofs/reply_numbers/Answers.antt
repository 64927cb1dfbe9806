-- `c_layout_read::reply_numbers` is right since head and properties are those of the definition. Assumes nothing.
use mathlib.Core.Path.{◌∙◌}
use Rattle.c_layout_read.specs.Record.{packet_numbers}
use Rattle.c_layout_read.proofs.reply_numbers.Goals as goal

pub returns : goal.returns
unfolding packet_numbers
returns c = c.numbers.ensures ∙ rw (c.props_block.ensures, c.kind_head.ensures)
