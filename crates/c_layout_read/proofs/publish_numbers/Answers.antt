-- `c_layout_read::publish_numbers` is right since head and properties are those of the definition. Assumes nothing.
use mathlib.Core.Path.{◌∙◌}
use Rattle.c_layout_read.specs.Record.{packet_numbers}
use Rattle.c_layout_read.proofs.publish_numbers.Goals as goal

pub returns : goal.returns
unfolding packet_numbers
returns c = c.numbers.ensures ∙ rw (c.publish_block.ensures, c.kind_head.ensures, c.qos_number.ensures, c.bit.ensures.0, c.bit-2.ensures.0)
