-- `publish_write::frame::lay_properties` is right since numbers, strings and lists are the eight rows in the table's order. Assumes nothing.
use Rattle.publish_write.proofs.Lay.{laid_then}
use Rattle.publish_write.proofs.frame.lay_properties.Goals as goal

pub returns : goal.returns
returns c = laid_then c.lay_numbers-strings.ensures (laid_then c.lay_strings-lists.ensures c.lay_lists.ensures)
