-- `publish_write::frame::lay_numbers` is right since the rows stand one behind the other. Assumes nothing.
use Rattle.grammar.specs.Tables.{u8, u16, u32}
use Rattle.publish_write.proofs.Lay.{one_laid, laid_then}
use Rattle.publish_write.proofs.frame.lay_numbers.Goals as goal

pub returns : goal.returns
returns c = laid_then (one_laid 1 u8 _ c.put_if.ensures) (laid_then (one_laid 2 u32 _ c.put_if-2.ensures) (one_laid 35 u16 _ c.put_if-3.ensures))
