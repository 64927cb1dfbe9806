-- `text_windows::unused` is right since b - 1, wrapped, is below F4 just where b is from 1 to F4. Assumes nothing.
use Rattle.text_windows.proofs.Bytes.{unused_of}
use Rattle.text_windows.proofs.unused.Goals as goal

pub returns : goal.returns
returns c = unused_of _ c.wrapping_sub_u8.result c.over.result c.when.result c.when-2.result c.wrapping_sub_u8.ensures.value c.wrapping_sub_u8.type_inv c.over.ensures c.when.ensures c.when-2.ensures
