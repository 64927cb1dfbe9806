-- `text_windows::outside` is right since each part is marked just where its row forbids b. Assumes nothing.
use Rattle.text_windows.proofs.Bytes.{outside_of}
use Rattle.text_windows.proofs.outside.Goals as goal

pub returns : goal.returns
returns c = outside_of _ _ c.over-x.result c.over-y.result c.over-x.type_inv c.over-y.type_inv c.over-x.ensures c.over-y.ensures c.when.result c.when-2.result c.when-3.result c.when-4.result c.when.ensures c.when-2.ensures c.when-3.ensures c.when-4.ensures
