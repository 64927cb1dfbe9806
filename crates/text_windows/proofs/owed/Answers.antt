-- `text_windows::owed` is right since the sum of marks is marked just where one of them is. Assumes nothing.
use Rattle.text_windows.proofs.Bytes.{owed_of}
use Rattle.text_windows.proofs.owed.Goals as goal

pub returns : goal.returns
returns c = owed_of _ _ _ c.over.result c.over-2.result c.over-3.result c.over.ensures c.over-2.ensures c.over-3.ensures
