-- `text_windows::misfit` is right since a byte fits just where it is in use, continues a character when that is due and not else, and is in the cell that is asked for. Assumes nothing.
use Rattle.text_windows.proofs.Bytes.{misfit_of}
use Rattle.text_windows.proofs.misfit.Goals as goal

pub returns : goal.returns
returns c = misfit_of _ _ _ _ c.owed.result c.astray.result c.unused.result c.outside.result c.owed.ensures c.astray.ensures c.unused.ensures c.outside.ensures
