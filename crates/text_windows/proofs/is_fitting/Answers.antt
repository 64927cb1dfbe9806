-- `text_windows::is_fitting` is right since what may stand behind the three is one cell where a byte is due, and the first bytes of the rows where none is. Assumes nothing.
use Rattle.text_windows.proofs.Bytes.{marked_due, unmarked_due, fits_low, fits_cell, fits_ascii, fits_no, fits_lead}
use Rattle.text_windows.proofs.is_fitting.Goals as goal

pub returns-then-b-low_of : goal.returns-then-b-low_of
returns-then-b-low_of c = fits_low _ _ _ _ (marked_due _ _ _ c.owed.result c.owed.ensures c.if-owed-ge128.true) (rw c.low_of.ensures at c.if-b-low_of.true)

pub returns-then-owed-ge128 : goal.returns-then-owed-ge128
returns-then-owed-ge128 c = rw c.high_of.ensures (fits_cell _ _ _ _ (marked_due _ _ _ c.owed.result c.owed.ensures c.if-owed-ge128.true) (rw c.low_of.ensures at c.if-b-low_of.false))

pub returns-then-b-lt128 : goal.returns-then-b-lt128
returns-then-b-lt128 c = fits_ascii _ _ _ _ (unmarked_due _ _ _ c.owed.result c.owed.ensures c.if-owed-ge128.false) c.if-b-lt128.true

pub returns-then-b-lt194 : goal.returns-then-b-lt194
returns-then-b-lt194 c = fits_no _ _ _ _ (unmarked_due _ _ _ c.owed.result c.owed.ensures c.if-owed-ge128.false) c.if-b-lt128.false c.if-b-lt194.true

pub returns : goal.returns
returns c = fits_lead _ _ _ _ (unmarked_due _ _ _ c.owed.result c.owed.ensures c.if-owed-ge128.false) c.if-b-lt194.false
