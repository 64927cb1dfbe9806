-- `c_journal::put_codes` is right since it stores all or nothing. Assumes nothing.
use mathlib.Core.Path.{◌∙◌}
use Rattle.c_journal.proofs.Bytes.{stored_fits, stored_not}
use Rattle.c_journal.proofs.put_codes.Goals as goal

pub returns-then-out-ge-LIMIT : goal.returns-then-out-ge-LIMIT
returns-then-out-ge-LIMIT c = c.put_all.ensures ∙ stored_fits _ _ c.if-out-ge-LIMIT.true

pub returns-else-out-ge-LIMIT : goal.returns-else-out-ge-LIMIT
returns-else-out-ge-LIMIT c = stored_not _ _ c.if-out-ge-LIMIT.false
