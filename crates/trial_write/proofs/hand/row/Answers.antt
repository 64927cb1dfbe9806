-- `trial_write::hand::row`: the output is no longer than what is lent of it. Assumes nothing.
use Rattle.std.proofs.Common.{sym, arith, length-take-le}
use Rattle.trial_write.proofs.hand.row.Goals as goal

pub slice_bounds-answered-end : goal.slice_bounds-answered-end
slice_bounds-answered-end c = sym (length-take-le _ _ (omega arith))
