-- `corpus::writes::in_room` lends the first bytes of the output only where there are as many. Assumes nothing.
use Rattle.std.proofs.Common.{sym, arith, length-take-le}
use Rattle.corpus.proofs.writes.in_room.Goals as goal

pub slice_bounds-of_kind-end-2 : goal.slice_bounds-of_kind-end-2
slice_bounds-of_kind-end-2 c = sym (length-take-le _ _ (omega arith))
