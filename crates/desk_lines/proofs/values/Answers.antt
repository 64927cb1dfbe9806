-- `desk_lines::values` is right for none, one and two. Assumes nothing.
use native.Mathlib.Omega.{arith}
use Rattle.desk_lines.proofs.Laws.{put_none}
use Rattle.desk_lines.proofs.values.Goals as goal

pub returns-in-None : goal.returns-in-None
returns-in-None c = rw c.in-None.is record { placed = put_none _ _; short = omega arith }

pub returns-in-One : goal.returns-in-One
returns-in-One c = rw c.in-One.is c.one_value.ensures

pub returns-in-Two : goal.returns-in-Two
returns-in-Two c = rw c.in-Two.is c.two_values.ensures
