-- `json_stream::list::users_in` ends since a step that finds one goes further on. Assumes nothing.
use Rattle.std.proofs.Common.{◌-◌, arith}
use Rattle.walker.proofs.Laws.{next_ahead}
use Rattle.json_stream.proofs.list.users_in.Goals as goal

pub loop-i-smaller : goal.loop-i-smaller
loop-i-smaller c =
    let h = next_ahead (rw c.in-Some.is at c.step_at-step.ensures) in
    omega (arith, c.loop-i-test.true, h)
