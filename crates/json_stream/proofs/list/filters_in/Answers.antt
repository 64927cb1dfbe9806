-- `json_stream::list::filters_in` ends since a filter that is found ends further on. Assumes nothing.
use Rattle.std.proofs.Common.{◌-◌, arith}
use Rattle.filters.proofs.Laws.{filter_ahead}
use Rattle.json_stream.proofs.list.filters_in.Goals as goal

pub loop-i-smaller : goal.loop-i-smaller
loop-i-smaller c =
    let r = rw c.in-Ok.is at c.read_filter.ensures in
    let h = filter_ahead c.args.s.now c.loop-i-test.true r in
    omega (arith, h)
