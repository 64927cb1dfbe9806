-- `json_stream::list::identifiers_in` ends since a property that is found ends further on. Assumes nothing.
use Rattle.std.proofs.Common.{◌-◌, arith}
use Rattle.property_value.proofs.Laws.{property_ahead}
use Rattle.json_stream.proofs.list.identifiers_in.Goals as goal

pub loop-i-smaller : goal.loop-i-smaller
loop-i-smaller c =
    let r = rw c.in-Ok.is at c.read_property.ensures in
    let a = c.args in
    let h = property_ahead _ a.s.now c.loop-i.i _ _ r.says in
    omega (arith, c.loop-i-test.true, h)
