-- `json_stream::list::topics_in` ends since a topic that is found ends further on. Assumes nothing.
use Rattle.std.proofs.Common.{◌-◌, sym, arith}
use Rattle.reading.specs.Place.{as_places}
use Rattle.positions.proofs.Less.{text_less}
use Rattle.positions.proofs.Trails.{trails_text}
use Rattle.positions.proofs.Run.{item_ahead}
use Rattle.json_stream.proofs.list.topics_in.Goals as goal

pub loop-i-smaller : goal.loop-i-smaller
loop-i-smaller c =
    let r = rw c.in-Ok.is at c.read_mqtt_string.ensures in
    let h = item_ahead c.args.s.now (text_less _) (trails_text as_places _) c.loop-i-test.true (sym r) in
    omega (arith, h)
