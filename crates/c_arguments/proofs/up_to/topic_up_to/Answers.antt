-- `c_arguments::up_to::topic_up_to` is right since it reads in the bytes before the end. Assumes nothing.
use lib.ListN.{length}
use Rattle.reading.specs.Place.{as_places}
use Rattle.reading.specs.Read.{text_of}
use Rattle.positions.specs.Position.{from_at}
use Rattle.records.proofs.Laws.{handed_on}
use Rattle.c_arguments.proofs.UpTo.{up_within, up_outside}
use Rattle.c_arguments.proofs.up_to.topic_up_to.Goals as goal

pub returns-in_err-topics : goal.returns-in_err-topics
returns-in_err-topics c =
    let e = c.in_err-topics.ensures in
    handed_on _ _ _ c.from_residual.ensures.1 (rw e.0 (up_outside (λ t. from_at (text_of as_places (length t)) t c.args.at) c.args.stream.now c.args.end e.1))

pub returns : goal.returns
returns c =
    let b = c.in_ok-topics.ensures in
    rw (up_within (λ t. from_at (text_of as_places (length t)) t c.args.at) c.args.stream.now c.args.end b.1) (rw b.0 at c.read_mqtt_string.ensures)
