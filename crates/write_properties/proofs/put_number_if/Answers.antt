-- `write_properties::put_number_if` is right since it is one number, or none. Assumes nothing.
use Rattle.write_properties.proofs.Laws.{put_short}
use Rattle.write_properties.proofs.put_number_if.Goals as goal

pub returns-in-Some : goal.returns-in-Some
returns-in-Some c =
    let a = c.args in
    rw c.in-Some.is (put_short a.id _ a.out.now _ a.at _ c.put_number.ensures.0)
