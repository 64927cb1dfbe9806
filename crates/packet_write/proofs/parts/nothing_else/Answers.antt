-- `packet_write::parts::nothing_else` is right since it asks of each kind's parts whether they are empty. Assumes nothing.
use Rattle.packet_write.proofs.Lent.{last_lent}
use Rattle.packet_write.proofs.parts.nothing_else.Goals as goal

pub returns : goal.returns
returns c =
    let a = c.args in
    c.nothing_of_others.ensures _ c.no_publish-publish.ensures (last_lent a.reason_string.now) c.no_run-texts.ensures (last_lent a.entries.now) c.no_run-user.ensures
