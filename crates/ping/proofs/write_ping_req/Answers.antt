-- `ping::write_ping_req` is right since its first byte is that of a PingReq. Assumes nothing.
use Rattle.ping.proofs.write_ping_req.Goals as goal

pub returns : goal.returns
returns c = c.write_ping.ensures _ c.first_byte.ensures
