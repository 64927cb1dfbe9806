-- `ping::write_ping_resp` is right since its first byte is that of a PingResp. Assumes nothing.
use Rattle.ping.proofs.write_ping_resp.Goals as goal

pub returns : goal.returns
returns c = c.write_ping.ensures _ c.first_byte.ensures
