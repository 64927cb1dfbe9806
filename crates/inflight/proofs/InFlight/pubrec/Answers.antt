-- `InFlight::pubrec` is right since the reason says where it goes on to. Assumes nothing.
use mathlib.Core.Path.{sym}
use Rattle.inflight.specs.Rules.{call}
use Rattle.inflight.proofs.Laws.{pubrec_on, pubrec_off}
use Rattle.inflight.proofs.InFlight.pubrec.Goals as goal

pub returns-then-reason-lt128 : goal.returns-then-reason-lt128
unfolding call
returns-then-reason-lt128 c = rw (sym (pubrec_on c.args.reason c.if-reason-lt128.true)) c.settle.ensures

pub returns : goal.returns
unfolding call
returns c = rw (sym (pubrec_off c.args.reason c.if-reason-lt128.false)) c.settle-2.ensures
