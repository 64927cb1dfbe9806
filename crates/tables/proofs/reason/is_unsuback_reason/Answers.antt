-- `tables::reason::is_unsuback_reason` meets its contract: each arm names a reason of the list, and the gaps are the numbers of none. Assumes nothing.
use mathlib.Core.Path.{sym}
use Rattle.grammar.specs.Tables.{unsub_ack_reasons}
use Rattle.tables.proofs.Laws.{unlisted}
use Rattle.tables.proofs.reason.is_unsuback_reason.Goals as goal

pub returns-in-1-to-16-2 : goal.returns-in-1-to-16-2
unfolding unsub_ack_reasons
returns-in-1-to-16-2 c = sym (unlisted unsub_ack_reasons c.args.num c.in-1-to-16.in-1-to-16-own.rest.0)

pub returns-in-0 : goal.returns-in-0
unfolding unsub_ack_reasons
returns-in-0 c = rw c.in-0.is

pub returns-in-17 : goal.returns-in-17
unfolding unsub_ack_reasons
returns-in-17 c = rw c.in-17.is

pub returns-in-128 : goal.returns-in-128
unfolding unsub_ack_reasons
returns-in-128 c = rw c.in-128.is

pub returns-in-131 : goal.returns-in-131
unfolding unsub_ack_reasons
returns-in-131 c = rw c.in-131.is

pub returns-in-135 : goal.returns-in-135
unfolding unsub_ack_reasons
returns-in-135 c = rw c.in-135.is

pub returns-in-143 : goal.returns-in-143
unfolding unsub_ack_reasons
returns-in-143 c = rw c.in-143.is

pub returns-in-145 : goal.returns-in-145
unfolding unsub_ack_reasons
returns-in-145 c = rw c.in-145.is

pub returns-in-1-to-16 : goal.returns-in-1-to-16
unfolding unsub_ack_reasons
returns-in-1-to-16 c = rw c.in-1-to-16.in-1-to-16-own.keys8
