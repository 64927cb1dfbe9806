-- `tables::reason::is_suback_reason` meets its contract: each arm names a reason of the list, and the gaps are the numbers of none. Assumes nothing.
use mathlib.Core.Path.{sym}
use Rattle.grammar.specs.Tables.{sub_ack_reasons}
use Rattle.tables.proofs.Laws.{unlisted}
use Rattle.tables.proofs.reason.is_suback_reason.Goals as goal

pub returns-in-3-to-127-2 : goal.returns-in-3-to-127-2
unfolding sub_ack_reasons
returns-in-3-to-127-2 c = sym (unlisted sub_ack_reasons c.args.num c.in-3-to-127.in-3-to-127-own.rest.0)

pub returns-in-0 : goal.returns-in-0
unfolding sub_ack_reasons
returns-in-0 c = rw c.in-0.is

pub returns-in-1 : goal.returns-in-1
unfolding sub_ack_reasons
returns-in-1 c = rw c.in-1.is

pub returns-in-2 : goal.returns-in-2
unfolding sub_ack_reasons
returns-in-2 c = rw c.in-2.is

pub returns-in-128 : goal.returns-in-128
unfolding sub_ack_reasons
returns-in-128 c = rw c.in-128.is

pub returns-in-131 : goal.returns-in-131
unfolding sub_ack_reasons
returns-in-131 c = rw c.in-131.is

pub returns-in-135 : goal.returns-in-135
unfolding sub_ack_reasons
returns-in-135 c = rw c.in-135.is

pub returns-in-143 : goal.returns-in-143
unfolding sub_ack_reasons
returns-in-143 c = rw c.in-143.is

pub returns-in-145 : goal.returns-in-145
unfolding sub_ack_reasons
returns-in-145 c = rw c.in-145.is

pub returns-in-151 : goal.returns-in-151
unfolding sub_ack_reasons
returns-in-151 c = rw c.in-151.is

pub returns-in-158 : goal.returns-in-158
unfolding sub_ack_reasons
returns-in-158 c = rw c.in-158.is

pub returns-in-161 : goal.returns-in-161
unfolding sub_ack_reasons
returns-in-161 c = rw c.in-161.is

pub returns-in-162 : goal.returns-in-162
unfolding sub_ack_reasons
returns-in-162 c = rw c.in-162.is

pub returns-in-3-to-127 : goal.returns-in-3-to-127
unfolding sub_ack_reasons
returns-in-3-to-127 c = rw c.in-3-to-127.in-3-to-127-own.keys13
