-- `tables::reason::is_publish_reason` meets its contract: each arm names a reason of the list, and the gaps are the numbers of none. Assumes nothing.
use mathlib.Core.Path.{sym}
use Rattle.grammar.specs.Tables.{reasons}
use Rattle.tables.proofs.Laws.{unlisted}
use Rattle.tables.proofs.reason.is_publish_reason.Goals as goal

pub returns-in-1-to-15-2 : goal.returns-in-1-to-15-2
unfolding reasons
returns-in-1-to-15-2 c = sym (unlisted reasons c.args.num c.in-1-to-15.in-1-to-15-own.rest.0)

pub returns-in-0 : goal.returns-in-0
unfolding reasons
returns-in-0 c = rw c.in-0.is

pub returns-in-16 : goal.returns-in-16
unfolding reasons
returns-in-16 c = rw c.in-16.is

pub returns-in-128 : goal.returns-in-128
unfolding reasons
returns-in-128 c = rw c.in-128.is

pub returns-in-131 : goal.returns-in-131
unfolding reasons
returns-in-131 c = rw c.in-131.is

pub returns-in-135 : goal.returns-in-135
unfolding reasons
returns-in-135 c = rw c.in-135.is

pub returns-in-144 : goal.returns-in-144
unfolding reasons
returns-in-144 c = rw c.in-144.is

pub returns-in-145 : goal.returns-in-145
unfolding reasons
returns-in-145 c = rw c.in-145.is

pub returns-in-151 : goal.returns-in-151
unfolding reasons
returns-in-151 c = rw c.in-151.is

pub returns-in-153 : goal.returns-in-153
unfolding reasons
returns-in-153 c = rw c.in-153.is

pub returns-in-1-to-15 : goal.returns-in-1-to-15
unfolding reasons
returns-in-1-to-15 c = rw c.in-1-to-15.in-1-to-15-own.keys10
