-- `tables::reason::is_release_reason` meets its contract: each arm names a reason of the list, and the gaps are the numbers of none. Assumes nothing.
use mathlib.Core.Path.{sym}
use Rattle.grammar.specs.Tables.{release_reasons}
use Rattle.tables.proofs.Laws.{unlisted}
use Rattle.tables.proofs.reason.is_release_reason.Goals as goal

pub returns-in-1-to-145 : goal.returns-in-1-to-145
unfolding release_reasons
returns-in-1-to-145 c = sym (unlisted release_reasons c.args.num c.in-1-to-145.in-1-to-145-own.rest)

pub returns-in-0 : goal.returns-in-0
unfolding release_reasons
returns-in-0 c = rw c.in-0.is

pub returns-in-146 : goal.returns-in-146
unfolding release_reasons
returns-in-146 c = rw c.in-146.is
