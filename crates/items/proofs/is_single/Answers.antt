-- `items::is_single` meets its contract: 38 is a list at every place, 11 at that of a Publish. Assumes nothing.
use Rattle.tables.specs.declared.property.PropertyRow.TheVariants.{Publish, Subscribe, Ack, Unsubscribe}
use Rattle.items.proofs.Laws.{single_user, single_ident, single_other}
use Rattle.items.proofs.is_single.Goals as goal

pub returns-then-k-eq38 : goal.returns-then-k-eq38
returns-then-k-eq38 c = single_user c.args.row _ c.if-k-eq38.true

pub returns-in-Publish : goal.returns-in-Publish
returns-in-Publish c = rw c.in-Publish.is (single_ident Publish _ c.if-k-eq11.true)

pub returns-in-Subscribe : goal.returns-in-Subscribe
returns-in-Subscribe c = rw c.in-Subscribe.is (single_ident Subscribe _ c.if-k-eq11.true)

pub returns-in-Ack : goal.returns-in-Ack
returns-in-Ack c = rw c.in-Ack.is (single_ident Ack _ c.if-k-eq11.true)

pub returns-in-Unsubscribe : goal.returns-in-Unsubscribe
returns-in-Unsubscribe c = rw c.in-Unsubscribe.is (single_ident Unsubscribe _ c.if-k-eq11.true)

pub returns : goal.returns
returns c = single_other c.args.row _ c.if-k-eq38.false c.if-k-eq11.false
