-- `tables::property::property` meets its contract: each place hands over to the function of its row. Assumes nothing.
use Rattle.tables.proofs.property.property.Goals as goal

pub returns-in-Publish : goal.returns-in-Publish
returns-in-Publish c = rw c.in-Publish.is c.publish_property.ensures

pub returns-in-Subscribe : goal.returns-in-Subscribe
returns-in-Subscribe c = rw c.in-Subscribe.is c.subscribe_property.ensures

pub returns-in-Ack : goal.returns-in-Ack
returns-in-Ack c = rw c.in-Ack.is c.ack_property.ensures

pub returns-in-Unsubscribe : goal.returns-in-Unsubscribe
returns-in-Unsubscribe c = rw c.in-Unsubscribe.is c.unsubscribe_property.ensures
