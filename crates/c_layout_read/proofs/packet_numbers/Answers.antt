-- `c_layout_read::packet_numbers` is right since each kind has its own arm. Assumes nothing.
use Rattle.c_layout_read.proofs.packet_numbers.Goals as goal

pub returns-in-Publish : goal.returns-in-Publish
returns-in-Publish c = rw c.in-Publish.is c.publish_numbers.ensures

pub returns-in-Ack : goal.returns-in-Ack
returns-in-Ack c = rw c.in-Ack.is c.ack_numbers.ensures

pub returns-in-Subscribe : goal.returns-in-Subscribe
returns-in-Subscribe c = rw c.in-Subscribe.is c.subscribe_numbers.ensures

pub returns-in-Reply : goal.returns-in-Reply
returns-in-Reply c = rw c.in-Reply.is c.reply_numbers.ensures

pub returns-in-Unsubscribe : goal.returns-in-Unsubscribe
returns-in-Unsubscribe c = rw c.in-Unsubscribe.is c.unsubscribe_numbers.ensures

pub returns-in-PingReq : goal.returns-in-PingReq
returns-in-PingReq c = rw c.in-PingReq.is c.ping_numbers.ensures

pub returns-in-PingResp : goal.returns-in-PingResp
returns-in-PingResp c = rw c.in-PingResp.is c.ping_numbers-in-PingResp.ensures
