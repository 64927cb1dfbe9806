-- `packet::read_body` is right since R is 0 just where no byte is left after the header, and the tables give each kind the layout that its reader reads. Assumes nothing.
use mathlib.Core.Option.{none}
use mathlib.Core.Path.{sym, ap}
use lib.ListN.{drop_of_length-le}
use Rattle.reading.specs.Reader.{got}
use Rattle.packet.proofs.Laws.{left_some, body_reserved, body_ping, body_foreign, body_fields, through, refusing_body}
use Rattle.packet.proofs.read_body.Goals as goal

pub returns-then-s-at : goal.returns-then-s-at
returns-then-s-at c = rw (drop_of_length-le _ c.if-s-at.true) (c.read_empty.ensures _)

pub returns-in-Reserved : goal.returns-in-Reserved
returns-in-Reserved c = refusing_body (body_reserved _ _ _ _ none (rw c.in-Reserved.is at c.packet_type.ensures))

pub returns-in-NotCarried : goal.returns-in-NotCarried
returns-in-NotCarried c = refusing_body (body_foreign _ _ _ (left_some _ _ c.if-s-at.false) _ (rw c.in-NotCarried.is at c.packet_type.ensures))

pub returns-in-Publish : goal.returns-in-Publish
returns-in-Publish c = through c.read_publish.ensures (body_fields _ _ _ (left_some _ _ c.if-s-at.false) _ _ (rw c.in-Publish.is at c.packet_type.ensures))

pub returns-in-Ack : goal.returns-in-Ack
returns-in-Ack c =
    let e = (rw c.in-Ack.is at c.packet_type.ensures) in
    through (c.read_ack.ensures _ (sym (ap (λ z. z.0) e))) (body_fields _ _ _ (left_some _ _ c.if-s-at.false) _ _ e)

pub returns-in-Subscribe : goal.returns-in-Subscribe
returns-in-Subscribe c = through (c.read_subscribe.ensures _) (body_fields _ _ _ (left_some _ _ c.if-s-at.false) _ _ (rw c.in-Subscribe.is at c.packet_type.ensures))

pub returns-in-Reply : goal.returns-in-Reply
returns-in-Reply c =
    let e = (rw c.in-Reply.is at c.packet_type.ensures) in
    through (c.read_reply.ensures _ (sym (ap (λ z. z.0) e))) (body_fields _ _ _ (left_some _ _ c.if-s-at.false) _ _ e)

pub returns-in-Unsubscribe : goal.returns-in-Unsubscribe
returns-in-Unsubscribe c = through (c.read_unsubscribe.ensures _) (body_fields _ _ _ (left_some _ _ c.if-s-at.false) _ _ (rw c.in-Unsubscribe.is at c.packet_type.ensures))

pub returns-in-PingReq : goal.returns-in-PingReq
returns-in-PingReq c = record { answer = body_ping _ _ _ _ (rw c.in-PingReq.is at c.packet_type.ensures); bounded = ap got c.bounds.ensures }

pub returns-in-PingResp : goal.returns-in-PingResp
returns-in-PingResp c = record { answer = body_ping _ _ _ _ (rw c.in-PingResp.is at c.packet_type.ensures); bounded = ap got c.bounds-in-PingResp.ensures }
