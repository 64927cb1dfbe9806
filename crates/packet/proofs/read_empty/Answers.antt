-- `packet::read_empty` is right since only a reserved kind and a ping are answered otherwise than with 5. Assumes nothing.
use mathlib.Core.Option.{none}
use mathlib.Core.Path.{refl, ap}
use Rattle.reading.specs.Reader.{got}
use Rattle.packet.proofs.Laws.{body_reserved, body_ping, body_required, refusing_body}
use Rattle.packet.proofs.read_empty.Goals as goal

pub returns-in-Reserved : goal.returns-in-Reserved
returns-in-Reserved c = λ end. refusing_body (body_reserved _ end _ _ none (rw c.in-Reserved.is at c.packet_type.ensures))

pub returns-in-PingReq : goal.returns-in-PingReq
returns-in-PingReq c = λ end. record { answer = body_ping _ end _ _ (rw c.in-PingReq.is at c.packet_type.ensures); bounded = ap got c.bounds.ensures }

pub returns-in-PingResp : goal.returns-in-PingResp
returns-in-PingResp c = λ end. record { answer = body_ping _ end _ _ (rw c.in-PingResp.is at c.packet_type.ensures); bounded = ap got c.bounds-in-PingResp.ensures }

pub returns-in-Publish : goal.returns-in-Publish
returns-in-Publish c = λ end. refusing_body (body_required _ end _ _ refl (rw c.in-Publish.is at c.packet_type.ensures))

pub returns-in-Ack : goal.returns-in-Ack
returns-in-Ack c = λ end. refusing_body (body_required _ end _ _ refl (rw c.in-Ack.is at c.packet_type.ensures))

pub returns-in-Subscribe : goal.returns-in-Subscribe
returns-in-Subscribe c = λ end. refusing_body (body_required _ end _ _ refl (rw c.in-Subscribe.is at c.packet_type.ensures))

pub returns-in-Reply : goal.returns-in-Reply
returns-in-Reply c = λ end. refusing_body (body_required _ end _ _ refl (rw c.in-Reply.is at c.packet_type.ensures))

pub returns-in-Unsubscribe : goal.returns-in-Unsubscribe
returns-in-Unsubscribe c = λ end. refusing_body (body_required _ end _ _ refl (rw c.in-Unsubscribe.is at c.packet_type.ensures))

pub returns-in-NotCarried : goal.returns-in-NotCarried
returns-in-NotCarried c = λ end. refusing_body (body_required _ end _ _ refl (rw c.in-NotCarried.is at c.packet_type.ensures))
