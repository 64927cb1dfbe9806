-- The heads of a packet to write, as `c_heads` makes them: what one hands over with empty lists leaves no choice of it. Assumes nothing.
use Rattle.std.specs.Prelude.{Some, None, Result, Ok, Err}
use mathlib.Core.Path.{◌≡◌, refl, ap}
use mathlib.Core.Bool.{Bool, false}
use mathlib.Core.Option.{none}
use Prim.Native.Nat.{ℕ}
use mathlib.Core.List.{[]}
use Rattle.reading.specs.Reader.{Fit, got, bad}
use Rattle.writing.specs.Handed.{Handed, PublishHanded, SubscribeHanded, AckHanded, ReplyHanded, UnsubscribeHanded, publish, ack, subscribe, reply, unsubscribe, ping}
use Rattle.records.proofs.AsNumbers.{back_bool, back_bool_lem, back_qos, back_qos_lem, back_ack_kind, back_ack_kind_lem, back_reply_kind, back_reply_kind_lem, back_error, back_error_lem}
use Rattle.publish_plan.specs.declared.head.PublishHead.{PublishHead}
use Rattle.publish_plan.specs.Handed as publishing
use Rattle.ack_write.specs.declared.AckHead.{AckHead}
use Rattle.ack_write.specs.Handed as answering
use Rattle.reply_write.specs.declared.ReplyHead.{ReplyHead}
use Rattle.reply_write.specs.Handed as replying
use Rattle.unsubscribe_write.specs.declared.UnsubscribeHead.{UnsubscribeHead}
use Rattle.unsubscribe_write.specs.Handed as unsubscribing
use Rattle.records.specs.AsNumbers.{told_ack_kind, told_reply_kind}
use Rattle.subscribe_write.specs.declared.SubscribeHead.{SubscribeHead}
use Rattle.subscribe_write.specs.Handed as subscribing
use Rattle.write_tests.specs.Tested.{told_tested}
use Rattle.c_heads.specs.declared.publish_by.PublishBy.{PublishBy}
use Rattle.c_heads.specs.declared.subscribe_by.SubscribeBy.{SubscribeBy}
use Rattle.c_heads.specs.Head.{publish_handed, subscribe_handed}
use Rattle.promises.specs.OneResult.{OneResult}
use Rattle.promises.proofs.OneLaws.{one_by}
use Rattle.promises.proofs.OneWriters.{back_number, back_number_lem}
use Rattle.records.specs.declared.error.Error.{Error}

-- ---- a Publish

abbrev back_publish : PublishHanded → PublishHead
back_publish h = record {
  dup = back_bool h.dup;
  qos = back_qos h.qos;
  retain = back_bool h.retain;
  pkid = h.ident;
  block = h.block;
  payload_format_indicator = back_number None Some h.format;
  message_expiry_interval = back_number None Some h.expiry;
  topic_alias = back_number None Some h.alias;
  response_topic = h.response.on;
  correlation_data = h.correlation.on;
  content_type = h.content.on;
}

-- for what is none
abbrev no_publish : PublishHanded
no_publish = record { dup = 0; qos = 0; retain = 0; topic = []; ident = 0; block = false; format = none; expiry = none; alias = none; response = record { on = false; bytes = [] }; correlation = record { on = false; bytes = [] }; user = record { bytes = []; lengths = [] }; subscriptions = []; content = record { on = false; bytes = [] }; payload = [] }

back_publish_lem : (m : PublishHead) → back_publish (publishing.handed m [] [] [] [] [] [] [] []) ≡ m
back_publish_lem m = simp (back_bool_lem, back_qos_lem, back_number_lem)

-- what C hands over of it: whether its numbers are 0 where their flags are off, the test of its QoS, and the head
abbrev back_tested : Fit (Unit {0}) → Result (Unit {0}) Error
back_tested (got u) = (Ok tt)
back_tested (bad k) = Err (back_error k)

back_tested_lem : (t : Result (Unit {0}) Error) → back_tested (told_tested t) ≡ t
back_tested_lem (Ok tt) = refl
back_tested_lem (Err e) = ap Err (back_error_lem e)

abbrev back_handed : Handed → PublishHead
back_handed (publish h) = back_publish h
back_handed (ack k h) = back_publish no_publish
back_handed (subscribe h) = back_publish no_publish
back_handed (reply k h) = back_publish no_publish
back_handed (unsubscribe h) = back_publish no_publish
back_handed (ping k) = back_publish no_publish

abbrev back_publish_by : Bool × Fit (Unit {0}) × Handed → PublishBy
back_publish_by t = record { zeros = t.0; quality = back_tested t.1; head = back_handed t.2 }

back_publish_by_lem : (r : PublishBy) → back_publish_by (publish_handed r [] [] [] [] [] [] [] []) ≡ r
back_publish_by_lem r = rw (back_tested_lem r.quality, back_publish_lem r.head)

pub publish_head_same : OneResult (λ (r : PublishBy). publish_handed r [] [] [] [] [] [] [] [])
publish_head_same = one_by (λ (r : PublishBy). publish_handed r [] [] [] [] [] [] [] []) back_publish_by back_publish_by_lem

-- ---- a publish acknowledgement: what it hands over, and the number of its kind

abbrev back_ack_head : ℕ × AckHanded → AckHead
back_ack_head (k, h) = record { kind = back_ack_kind k; pkid = h.ident; reason = h.reason; block = h.block; reason_string = h.text.on }

abbrev ack_told : AckHead → ℕ × AckHanded
ack_told m = (told_ack_kind m.kind, answering.handed m [] [] [])

back_ack_lem : (m : AckHead) → back_ack_head (ack_told m) ≡ m
back_ack_lem m = simp back_ack_kind_lem

pub ack_head_same : OneResult ack_told
ack_head_same = one_by ack_told back_ack_head back_ack_lem

-- ---- a SubAck or UnsubAck, likewise

abbrev back_reply_head : ℕ × ReplyHanded → ReplyHead
back_reply_head (k, h) = record { kind = back_reply_kind k; pkid = h.ident; block = h.block; reason_string = h.text.on }

abbrev reply_told : ReplyHead → ℕ × ReplyHanded
reply_told m = (told_reply_kind m.kind, replying.handed m [] [] [] [])

back_reply_lem : (m : ReplyHead) → back_reply_head (reply_told m) ≡ m
back_reply_lem m = simp back_reply_kind_lem

pub reply_head_same : OneResult reply_told
reply_head_same = one_by reply_told back_reply_head back_reply_lem

-- ---- an Unsubscribe

abbrev back_unsubscribe : UnsubscribeHanded → UnsubscribeHead
back_unsubscribe h = record { pkid = h.ident; block = h.block }

back_unsubscribe_lem : (m : UnsubscribeHead) → back_unsubscribe (unsubscribing.handed m [] [] [] []) ≡ m
back_unsubscribe_lem m = refl

pub unsubscribe_head_same : OneResult (λ (m : UnsubscribeHead). unsubscribing.handed m [] [] [] [])
unsubscribe_head_same = one_by (λ (m : UnsubscribeHead). unsubscribing.handed m [] [] [] []) back_unsubscribe back_unsubscribe_lem

-- ---- a Subscribe

abbrev back_subscribe : SubscribeHanded → SubscribeHead
back_subscribe h = record { pkid = h.ident; block = h.block; id = back_number None Some h.subscription }

-- for what is none
abbrev no_subscribe : SubscribeHanded
no_subscribe = record { ident = 0; block = false; subscription = none; user = record { bytes = []; lengths = [] }; filters = record { bytes = []; lengths = [] }; options = [] }

back_subscribe_lem : (m : SubscribeHead) → back_subscribe (subscribing.handed m [] [] [] [] []) ≡ m
back_subscribe_lem m = simp back_number_lem

abbrev back_subscribed : Handed → SubscribeHead
back_subscribed (publish h) = back_subscribe no_subscribe
back_subscribed (ack k h) = back_subscribe no_subscribe
back_subscribed (subscribe h) = back_subscribe h
back_subscribed (reply k h) = back_subscribe no_subscribe
back_subscribed (unsubscribe h) = back_subscribe no_subscribe
back_subscribed (ping k) = back_subscribe no_subscribe

abbrev back_subscribe_by : Bool × Fit (Unit {0}) × Handed → SubscribeBy
back_subscribe_by t = record { zeros = t.0; head = back_subscribed t.2 }

back_subscribe_by_lem : (r : SubscribeBy) → back_subscribe_by (subscribe_handed r [] [] [] [] []) ≡ r
back_subscribe_by_lem r = rw (back_subscribe_lem r.head)

pub subscribe_head_same : OneResult (λ (r : SubscribeBy). subscribe_handed r [] [] [] [] [])
subscribe_head_same = one_by (λ (r : SubscribeBy). subscribe_handed r [] [] [] [] []) back_subscribe_by back_subscribe_by_lem
