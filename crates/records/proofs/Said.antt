-- Records: each comes back field by field from what it tells, so that what is told leaves no choice of it. Assumes nothing.
use Rattle.std.specs.Prelude as std
use Rattle.std.specs.Prelude.{Some, None}
use mathlib.Core.Bool.{cond}
use mathlib.Core.Path.{◌≡◌, refl, ap}
use mathlib.Core.Option.{Option, none, some}
use lib.Dec.{eqb}
use Rattle.grammar.specs.Record.{PublishProps, Props, publish, ack, subscribe, reply, unsubscribe, ping}
use Rattle.grammar.specs.Record as record_of
use Rattle.reading.specs.Place.{Placed}
use Rattle.reading.specs.Place as place
use Rattle.records.specs.Said.{told_publish_properties, told_properties, told_publish_block, told_block, told_publish, told_filter, told_subscribe, told_ack, told_reply, told_unsubscribe, told_packet}
use Rattle.records.specs.declared.packet_record.Packet.{Packet}
use Rattle.records.specs.declared.ack_record.Ack.{Ack}
use Rattle.records.specs.declared.properties_record.Properties.{Properties}
use Rattle.records.specs.declared.publish_record.Publish.{Publish}
use Rattle.records.specs.declared.publish_record.PublishProperties.{PublishProperties}
use Rattle.records.specs.declared.subscribe_record.Filter.{Filter}
use Rattle.records.specs.declared.subscribe_record.Subscribe.{Subscribe}
use Rattle.records.specs.declared.reply_record.Reply.{Reply}
use Rattle.records.specs.declared.unsubscribe_record.Unsubscribe.{Unsubscribe}
use Rattle.records.specs.AsNumbers.{back_span}
use Rattle.records.proofs.AsNumbers.{back_bool, back_qos, back_ack_kind, back_reply_kind, back_rule, back_number_if, back_string, back_bool_lem, back_qos_lem, back_ack_kind_lem, back_reply_kind_lem, back_rule_lem, back_span_lem, back_number_if_lem, back_string_lem}

-- ---- property sets

back_publish_properties : PublishProps place.Span (λ A. place.Span) → PublishProperties
back_publish_properties p = record {
  payload_format_indicator = back_number_if p.format;
  message_expiry_interval = back_number_if p.expiry;
  topic_alias = back_number_if p.alias;
  response_topic = back_string p.response;
  correlation_data = back_string p.correlation;
  content_type = back_string p.content;
  block = back_span p.user;
}

back_publish_properties_lem : (p : PublishProperties) → back_publish_properties (told_publish_properties p) ≡ p
unfolding back_publish_properties
back_publish_properties_lem p = simp (back_number_if_lem, back_number_if_lem, back_number_if_lem, back_string_lem, back_span_lem)

back_properties : Props place.Span (λ A. place.Span) → Properties
back_properties p = record { reason_string = back_string p.reason; id = back_number_if p.ident; block = back_span p.user }

back_properties_lem : (p : Properties) → back_properties (told_properties p) ≡ p
unfolding back_properties
back_properties_lem p = simp (back_string_lem, back_number_if_lem, back_span_lem)

pub back_publish_block : Option (PublishProps place.Span (λ A. place.Span)) → std.Option PublishProperties
back_publish_block none = None
back_publish_block (some p) = Some (back_publish_properties p)

pub back_publish_block_lem : (m : std.Option PublishProperties) → back_publish_block (told_publish_block m) ≡ m
unfolding back_publish_block
back_publish_block_lem None = refl
back_publish_block_lem (Some p) = ap Some (back_publish_properties_lem p)

pub back_block : Option (Props place.Span (λ A. place.Span)) → std.Option Properties
back_block none = None
back_block (some p) = Some (back_properties p)

pub back_block_lem : (m : std.Option Properties) → back_block (told_block m) ≡ m
unfolding back_block
back_block_lem None = refl
back_block_lem (Some p) = ap Some (back_properties_lem p)

-- ---- packets

back_publish : record_of.Publish place.Span (λ A. place.Span) → Publish
back_publish m = record {
  dup = back_bool m.dup;
  qos = back_qos m.qos;
  retain = back_bool m.retain;
  topic = back_span m.topic;
  pkid = m.ident;
  payload = back_span m.payload;
  properties = back_publish_block m.props;
}

back_publish_lem : (m : Publish) → back_publish (told_publish m) ≡ m
unfolding back_publish
back_publish_lem m = simp (back_bool_lem, back_qos_lem, back_span_lem, back_publish_block_lem)

pub back_filter : record_of.Filter place.Span → Filter
back_filter f = record {
  path = back_span f.path;
  qos = back_qos f.qos;
  nolocal = back_bool f.no_local;
  preserve_retain = back_bool f.preserve;
  retain_forward_rule = back_rule f.rule;
}

pub back_filter_lem : (f : Filter) → back_filter (told_filter f) ≡ f
unfolding back_filter
back_filter_lem f = simp (back_span_lem, back_qos_lem, back_bool_lem, back_rule_lem)

back_subscribe : record_of.Subscribe place.Span (λ A. place.Span) → Subscribe
back_subscribe m = record { pkid = m.ident; filters = back_span m.filters; properties = back_block m.props }

back_subscribe_lem : (m : Subscribe) → back_subscribe (told_subscribe m) ≡ m
unfolding back_subscribe
back_subscribe_lem m = simp (back_span_lem, back_block_lem)

back_ack : record_of.Ack place.Span (λ A. place.Span) → Ack
back_ack m = record { pkid = m.ident; reason = m.reason; properties = back_block m.props }

back_ack_lem : (m : Ack) → back_ack (told_ack m) ≡ m
unfolding back_ack
back_ack_lem m = simp back_block_lem

back_reply : record_of.Reply place.Span (λ A. place.Span) → Reply
back_reply m = record { pkid = m.ident; reasons = back_span m.reasons; properties = back_block m.props }

back_reply_lem : (m : Reply) → back_reply (told_reply m) ≡ m
unfolding back_reply
back_reply_lem m = simp (back_span_lem, back_block_lem)

back_unsubscribe : record_of.Unsubscribe place.Span (λ A. place.Span) → Unsubscribe
back_unsubscribe m = record { pkid = m.ident; topics = back_span m.topics; properties = back_block m.props }

back_unsubscribe_lem : (m : Unsubscribe) → back_unsubscribe (told_unsubscribe m) ≡ m
unfolding back_unsubscribe
back_unsubscribe_lem m = simp (back_span_lem, back_block_lem)

pub back_packet : Placed → Packet
back_packet (publish m) = Packet.Publish (back_publish m)
back_packet (ack k m) = Packet.Ack (back_ack_kind k) (back_ack m)
back_packet (subscribe m) = Packet.Subscribe (back_subscribe m)
back_packet (reply k m) = Packet.Reply (back_reply_kind k) (back_reply m)
back_packet (unsubscribe m) = Packet.Unsubscribe (back_unsubscribe m)
back_packet (ping k) = cond (eqb k 12) Packet.PingReq Packet.PingResp

pub back_packet_lem : (p : Packet) → back_packet (told_packet p) ≡ p
unfolding back_packet
back_packet_lem (Packet.Publish m) = ap Packet.Publish (back_publish_lem m)
back_packet_lem (Packet.Ack k m) = rw (back_ack_kind_lem k, back_ack_lem m)
back_packet_lem (Packet.Subscribe m) = ap Packet.Subscribe (back_subscribe_lem m)
back_packet_lem (Packet.Reply k m) = rw (back_reply_kind_lem k, back_reply_lem m)
back_packet_lem (Packet.Unsubscribe m) = ap Packet.Unsubscribe (back_unsubscribe_lem m)
back_packet_lem Packet.PingReq = refl
back_packet_lem Packet.PingResp = refl
