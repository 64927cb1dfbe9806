-- What each record tells: the packet of the grammar with places for strings and lists. Assumes nothing.
use Rattle.std.specs.Prelude as std
use Rattle.std.specs.Prelude.{Some, None}
use Rattle.std.proofs.Math.Option.{Option, none, some}
use Rattle.grammar.specs.Record.{PublishProps, Props, publish, ack, subscribe, reply, unsubscribe, ping}
use Rattle.grammar.specs.Record as record_of
use Rattle.reading.specs.Place.{Placed}
use Rattle.reading.specs.Place as place
use Rattle.records.specs.AsNumbers.{told_bool, told_qos, told_ack_kind, told_reply_kind, told_rule, told_span, told_number_if, told_string}
use Rattle.records.specs.declared.packet_record.Packet.{Packet}
use Rattle.records.specs.declared.ack_record.Ack.{Ack}
use Rattle.records.specs.declared.properties_record.Properties.{Properties}
use Rattle.records.specs.declared.publish_record.Publish.{Publish}
use Rattle.records.specs.declared.publish_record.PublishProperties.{PublishProperties}
use Rattle.records.specs.declared.subscribe_record.Filter.{Filter}
use Rattle.records.specs.declared.subscribe_record.Subscribe.{Subscribe}
use Rattle.records.specs.declared.reply_record.Reply.{Reply}
use Rattle.records.specs.declared.unsubscribe_record.Unsubscribe.{Unsubscribe}

-- ---- property sets

-- 01, table of properties, row Publish; both lists are read in the block
abbrev pub told_publish_properties : PublishProperties → PublishProps place.Span (λ A. place.Span)
told_publish_properties p = record {
  format = told_number_if p.payload_format_indicator;
  expiry = told_number_if p.message_expiry_interval;
  alias = told_number_if p.topic_alias;
  response = told_string p.response_topic;
  correlation = told_string p.correlation_data;
  user = told_span p.block;
  subscriptions = told_span p.block;
  content = told_string p.content_type;
}

-- 01, table of properties, rows Subscribe and PubAck; 02, P1, row Unsubscribe
abbrev pub told_properties : Properties → Props place.Span (λ A. place.Span)
told_properties p = record { reason = told_string p.reason_string; ident = told_number_if p.id; user = told_span p.block }

-- 01, grammar: "L = 0 means absent", in a Publish
abbrev pub told_publish_block : std.Option PublishProperties → Option (PublishProps place.Span (λ A. place.Span))
told_publish_block None = none
told_publish_block (Some p) = some (told_publish_properties p)

-- 01, grammar: "L = 0 means absent", at any other place; PubAck: "no block"
abbrev pub told_block : std.Option Properties → Option (Props place.Span (λ A. place.Span))
told_block None = none
told_block (Some p) = some (told_properties p)

-- ---- packets

-- 01, grammar: "Publish (3)"
abbrev pub told_publish : Publish → record_of.Publish place.Span (λ A. place.Span)
told_publish m = record {
  dup = told_bool m.dup;
  qos = told_qos m.qos;
  retain = told_bool m.retain;
  topic = told_span m.topic;
  ident = m.pkid;
  props = told_publish_block m.properties;
  payload = told_span m.payload;
}

-- 01, grammar, Subscribe: "text, then an options byte"
abbrev pub told_filter : Filter → record_of.Filter place.Span
told_filter f = record {
  path = told_span f.path;
  qos = told_qos f.qos;
  no_local = told_bool f.nolocal;
  preserve = told_bool f.preserve_retain;
  rule = told_rule f.retain_forward_rule;
}

-- 01, grammar: "Subscribe (8)"
abbrev pub told_subscribe : Subscribe → record_of.Subscribe place.Span (λ A. place.Span)
told_subscribe m = record { ident = m.pkid; props = told_block m.properties; filters = told_span m.filters }

-- 01, grammar: "PubAck (4)"; 02, P1: the four share one layout
abbrev pub told_ack : Ack → record_of.Ack place.Span (λ A. place.Span)
told_ack m = record { ident = m.pkid; reason = m.reason; props = told_block m.properties }

-- 02, P1: SubAck and UnsubAck
abbrev pub told_reply : Reply → record_of.Reply place.Span (λ A. place.Span)
told_reply m = record { ident = m.pkid; props = told_block m.properties; reasons = told_span m.reasons }

-- 02, P1: Unsubscribe
abbrev pub told_unsubscribe : Unsubscribe → record_of.Unsubscribe place.Span (λ A. place.Span)
told_unsubscribe m = record { ident = m.pkid; props = told_block m.properties; topics = told_span m.topics }

-- 01, modules: "Publish, Subscribe, PubAck, PingReq, PingResp", and 02, P1, with the numbers of their kinds
abbrev pub told_packet : Packet → Placed
told_packet (Packet.Publish m) = publish (told_publish m)
told_packet (Packet.Ack k m) = ack (told_ack_kind k) (told_ack m)
told_packet (Packet.Subscribe m) = subscribe (told_subscribe m)
told_packet (Packet.Reply k m) = reply (told_reply_kind k) (told_reply m)
told_packet (Packet.Unsubscribe m) = unsubscribe (told_unsubscribe m)
told_packet Packet.PingReq = ping 12
told_packet Packet.PingResp = ping 13
