-- The answers on blocks, filters, reasons, topics and the fields of a packet. Assumes nothing.
use Rattle.std.specs.Prelude as std
use Rattle.std.specs.Prelude.{Result, Ok, Err}
use mathlib.Core.Path.{◌≡◌, ap}
use Rattle.grammar.specs.Record.{ack, reply}
use Rattle.records.specs.AsNumbers.{back_span}
use Rattle.records.proofs.AsNumbers.{back_span_lem}
use Rattle.records.proofs.Said.{back_publish_block, back_publish_block_lem, back_block, back_block_lem, back_filter, back_filter_lem, back_packet, back_packet_lem}
use Rattle.records.specs.declared.error.Error.{Error}
use Rattle.records.specs.declared.packet_record.Packet.{Packet}
use Rattle.records.specs.declared.ack_record.AckKind.{AckKind}
use Rattle.records.specs.declared.reply_record.ReplyKind.{ReplyKind}
use Rattle.records.specs.declared.subscribe_record.Filter.{Filter}
use Rattle.properties.specs.Block.{told_block_at}
use Rattle.publish.specs.Singles.{told_publish_block_at}
use Rattle.ack.specs.AckRead.{told_got_ack}
use Rattle.filters.specs.FilterRead.{told_got_filter}
use Rattle.filter_runs.specs.FilterRun.{told_got_filters}
use Rattle.subscribe.specs.SubscribeRead.{told_got_subscribe}
use Rattle.reply.specs.ReplyRead.{told_got_reasons, told_got_reply}
use Rattle.unsubscribe.specs.UnsubscribeRead.{told_got_topics, told_got_unsubscribe}
use Rattle.publish.specs.PublishRead.{told_got_publish}
use Rattle.promises.specs.OneResult.{OneResult}
use Rattle.promises.proofs.OneLaws.{one_told}
use Rattle.records.specs.declared.publish_record.PublishProperties.{PublishProperties}
use Rattle.records.specs.declared.ack_record.Ack.{Ack}
use Rattle.records.specs.declared.unsubscribe_record.Unsubscribe.{Unsubscribe}
use Rattle.records.specs.declared.properties_record.Properties.{Properties}
use Rattle.records.specs.declared.reply_record.Reply.{Reply}
use Rattle.records.specs.declared.subscribe_record.Subscribe.{Subscribe}
use Rattle.records.specs.declared.publish_record.Publish.{Publish}

-- ---- blocks

pub publish_block_same : OneResult told_publish_block_at
publish_block_same = one_told _ (λ z. Ok (back_publish_block z.0, z.1)) (λ (p, n). ap (λ (q : std.Option PublishProperties). Ok (q, n)) (back_publish_block_lem p))

pub block_same : OneResult told_block_at
block_same = one_told _ (λ z. Ok (back_block z.0, z.1)) (λ (p, n). ap (λ (q : std.Option Properties). Ok (q, n)) (back_block_lem p))

-- ---- filters

pub filter_same : OneResult told_got_filter
filter_same = one_told _ (λ z. Ok (back_filter z.0, z.1)) (λ (f, n). ap (λ (g : Filter). Ok (g, n)) (back_filter_lem f))

pub filters_same : OneResult told_got_filters
filters_same = one_told _ (λ p. Ok (back_span p)) (λ p. ap Ok (back_span_lem p))

pub reasons_same : OneResult told_got_reasons
reasons_same = one_told _ (λ p. Ok (back_span p)) (λ p. ap Ok (back_span_lem p))

pub topics_same : OneResult told_got_topics
topics_same = one_told _ (λ p. Ok (back_span p)) (λ p. ap Ok (back_span_lem p))

-- ---- packets; what is of another kind leads back to any refusal

abbrev is_publish : Packet → Result Publish Error
is_publish (Packet.Publish m) = Ok m
is_publish (Packet.Ack k m) = Err Error.NoItem
is_publish (Packet.Subscribe m) = Err Error.NoItem
is_publish (Packet.Reply k m) = Err Error.NoItem
is_publish (Packet.Unsubscribe m) = Err Error.NoItem
is_publish Packet.PingReq = Err Error.NoItem
is_publish Packet.PingResp = Err Error.NoItem

pub publish_same : OneResult told_got_publish
publish_same = one_told _ (λ v. is_publish (back_packet v)) (λ m. ap is_publish (back_packet_lem (Packet.Publish m)))

abbrev is_ack : Packet → Result Ack Error
is_ack (Packet.Publish m) = Err Error.NoItem
is_ack (Packet.Ack k m) = Ok m
is_ack (Packet.Subscribe m) = Err Error.NoItem
is_ack (Packet.Reply k m) = Err Error.NoItem
is_ack (Packet.Unsubscribe m) = Err Error.NoItem
is_ack Packet.PingReq = Err Error.NoItem
is_ack Packet.PingResp = Err Error.NoItem

pub ack_same : OneResult told_got_ack
ack_same = one_told _ (λ v. is_ack (back_packet (ack 4 v))) (λ m. ap is_ack (back_packet_lem (Packet.Ack AckKind.PubAck m)))

abbrev is_subscribe : Packet → Result Subscribe Error
is_subscribe (Packet.Publish m) = Err Error.NoItem
is_subscribe (Packet.Ack k m) = Err Error.NoItem
is_subscribe (Packet.Subscribe m) = Ok m
is_subscribe (Packet.Reply k m) = Err Error.NoItem
is_subscribe (Packet.Unsubscribe m) = Err Error.NoItem
is_subscribe Packet.PingReq = Err Error.NoItem
is_subscribe Packet.PingResp = Err Error.NoItem

pub subscribe_same : OneResult told_got_subscribe
subscribe_same = one_told _ (λ v. is_subscribe (back_packet v)) (λ m. ap is_subscribe (back_packet_lem (Packet.Subscribe m)))

abbrev is_reply : Packet → Result Reply Error
is_reply (Packet.Publish m) = Err Error.NoItem
is_reply (Packet.Ack k m) = Err Error.NoItem
is_reply (Packet.Subscribe m) = Err Error.NoItem
is_reply (Packet.Reply k m) = Ok m
is_reply (Packet.Unsubscribe m) = Err Error.NoItem
is_reply Packet.PingReq = Err Error.NoItem
is_reply Packet.PingResp = Err Error.NoItem

pub reply_same : OneResult told_got_reply
reply_same = one_told _ (λ v. is_reply (back_packet (reply 9 v))) (λ m. ap is_reply (back_packet_lem (Packet.Reply ReplyKind.SubAck m)))

abbrev is_unsubscribe : Packet → Result Unsubscribe Error
is_unsubscribe (Packet.Publish m) = Err Error.NoItem
is_unsubscribe (Packet.Ack k m) = Err Error.NoItem
is_unsubscribe (Packet.Subscribe m) = Err Error.NoItem
is_unsubscribe (Packet.Reply k m) = Err Error.NoItem
is_unsubscribe (Packet.Unsubscribe m) = Ok m
is_unsubscribe Packet.PingReq = Err Error.NoItem
is_unsubscribe Packet.PingResp = Err Error.NoItem

pub unsubscribe_same : OneResult told_got_unsubscribe
unsubscribe_same = one_told _ (λ v. is_unsubscribe (back_packet v)) (λ m. ap is_unsubscribe (back_packet_lem (Packet.Unsubscribe m)))
