-- A packet handed over in the lent parts of every kind: what belongs to its kind, if nothing else is handed over. Assumes nothing.
use Rattle.std.specs.Prelude.{[]}
use Rattle.grammar.specs.Choice.{is_empty, all}
use Rattle.reading.specs.Refusal.{nr}
use Rattle.reading.specs.Reader.{Fit, got, ◌>>◌, guard}
use Rattle.writing.specs.Handed.{Handed, publish, ack, subscribe, reply, unsubscribe, ping}
use Rattle.records.specs.AsNumbers.{told_ack_kind, told_reply_kind}
use Rattle.ack_write.specs.Handed as ack-of
use Rattle.reply_write.specs.Handed as reply-of
use Rattle.unsubscribe_write.specs.Handed as unsubscribe-of
use Rattle.subscribe_write.specs.Handed as subscribe-of
use Rattle.publish_plan.specs.Handed as publish-of
use Rattle.packet_write.specs.Parts.{Parts, foreign}
use Rattle.packet_write.specs.declared.head.PacketHead.{PacketHead}

-- ---- what is handed over

-- what belongs to the record, by its kind; 01, grammar: PingReq is 12, PingResp 13
abbrev pub own : PacketHead → Parts → Handed
own (PacketHead.Publish m) p = publish (publish-of.handed m p.topic p.response p.correlation p.user p.user_lengths p.subscriptions p.content p.payload)
own (PacketHead.Ack m) p = ack (told_ack_kind m.kind) (ack-of.handed m p.reason p.user p.user_lengths)
own (PacketHead.Subscribe m) p = subscribe (subscribe-of.handed m p.user p.user_lengths p.entry_bytes p.entry_lengths p.entries)
own (PacketHead.Reply m) p = reply (told_reply_kind m.kind) (reply-of.handed m p.reason p.user p.user_lengths p.entries)
own (PacketHead.Unsubscribe m) p = unsubscribe (unsubscribe-of.handed m p.user p.user_lengths p.entry_bytes p.entry_lengths)
own PacketHead.PingReq p = ping 12
own PacketHead.PingResp p = ping 13

-- 01, row 20: "anything is handed over for an absent value": first of all, nothing but what belongs to the record
unfoldable pub union_of : PacketHead → Parts → Fit Handed
union_of m p = do
  guard (all is_empty (foreign m p)) (nr 20 [])
  got (own m p)
