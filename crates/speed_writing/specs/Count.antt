-- What the benchmark hands over, and the number that it is given. Assumes nothing.
use Rattle.std.specs.Prelude.{◌≡◌, true, false, cond, List, ℕ, eqb, None}
use Rattle.std.proofs.Math.Option.{none}
use Rattle.positions.specs.Count.{or_zero}
use Rattle.records.specs.declared.qos.QoS.{QoS}
use Rattle.publish_plan.specs.declared.head.PublishHead.{PublishHead}
use Rattle.packet_write.specs.Parts.{Parts}
use Rattle.writing.specs.Write.{answered_behind, out_behind}
use Rattle.packet_write.specs.Union.{union_of}
use Rattle.packet_write.specs.declared.head.PacketHead.{PacketHead}

-- QoS 0 for the identifier 0, else QoS 1
abbrev pub qos_for : ℕ → QoS
qos_for pkid = cond (eqb pkid 0) QoS.AtMostOnce QoS.AtLeastOnce

-- a Publish with user properties alone
abbrev pub bench_head : ℕ → PublishHead
bench_head i = record {
  dup = false;
  qos = qos_for i;
  retain = false;
  pkid = i;
  block = true;
  payload_format_indicator = None;
  message_expiry_interval = None;
  topic_alias = None;
  response_topic = false;
  correlation_data = false;
  content_type = false;
}

-- the number r that is given, and the output before and after
pub record Counted (pkid : ℕ) (p : Parts) (before after : List ℕ) (r : ℕ) : Type 0 where
  pub number : r ≡ or_zero (answered_behind (union_of (PacketHead.Publish (bench_head pkid)) p) none before)
  pub output : after ≡ out_behind (union_of (PacketHead.Publish (bench_head pkid)) p) none before
