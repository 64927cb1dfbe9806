-- What the crate's constructors make. Assumes nothing.
use Rattle.std.specs.Prelude.{Bool, cond, List, ℕ, ◌+◌, eqb}
use Rattle.std.proofs.Math.Option.{Option}
use Rattle.writing.specs.Handed.{AckHanded, SubscribeHanded}
use Rattle.write_runs.specs.Given.{run}
use Rattle.framing.specs.declared.header.FixedHeader.{FixedHeader}

-- v5/mod.rs, `FixedHeader::new`: "fixed_header_len: remaining_len_len + 1"; the largest usize where there is no such number
abbrev pub header_of : ℕ → ℕ → ℕ → ℕ × ℕ × ℕ
header_of byte1 n r = (byte1, cond (eqb n 18446744073709551615) 18446744073709551615 (n + 1), r)

-- the three numbers of a header
abbrev pub told_header : FixedHeader → ℕ × ℕ × ℕ
told_header h = (h.byte1, h.fixed_header_len, h.remaining_len)

-- puback.rs, `PubAck::new`: "reason: PubAckReason::Success", which is 0 in every list
abbrev pub new_ack : ℕ → Bool → Bool → List ℕ → List ℕ → List ℕ → AckHanded
new_ack pkid block on text user lengths = record {
  ident = pkid;
  reason = 0;
  block = block;
  text = record { on = on; bytes = text };
  user = run user lengths;
}

-- subscribe.rs, `Subscribe::new`: "..Default::default()": identifier 0
abbrev pub new_subscribe : Bool → Option ℕ → List ℕ → List ℕ → List ℕ → List ℕ → List ℕ → SubscribeHanded
new_subscribe block id user lengths filters filterLengths options = record {
  ident = 0;
  block = block;
  subscription = id;
  user = run user lengths;
  filters = run filters filterLengths;
  options = options;
}
