-- What of a read stands under which name of the layout. Assumes nothing.
use Rattle.std.specs.Prelude.{List, ℕ}
use Rattle.grammar.specs.Record.{publish, ack, subscribe, reply, unsubscribe, ping}
use Rattle.reading.specs.Refusal.{Answer, accepted, refused}
use Rattle.reading.specs.Reader.{Fit, got, bad}
use Rattle.reading.specs.Place.{Placed}
use Rattle.records.specs.AsNumbers.{back_span}
use Rattle.records.specs.declared.span.Bounds.{Bounds}
use Rattle.records.specs.declared.span.Span.{Span}
use Rattle.c_layout_read.specs.declared.place.Head.{Head}
use Rattle.c_layout_read.specs.Layout.{laid_out}
use Rattle.c_layout.specs.Value.{value_or_zero}
use Rattle.c_layout_read.specs.Block.{no_block, packet_block}

-- ---- all but the properties

-- no place
abbrev pub no_span : Span
no_span = record { start = 0; len = 0 }

-- 02, P7: the two numbers; 0 and 0 where there are none
abbrev pub bounds_at : Fit (ℕ × ℕ) → Bounds
bounds_at (got z) = record { start = z.0; end = z.1 }
bounds_at (bad k) = record { start = 0; end = 0 }

-- a refusal: bytes taken, and its values
abbrev pub refused_head : ℕ → ℕ → ℕ → Head
refused_head n a b = record {
  taken = n;
  first = a;
  second = b;
  kind = 0;
  pkid = 0;
  dup = 0;
  qos = 0;
  retain = 0;
  reason = 0;
  topic = no_span;
  payload = no_span;
  filters = no_span;
  reasons = no_span;
  topics = no_span;
  properties = record { start = 0; end = 0 };
}

-- a packet of a kind other than Publish; header: "0 where it does not apply"
abbrev pub plain_head : (taken kind pkid reason : ℕ) → (filters reasons topics : Span) → Bounds → Head
plain_head n kind pkid reason filters reasons topics b = record {
  taken = n;
  first = 0;
  second = 0;
  kind = kind;
  pkid = pkid;
  dup = 0;
  qos = 0;
  retain = 0;
  reason = reason;
  topic = no_span;
  payload = no_span;
  filters = filters;
  reasons = reasons;
  topics = topics;
  properties = b;
}

-- the packet of each kind, the bytes taken, and where its properties start and end
abbrev pub head_of : ℕ → Bounds → Placed → Head
head_of n b (publish m) = record {
  taken = n;
  first = 0;
  second = 0;
  kind = 3;
  pkid = m.ident;
  dup = m.dup;
  qos = m.qos;
  retain = m.retain;
  reason = 0;
  topic = back_span m.topic;
  payload = back_span m.payload;
  filters = no_span;
  reasons = no_span;
  topics = no_span;
  properties = b;
}
head_of n b (ack k m) = plain_head n k m.ident m.reason no_span no_span no_span b
head_of n b (subscribe m) = plain_head n 8 m.ident 0 (back_span m.filters) no_span no_span b
head_of n b (reply k m) = plain_head n k m.ident 0 no_span (back_span m.reasons) no_span b
head_of n b (unsubscribe m) = plain_head n 10 m.ident 0 no_span no_span (back_span m.topics) b
head_of n b (ping k) = plain_head n k 0 0 no_span no_span no_span b

-- ---- an answer

-- the numbers of a packet that takes n bytes
unfoldable pub packet_numbers : ℕ → Bounds → Placed → List ℕ
packet_numbers n b p = laid_out (head_of n b p) (packet_block p)

-- the number that is returned
abbrev pub read_number : Answer Placed → ℕ
read_number (accepted p n) = 0
read_number (refused k vs n) = k

-- the numbers that are stored, of an answer and P7's two numbers
unfoldable pub encoded : Answer Placed → Fit (ℕ × ℕ) → List ℕ
encoded (accepted p n) f = packet_numbers n (bounds_at f) p
encoded (refused k vs n) f = laid_out (refused_head n (value_or_zero vs 0) (value_or_zero vs 1)) no_block
