-- What C hands over to be written, from the arguments in the order of bindings/c/ecchjulmina.h, and what is tested of it before the writing
-- order of the packet. Assumes nothing.
use Rattle.std.specs.Prelude.{Bool, ◌||◌, ◌&&◌, cond, List, [], ◌∷◌, ℕ, eqb, ltb}
use Rattle.grammar.specs.Choice.{all}
use Rattle.reading.specs.Refusal.{nr}
use Rattle.reading.specs.Reader.{Fit, got, ◌>>◌, guard}
use Rattle.writing.specs.Handed.{Lent, Handed, publish, ack, subscribe, reply, UnsubscribeHanded, belongs}
use Rattle.records.specs.AsNumbers.{told_bool}
use Rattle.write_runs.specs.Given.{run}
use Rattle.c_arguments.specs.Given.{is_on, maybe}

-- header: "`.._on` says whether the value behind it is present", of bytes
abbrev pub lent_by : ℕ → List ℕ → Lent
lent_by on b = record { on = is_on on; bytes = b }

-- ---- what C can hand over and a record cannot hold

-- a packet, and beside it each number that may be absent with the flag before it, and the QoS of the first byte (0 where it has none)
pub record By : Type 0 where
  pub numbers : List (ℕ × ℕ)
  pub quality : ℕ
  pub handed : Handed

-- 01, row 20: "anything is handed over for an absent value": of a number, anything but 0
abbrev pub zero_if_off : ℕ × ℕ → Bool
zero_if_off f = is_on f.0 || eqb f.1 0

-- 01, row 11, of the first byte
abbrev pub qos_test : ℕ → Fit (Unit {0})
qos_test n = guard (ltb n 3) (nr 11 (n ∷ []))

-- a QoS that a record can hold; 0 for one that is refused
abbrev pub known_qos : ℕ → ℕ
known_qos n = cond (ltb n 3) n 0

-- whether each number whose flag is off is 0, the test of the first byte, and the packet
abbrev pub tests_of : By → Bool × Fit (Unit {0}) × Handed
tests_of b = (all zero_if_off b.numbers, qos_test b.quality, b.handed)

-- 01, writing order: "20"; then the QoS, "field by field as written", which stands in the first byte; the packet's own order follows
unfoldable pub behind : Bool × Fit (Unit {0}) × Handed → Fit Handed
behind t = do
  guard (t.0 && belongs t.2) (nr 20 [])
  t.1
  got t.2

-- the packet, or the refusal before its own order
abbrev pub handed_by : By → Fit Handed
handed_by b = behind (tests_of b)

-- one with neither such numbers nor a QoS
abbrev pub alone : Handed → By
alone h = record { numbers = []; quality = 0; handed = h }

-- ---- the writers

-- ecch_publish_size, ecch_publish_write
abbrev pub publish_by : (dup qos retain pkid : ℕ) → List ℕ → (block formatOn format expiryOn expiry aliasOn alias responseOn : ℕ) → List ℕ → (correlationOn : ℕ) → List ℕ → List ℕ → List ℕ → List ℕ → (contentOn : ℕ) → List ℕ → List ℕ → By
publish_by dup qos retain pkid topic block formatOn format expiryOn expiry aliasOn alias responseOn response correlationOn correlation user lengths ids contentOn content payload = record {
  numbers = (formatOn, format) ∷ (expiryOn, expiry) ∷ (aliasOn, alias) ∷ [];
  quality = qos;
  handed = publish (record {
    dup = told_bool (is_on dup);
    qos = known_qos qos;
    retain = told_bool (is_on retain);
    topic = topic;
    ident = pkid;
    block = is_on block;
    format = maybe formatOn format;
    expiry = maybe expiryOn expiry;
    alias = maybe aliasOn alias;
    response = lent_by responseOn response;
    correlation = lent_by correlationOn correlation;
    user = run user lengths;
    subscriptions = ids;
    content = lent_by contentOn content;
    payload = payload;
  });
}

-- ecch_subscribe_size, ecch_subscribe_write
abbrev pub subscribe_by : (pkid block identifierOn identifier : ℕ) → List ℕ → List ℕ → List ℕ → List ℕ → List ℕ → By
subscribe_by pkid block identifierOn identifier user lengths filters filterLengths options = record {
  numbers = (identifierOn, identifier) ∷ [];
  quality = 0;
  handed = subscribe (record {
    ident = pkid;
    block = is_on block;
    subscription = maybe identifierOn identifier;
    user = run user lengths;
    filters = run filters filterLengths;
    options = options;
  });
}

-- ecch_puback_size, ecch_puback_write, and the same of PubRec, PubRel and PubComp, by the number of the kind; 02, P1: a reason may be any byte, "the
-- written one" is refused "where 14 stands"
abbrev pub ack_by : (kind pkid reason block textOn : ℕ) → List ℕ → List ℕ → List ℕ → Handed
ack_by kind pkid reason block textOn text user lengths = ack kind (record {
  ident = pkid;
  reason = reason;
  block = is_on block;
  text = lent_by textOn text;
  user = run user lengths;
})

-- ecch_suback_size, ecch_suback_write, and the same of UnsubAck, by the number of the kind
abbrev pub reply_by : (kind pkid block textOn : ℕ) → List ℕ → List ℕ → List ℕ → List ℕ → Handed
reply_by kind pkid block textOn text user lengths reasons = reply kind (record {
  ident = pkid;
  block = is_on block;
  text = lent_by textOn text;
  user = run user lengths;
  reasons = reasons;
})

-- ecch_unsubscribe_size, ecch_unsubscribe_write
abbrev pub unsubscribe_by : (pkid block : ℕ) → List ℕ → List ℕ → List ℕ → List ℕ → UnsubscribeHanded
unsubscribe_by pkid block user lengths topics topicLengths = record {
  ident = pkid;
  block = is_on block;
  user = run user lengths;
  topics = run topics topicLengths;
}
