-- The lent parts of every kind, and which of them do not belong to a record. Assumes nothing.
use Rattle.std.specs.Prelude.{List, [], ◌∷◌, ◌++◌, ℕ}
use Rattle.packet_write.specs.declared.head.PacketHead.{PacketHead}

-- 01, "What must change shape": each string as bytes, each list as one run of bytes and its lengths, of whatever kind; 02, P1: the texts of
-- filters or topics are the entries' bytes and lengths, options or reasons the entries
pub record Parts : Type 0 where
  pub topic : List ℕ
  pub response : List ℕ
  pub correlation : List ℕ
  pub user : List ℕ
  pub user_lengths : List ℕ
  pub subscriptions : List ℕ
  pub content : List ℕ
  pub payload : List ℕ
  pub reason : List ℕ
  pub entry_bytes : List ℕ
  pub entry_lengths : List ℕ
  pub entries : List ℕ

-- the parts, in the order of the arguments
abbrev pub parts : List ℕ → List ℕ → List ℕ → List ℕ → List ℕ → List ℕ → List ℕ → List ℕ → List ℕ → List ℕ → List ℕ → List ℕ → Parts
parts topic response correlation user user_lengths subscriptions content payload reason entry_bytes entry_lengths entries = record {
  topic = topic;
  response = response;
  correlation = correlation;
  user = user;
  user_lengths = user_lengths;
  subscriptions = subscriptions;
  content = content;
  payload = payload;
  reason = reason;
  entry_bytes = entry_bytes;
  entry_lengths = entry_lengths;
  entries = entries;
}

-- ---- whose parts they are

-- 01, grammar, Publish, and its row of the table: the parts that no other kind has
abbrev pub publish_parts : Parts → List (List ℕ)
publish_parts p = p.topic ∷ p.response ∷ p.correlation ∷ p.subscriptions ∷ p.content ∷ p.payload ∷ []

-- 01, table of properties, row PubAck; 02, P1: the reason string of every acknowledgement
abbrev pub reason_parts : Parts → List (List ℕ)
reason_parts p = p.reason ∷ []

-- 01, grammar, Subscribe: the texts of its filters; 02, P1: the topics of an Unsubscribe
abbrev pub text_parts : Parts → List (List ℕ)
text_parts p = p.entry_bytes ∷ p.entry_lengths ∷ []

-- 01, grammar, Subscribe: an options byte for each filter; 02, P1: the reasons of a SubAck or UnsubAck
abbrev pub entry_parts : Parts → List (List ℕ)
entry_parts p = p.entries ∷ []

-- 01, table of properties: the user properties, which each row has
abbrev pub user_parts : Parts → List (List ℕ)
user_parts p = p.user ∷ p.user_lengths ∷ []

-- what does not belong to the record
abbrev pub foreign : PacketHead → Parts → List (List ℕ)
foreign (PacketHead.Publish m) p = reason_parts p ++ (text_parts p ++ entry_parts p)
foreign (PacketHead.Ack m) p = publish_parts p ++ (text_parts p ++ entry_parts p)
foreign (PacketHead.Subscribe m) p = publish_parts p ++ reason_parts p
foreign (PacketHead.Reply m) p = publish_parts p ++ text_parts p
foreign (PacketHead.Unsubscribe m) p = publish_parts p ++ (reason_parts p ++ entry_parts p)
foreign PacketHead.PingReq p = publish_parts p ++ (reason_parts p ++ (text_parts p ++ (entry_parts p ++ user_parts p)))
foreign PacketHead.PingResp p = publish_parts p ++ (reason_parts p ++ (text_parts p ++ (entry_parts p ++ user_parts p)))
