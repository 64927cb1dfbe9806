-- What the parts of a Publish are. 01: "topic and payload are handed back as parts of the caller's stream". Assumes nothing.
use Rattle.std.specs.Prelude.{◌≡◌, List, ℕ}
use Rattle.std.proofs.Math.Option.{Option}
use Rattle.grammar.specs.Record.{Val}
use Rattle.reading.specs.Place.{held_of}
use Rattle.reading.specs.Place as place
use Rattle.records.specs.AsNumbers.{told_span, told_string}
use Rattle.records.specs.Said.{told_publish_block}
use Rattle.records.specs.declared.publish_record.Publish.{Publish}
use Rattle.records.specs.declared.publish_record.PublishProperties.{PublishProperties}
use Rattle.wire.specs.StringRead.{string_if, in_block}

-- the strings of the block of m, each absent where there is no block; 01, table of properties, 8, 9 and 3
module _ (m : Publish) where
  -- 01, table of properties, 8: the response topic
  abbrev pub response : Option (Val place.Span)
  response = in_block (λ ps. ps.response) (told_publish_block m.properties)

  -- 01, table of properties, 9: the correlation data
  abbrev pub correlation : Option (Val place.Span)
  correlation = in_block (λ ps. ps.correlation) (told_publish_block m.properties)

  -- 01, table of properties, 3: the content type
  abbrev pub content : Option (Val place.Span)
  content = in_block (λ ps. ps.content) (told_publish_block m.properties)

  -- r has them
  pub record Strings (r : PublishProperties) : Type 0 where
    pub response_topic : told_string r.response_topic ≡ response
    pub correlation_data : told_string r.correlation_data ≡ correlation
    pub content_type : told_string r.content_type ≡ content

-- the parts of m in the stream s; demand 1: any record with any stream, so what lies outside is empty, and what is absent
module _ (s : List ℕ) (m : Publish) where
  -- the bytes of the topic
  abbrev pub topic_in : List ℕ
  topic_in = held_of s (told_span m.topic)

  -- the bytes of the payload
  abbrev pub payload_in : List ℕ
  payload_in = held_of s (told_span m.payload)

  -- the bytes of the response topic, property 8
  abbrev pub response_in : List ℕ
  response_in = string_if (held_of s) (response m)

  -- the bytes of the correlation data, property 9
  abbrev pub correlation_in : List ℕ
  correlation_in = string_if (held_of s) (correlation m)

  -- the bytes of the content type, property 3
  abbrev pub content_in : List ℕ
  content_in = string_if (held_of s) (content m)
