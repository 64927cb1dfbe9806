-- Topics by alias: which messages are refused, what is set, and where the topic in force lies. 02, P6. Assumes nothing.
use Rattle.std.specs.Prelude.{Bool, true, false, not, ◌&&◌, ◌||◌, cond, List, [], ◌∷◌, ℕ, ◌+◌, leb, eqb, length}
use Rattle.std.proofs.Math.Option.{Option, none, some}
use Rattle.reading.specs.Refusal.{Refusal, nr}
use Rattle.reading.specs.Reader.{Fit, got, bad, ◌>>◌, guard}
use Rattle.reading.specs.Place.{Span, held_of}
use Rattle.alias.specs.Table.{slot, stored_len, table_good, set_alias}

-- the numbers go on from 23 (DECISIONS 126); none has values
abbrev pub alias_table_bad : Refusal
alias_table_bad = nr 24 []

abbrev pub alias_invalid : Refusal
alias_invalid = nr 25 []

abbrev pub topic_missing : Refusal
topic_missing = nr 26 []

abbrev pub alias_unknown : Refusal
alias_unknown = nr 27 []

abbrev pub alias_no_room : Refusal
alias_no_room = nr 28 []

-- a test of the alias, if there is one; o where there is none
abbrev pub of_alias : Bool → (ℕ → Bool) → Option ℕ → Bool
of_alias o p none = o
of_alias o p (some a) = p a

-- P6: neither "alias 0" nor "above 16"
abbrev pub is_alias : ℕ → Bool
is_alias a = leb 1 a && leb a 16

-- a topic with no bytes
abbrev pub empty : List ℕ → Bool
empty [] = true
empty (c ∷ s) = false

-- P6, "Refusals in this order": of a message with this topic, and perhaps an alias, on the table t
unfoldable pub permit : List ℕ → List ℕ → Option ℕ → Fit (Unit {0})
permit t topic a = do
  -- "table of the wrong size or with a stored length above 128"
  guard (table_good t) alias_table_bad
  -- "alias 0 or above 16"
  guard (of_alias true is_alias a) alias_invalid
  -- "empty topic and no alias"
  guard (not (empty topic) || of_alias false (λ n. true) a) topic_missing
  -- "empty topic and alias never set"
  guard (not (empty topic) || of_alias true (λ n. not (eqb (stored_len t n) 0)) a) alias_unknown
  -- "topic over 128 bytes with an alias"
  guard (leb (length topic) 128 || of_alias true (λ n. false) a) alias_no_room

-- P6: "sends a topic once with a Topic Alias": such a topic is set
abbrev pub set_by : List ℕ → List ℕ → Option ℕ → List ℕ
set_by t topic none = t
set_by t topic (some a) = cond (empty topic) t (set_alias t a topic)

-- P6: "A refusal leaves the table alone"
abbrev pub unless_bad : Fit (Unit {0}) → List ℕ → List ℕ → List ℕ
unless_bad (got u) after before = after
unless_bad (bad k) after before = before

-- P6: the table after the message
unfoldable pub table_after : List ℕ → List ℕ → Option ℕ → List ℕ
table_after t topic a = unless_bad (permit t topic a) (set_by t topic a) t

-- P6: "a part of the packet or of the alias table"
pub data Lies : Type 0 where
  in_packet : Span → Lies
  in_table : Span → Lies

-- where the topic stored for the alias lies; without one, where the packet's own does
abbrev pub stored_at : List ℕ → Span → Option ℕ → Lies
stored_at t p none = in_packet p
stored_at t p (some a) = in_table (record { start = slot a + 1; len = stored_len t a })

-- P6: where "the topic in force" of a packet lies whose own topic stands at p of the stream s: there, or in the table if it is left empty
unfoldable pub in_force : List ℕ → List ℕ → Span → Option ℕ → Fit Lies
in_force s t p a = do
  permit t (held_of s p) a
  got (cond (empty (held_of s p)) (stored_at t p a) (in_packet p))

-- the bytes at a place of the stream s or of the table t
abbrev pub bytes_at : List ℕ → List ℕ → Lies → List ℕ
bytes_at s t (in_packet p) = held_of s p
bytes_at s t (in_table p) = held_of t p
