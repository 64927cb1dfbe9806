-- Where the properties of a record stand within its frame: the two numbers that 02's P7 adds to every record read. Assumes nothing.
use Rattle.std.proofs.Math.Option.{Option, none, some}
use Rattle.std.specs.Prelude.{List, [], ◌∷◌, ℕ, ◌-◌, length, drop}
use Rattle.grammar.specs.Choice.{lookup}
use Rattle.grammar.specs.Record.{publish, ack, subscribe, reply, unsubscribe, ping, flag_qos, kind_of}
use Rattle.grammar.specs.Tables.{Layout, a_publish, an_ack, a_subscribe, a_reply, an_unsubscribe, a_ping, kinds}
use Rattle.reading.specs.Refusal.{cut, nr, Answer, accepted, refused}
use Rattle.reading.specs.Reader.{Fit, got, bad, Filler, ◌>>=◌}
use Rattle.reading.specs.Read.{big_of, num_of, ident_of, bytes_of, frame_of}
use Rattle.reading.specs.Place.{Span, as_places, Placed, read_placed_of}

-- ---- in the frame's own terms: the fields before the block, then its length L, then the place after it, and the place after L bytes more

-- 02, P7: "where its properties start, after the block's length, and end": L stands at the front of r, whose bytes end at index `end`
abbrev pub after_length : ℕ → List ℕ → Fit (ℕ × ℕ)
after_length end r = do
  (l, q) ← num_of cut 4 r
  got (end - length q, end - length (drop l q))

-- 02, P7: "or F where no length was sent": an acknowledgement of R = 2 or 3; r is what follows its identifier
abbrev pub ack_bounds : ℕ → List ℕ → Fit (ℕ × ℕ)
ack_bounds end [] = got (end, end)
ack_bounds end (c ∷ []) = got (end, end)
ack_bounds end (c ∷ x ∷ r) = after_length end (x ∷ r)

-- 01, grammar: "u16 identifier, block"
abbrev pub after_identifier : ℕ → List ℕ → Fit (ℕ × ℕ)
after_identifier end b = do
  (i, r) ← big_of cut 2 b
  after_length end r

-- 01, grammar, layout by layout; b is the body, and `end` is F
unfoldable pub field_bounds : Layout → ℕ → ℕ → Filler (ℕ × ℕ)
field_bounds a_publish x end b = do
  (t, r) ← bytes_of as_places end b
  (i, q) ← ident_of (flag_qos x) r
  after_length end q
field_bounds (an_ack rs) x end b = do
  (i, r) ← big_of cut 2 b
  ack_bounds end r
field_bounds a_subscribe x end b = after_identifier end b
field_bounds (a_reply rs) x end b = after_identifier end b
field_bounds an_unsubscribe x end b = after_identifier end b
field_bounds a_ping x end b = got (end, end)

-- of a kind that is carried
abbrev pub kind_bounds : Option Layout → ℕ → ℕ → Filler (ℕ × ℕ)
kind_bounds none x end b = bad (nr 6 (kind_of x ∷ []))
kind_bounds (some l) x end b = field_bounds l x end b

-- 02, P7: "within the frame": of the frame at the start of s
unfoldable pub frame_bounds : Option ℕ → List ℕ → Fit (ℕ × ℕ)
frame_bounds limit s = do
  (z, r) ← frame_of limit (length s) s
  kind_bounds (lookup kinds (kind_of z.0)) z.0 (length s - length r) z.1

-- a refusal has none
abbrev pub if_accepted : Answer Placed → Fit (ℕ × ℕ) → Fit (ℕ × ℕ)
if_accepted (accepted v n) f = f
if_accepted (refused k vs n) f = bad (nr k vs)

-- 02, P7: "Every record read shall also carry" them
unfoldable pub bounds_of : Option ℕ → List ℕ → Fit (ℕ × ℕ)
bounds_of limit s = if_accepted (read_placed_of limit s) (frame_bounds limit s)

-- ---- in the record's terms: the block ends where the payload or the entries begin, or with the frame

-- 02, P7: "When absent they are equal"; f says where a block stands
abbrev pub ending_at : {A : Type 0} → (A → Span) → ℕ → Option A → ℕ × ℕ
ending_at f end none = (end, end)
ending_at f end (some a) = ((f a).start, end)

-- what a record of n bytes says of them
abbrev pub bounds_in : Placed → ℕ → ℕ × ℕ
bounds_in (publish m) n = ending_at (λ ps. ps.user) m.payload.start m.props
bounds_in (ack k m) n = ending_at (λ ps. ps.user) n m.props
bounds_in (subscribe m) n = ending_at (λ ps. ps.user) m.filters.start m.props
bounds_in (reply k m) n = ending_at (λ ps. ps.user) m.reasons.start m.props
bounds_in (unsubscribe m) n = ending_at (λ ps. ps.user) m.topics.start m.props
bounds_in (ping k) n = (n, n)

-- what an answer says of them
abbrev pub bounds_by : Answer Placed → Fit (ℕ × ℕ)
bounds_by (accepted v n) = got (bounds_in v n)
bounds_by (refused k vs n) = bad (nr k vs)
