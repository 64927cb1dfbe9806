-- P7's answers of the filter table said without tests: each row, by what the reader says of the frame. What `table_iff` compares `table_of` with. Assumes nothing.
use Rattle.std.specs.Prelude.{◌≡◌, List, [], ◌∷◌, ℕ, ◌≤◌, ◌<◌, length}
use Rattle.std.proofs.Math.Option.{none}
use Rattle.grammar.specs.Record.{Subscribe, subscribe}
use Rattle.grammar.specs.Sentence.{Packet}
use Rattle.reading.specs.Refusal.{nr, accepted, refused}
use Rattle.reading.specs.Reader.{Fit, got, bad}
use Rattle.reading.specs.Read.{read_of}
use Rattle.reading.specs.Place.{Span, as_places, read_placed_of, nth_of, filter_at, on_got}
use Rattle.filter_table.specs.Table.{entry_of}
use Rattle.filter_table.specs.declared.FilterEntry.{FilterEntry}

-- 02, P7: "an accepted Subscribe", of n filters; t bytes are taken
abbrev pub Subscribes : List ℕ → ℕ → Type 0
Subscribes s n = (w : Subscribe (List ℕ) List) × (t : ℕ) × (read_of none s ≡ accepted (subscribe w) t) × (length w.filters ≡ n)

-- 02, P7: "NotSubscribe": an accepted frame of another kind
abbrev pub AnotherKind : List ℕ → Type 0
AnotherKind s = (w : Packet) × (t : ℕ) × (read_of none s ≡ accepted w t) × ((u : Subscribe (List ℕ) List) → w ≡ subscribe u → ⊥)

-- 02, P7: "the reader's refusal"
abbrev pub RefusedAs : List ℕ → ℕ → List ℕ → Type 0
RefusedAs s k vs = (t : ℕ) × (read_of none s ≡ refused k vs t)

-- 02, P7: the entries "in order": the k-th is that of the k-th filter of the record
abbrev pub Listed : List ℕ → List FilterEntry → Type 0
Listed s es = (m : Subscribe Span (λ A. Span)) × (t : ℕ) × (read_placed_of none s ≡ accepted (subscribe m) t) × ((k : ℕ) → nth_of k es ≡ on_got entry_of (filter_at as_places s m.filters k))

-- for a table of so many places
pub data Answers (s : List ℕ) (places : ℕ) : Fit (List FilterEntry) → Type 0 where
  filled : {es : List FilterEntry} → Subscribes s (length es) → length es ≤ places → Listed s es → Answers s places (got es)
  full : {n : ℕ} → Subscribes s n → places < n → Answers s places (bad (nr 37 (n ∷ [])))
  other : AnotherKind s → Answers s places (bad (nr 38 []))
  refuses : {k : ℕ} {vs : List ℕ} → RefusedAs s k vs → Answers s places (bad (nr k vs))
