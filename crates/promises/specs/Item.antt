-- When there is an n-th item at a place of any bytes: the opposite of 01's row 21, in the words of the grammar. Assumes nothing.
use Rattle.std.specs.Prelude.{◌≡◌, List, ◌∷◌, ◌++◌, ℕ, ◌+◌, ◌≤◌, length}
use Rattle.grammar.specs.Gram.{Gram, Only, Many}
use Rattle.grammar.specs.Tables.{Row, publish_row}
use Rattle.grammar.specs.Record.{all_of}
use Rattle.grammar.specs.Record as record_of
use Rattle.grammar.specs.Sentence.{Value, Properties, Text, FilterOf, ReasonOf, some_of}
use Rattle.reading.specs.Place.{part_of}
use Rattle.records.specs.AsNumbers.{told_span}
use Rattle.records.specs.declared.span.Span.{Span}

-- 01: "n from 0": n items stand before v
abbrev pub IsNth : {A : Type 0} → ℕ → List A → A → Type 0
IsNth {A = A} n vs v = (us : List A) × (ws : List A) × (vs ≡ us ++ (v ∷ ws)) × (length us ≡ n)

-- 01, row 21: the place p is "of the lent bytes" s, a list that G spells stands there, and of what `kept` leaves of it v is the n-th
abbrev pub HasItem : {A B : Type 0} → Gram (List A) → (List A → List B) → List ℕ → Span → ℕ → B → Type 0
HasItem {A = A} G kept s p n v = (l : List A) × (p.start + p.len ≤ length s) × G l (part_of s (told_span p)) × IsNth n (kept l) v

-- 01, row 21: "a well-formed block of the kind asked", by its row of the table, whose n-th user property is v
abbrev pub HasUser : Row → List ℕ → Span → ℕ → Value → Type 0
HasUser row = HasItem (Properties row) (all_of 38)

-- the same of the subscription identifiers of a Publish block
abbrev pub HasIdentifier : List ℕ → Span → ℕ → Value → Type 0
HasIdentifier = HasItem (Properties publish_row) (all_of 11)

-- 01, row 21: "or filter run", whose n-th filter is f
abbrev pub HasFilter : List ℕ → Span → ℕ → record_of.Filter (List ℕ) → Type 0
HasFilter = HasItem (Only some_of (Many FilterOf)) (λ fs. fs)

-- 02, P1: the same of the reasons of a SubAck or UnsubAck, each of rs, whose n-th is c
abbrev pub HasReason : List ℕ → List ℕ → Span → ℕ → ℕ → Type 0
HasReason rs = HasItem (Only some_of (Many (ReasonOf rs))) (λ cs. cs)

-- 02, P1: and of the topics of an Unsubscribe, whose n-th is t
abbrev pub HasTopic : List ℕ → Span → ℕ → List ℕ → Type 0
HasTopic = HasItem (Only some_of (Many Text)) (λ ts. ts)
