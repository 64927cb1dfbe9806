-- P6's refusals said without tests: each row, and 'the first that holds'. What `refused_iff` compares `permit` with. Assumes nothing.
use Rattle.std.specs.Prelude.{◌≡◌, ◌⊎◌, List, [], ℕ, ◌≤◌, ◌<◌, length}
use Rattle.std.proofs.Math.Option.{Option, none, some}
use Rattle.reading.specs.Refusal.{Refusal}
use Rattle.alias.specs.Table.{stored_len}
use Rattle.alias.specs.Alias.{alias_table_bad, alias_invalid, topic_missing, alias_unknown, alias_no_room}

-- "table of the wrong size or with a stored length above 128"
abbrev pub TableBad : List ℕ → Type 0
TableBad t = (length t ≡ 2064 → ⊥) ⊎ ((a : ℕ) × (1 ≤ a) × (a ≤ 16) × (128 < stored_len t a))

-- "alias 0 or above 16"
abbrev pub Invalid : Option ℕ → Type 0
Invalid none = ⊥
Invalid (some a) = (a ≡ 0) ⊎ (16 < a)

-- "empty topic and no alias"
abbrev pub Missing : List ℕ → Option ℕ → Type 0
Missing topic a = (topic ≡ []) × (a ≡ none)

-- "empty topic and alias never set"
abbrev pub Unknown : List ℕ → List ℕ → Option ℕ → Type 0
Unknown t topic a = (topic ≡ []) × ((b : ℕ) × (a ≡ some b) × (stored_len t b ≡ 0))

-- "topic over 128 bytes with an alias"
abbrev pub NoRoom : List ℕ → Option ℕ → Type 0
NoRoom topic a = (128 < length topic) × ((b : ℕ) × (a ≡ some b))

-- the row P gives the refusal k; where it does not hold, the rows behind it decide
abbrev pub OrElse : Type 0 → Refusal → (Refusal → Type 0) → Refusal → Type 0
OrElse P k Q x = (P × (x ≡ k)) ⊎ ((P → ⊥) × Q x)

-- P6: "Refusals in this order"
abbrev pub Refuses : List ℕ → List ℕ → Option ℕ → Refusal → Type 0
Refuses t topic a =
    OrElse (TableBad t) alias_table_bad
    (OrElse (Invalid a) alias_invalid
    (OrElse (Missing topic a) topic_missing
    (OrElse (Unknown t topic a) alias_unknown
    (OrElse (NoRoom topic a) alias_no_room (λ x. ⊥)))))
