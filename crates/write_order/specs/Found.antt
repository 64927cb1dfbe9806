-- What a writer has found of a hand-over before the order is settled. Assumes nothing.
use Rattle.std.specs.Prelude.{◌≡◌, Bool, true, List, [], ◌∷◌, ℕ, ◌+◌, ◌≤◌, leb}
use Rattle.std.proofs.Math.Option.{Option}
use Rattle.std.proofs.lemmas.List.Edits.{sets}
use Rattle.grammar.specs.Octets.{Each}
use Rattle.reading.specs.Refusal.{nr}
use Rattle.reading.specs.Reader.{Fit, got, ◌>>◌, guard}
use Rattle.writing.specs.Lists.{flat}
use Rattle.writing.specs.Handed.{Handed, belongs}
use Rattle.writing.specs.Size.{most, with_length, rest_is, cap}
use Rattle.writing.specs.Order.{judge, field_tests, fields_of, number_tests, limit_tests, numbers_of, has_ident, has_entries}
use Rattle.writing.specs.Refuse.{Writable, Fine}
use Rattle.writing.specs.Write.{frame_bytes}

-- 01, writing order: "20; then 18, and 9 for text, field by field as written, .."
abbrev pub before_size : Handed → Fit (Unit {0})
before_size h = guard (belongs h) (nr 20 []) >> judge (flat field_tests (fields_of h))

-- 01, writing order: "12; 17 for identifiers in order; 13"
abbrev pub after_limit : Handed → Fit (Unit {0})
after_limit h = guard (has_ident h) (nr 12 []) >> (judge (flat number_tests (numbers_of h)) >> guard (has_entries h) (nr 13 []))

-- 01, writing order: "19", and else the size
abbrev pub within_room : ℕ → ℕ → Fit ℕ
within_room n room = guard (leb n room) (nr 19 (n ∷ [])) >> got n

-- 01, writing order: "..; 17 for R; 16; ..; 19": what is told early, R, what is told late, and the size that R gives
abbrev pub settled_of : Fit (Unit {0}) → ℕ → Option ℕ → Fit (Unit {0}) → ℕ → Fit ℕ
settled_of early n limit late room = early >> (guard (leb n most) (nr 17 []) >> (judge (limit_tests limit (1 + with_length n)) >> (late >> within_room (1 + with_length n) room)))

-- 01: "Asked alone, size refuses only with 20, then 17 for R"
abbrev pub size_alone : Bool → ℕ → Fit ℕ
size_alone t n = guard t (nr 20 []) >> (guard (leb n most) (nr 17 []) >> got (1 + with_length n))

-- what is told before R is counted, R, cut off where it is too large, and what is told after the limit
pub record Found (h : Handed) (first : Fit (Unit {0})) (n : ℕ) (last : Fit (Unit {0})) : Type 0 where
  pub early : first ≡ before_size h
  pub rest : n ≡ cap (rest_is h)
  pub late : last ≡ after_limit h

-- the frame is stored, where what is handed over belongs together, R can be written, and so can every field and every identifier
abbrev pub Stored : Handed → List ℕ → List ℕ → Type 0
Stored h before after = belongs h ≡ true → rest_is h ≤ most → Each Writable (fields_of h) → Each Fine (numbers_of h) → after ≡ sets before 0 (frame_bytes h)
