-- What is stored of the property, filter or topic at an index: bindings/c/ecchjulmina.h, enums ecch_property_layout, ecch_next_filter_layout and
-- ecch_next_topic_layout. Assumes nothing.
use Rattle.std.specs.Prelude.{List, [], ◌∷◌, ℕ, Result, Ok, Err}
use Rattle.grammar.specs.Record.{Val, num, str, duo, PropOf, Filter}
use Rattle.reading.specs.Refusal.{Refusal, nr}
use Rattle.reading.specs.Reader.{Fit, got, bad}
use Rattle.reading.specs.Place.{Span}
use Rattle.records.specs.AsNumbers.{told_error}
use Rattle.records.specs.declared.error.Error.{Error}
use Rattle.c_layout.specs.Value.{value_or_zero}

-- header: "or the refusal's value"; of all three enums
abbrev pub bad_numbers : Refusal → List ℕ
bad_numbers (nr k vs) = value_or_zero vs 0 ∷ 0 ∷ 0 ∷ 0 ∷ 0 ∷ 0 ∷ 0 ∷ []

-- ecch_property_layout: the index after it, the identifier, and the value
abbrev pub property_row : ℕ → ℕ → Val Span → List ℕ
property_row next k (num n) = next ∷ k ∷ n ∷ 0 ∷ 0 ∷ 0 ∷ 0 ∷ []
property_row next k (str p) = next ∷ k ∷ 0 ∷ p.start ∷ p.len ∷ 0 ∷ 0 ∷ []
property_row next k (duo p q) = next ∷ k ∷ 0 ∷ p.start ∷ p.len ∷ q.start ∷ q.len ∷ []

-- a property and the index after it
abbrev pub property_numbers : Fit (PropOf Span × ℕ) → List ℕ
property_numbers (got z) = property_row z.1 z.0.0 z.0.1
property_numbers (bad k) = bad_numbers k

-- ecch_next_filter_layout: a filter and the index after it
abbrev pub next_filter_numbers : Fit (Filter Span × ℕ) → List ℕ
next_filter_numbers (got z) = z.1 ∷ z.0.path.start ∷ z.0.path.len ∷ z.0.qos ∷ z.0.no_local ∷ z.0.preserve ∷ z.0.rule ∷ []
next_filter_numbers (bad k) = bad_numbers k

-- 02, P1: ecch_next_topic_layout: a topic and the index after it
abbrev pub next_topic_numbers : Fit (Span × ℕ) → List ℕ
next_topic_numbers (got z) = z.1 ∷ z.0.start ∷ z.0.len ∷ 0 ∷ 0 ∷ 0 ∷ 0 ∷ []
next_topic_numbers (bad k) = bad_numbers k

-- header: the numbers of what was found, "or the refusal's value"
abbrev pub found_numbers : Result (List ℕ) Error → List ℕ
found_numbers (Ok xs) = xs
found_numbers (Err e) = bad_numbers (told_error e)
