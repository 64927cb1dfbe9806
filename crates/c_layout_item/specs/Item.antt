-- What is stored of an item: bindings/c/ecchjulmina.h, enums ecch_user_layout, ecch_identifier_layout, ecch_filter_layout,
-- ecch_reason_layout and ecch_topic_layout. Assumes nothing.
use Rattle.std.specs.Prelude.{List, [], ◌∷◌, ℕ, replicate, Option, Some, None}
use Rattle.grammar.specs.Record.{Val, num, str, duo, Filter}
use Rattle.reading.specs.Reader.{Fit, got, bad}
use Rattle.reading.specs.Place.{Span}

-- ecch_user_layout
abbrev pub user_numbers : Fit (Val Span) → List ℕ
user_numbers (got (num n)) = 0 ∷ 0 ∷ 0 ∷ 0 ∷ []
user_numbers (got (str p)) = 0 ∷ 0 ∷ 0 ∷ 0 ∷ []
user_numbers (got (duo k v)) = k.start ∷ k.len ∷ v.start ∷ v.len ∷ []
user_numbers (bad k) = 0 ∷ 0 ∷ 0 ∷ 0 ∷ []

-- ecch_identifier_layout
abbrev pub identifier_numbers : Fit (Val Span) → List ℕ
identifier_numbers (got (num n)) = n ∷ []
identifier_numbers (got (str p)) = 0 ∷ []
identifier_numbers (got (duo k v)) = 0 ∷ []
identifier_numbers (bad k) = 0 ∷ []

-- ecch_filter_layout
abbrev pub filter_numbers : Fit (Filter Span) → List ℕ
filter_numbers (got f) = f.path.start ∷ f.path.len ∷ f.qos ∷ f.no_local ∷ f.preserve ∷ f.rule ∷ []
filter_numbers (bad k) = 0 ∷ 0 ∷ 0 ∷ 0 ∷ 0 ∷ 0 ∷ []

-- 02, P1: ecch_reason_layout
abbrev pub reason_numbers : Fit ℕ → List ℕ
reason_numbers (got c) = c ∷ []
reason_numbers (bad k) = 0 ∷ []

-- 02, P1: ecch_topic_layout
abbrev pub topic_numbers : Fit Span → List ℕ
topic_numbers (got p) = p.start ∷ p.len ∷ []
topic_numbers (bad k) = 0 ∷ 0 ∷ []

-- header: "there are zeros" where there is no item: as many as an item has numbers
abbrev pub item_numbers : ℕ → Option (List ℕ) → List ℕ
item_numbers n (Some xs) = xs
item_numbers n None = replicate n 0
