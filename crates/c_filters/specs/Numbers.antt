-- A Subscribe's filters as C is handed them: bindings/c/ecchjulmina.h, enum ecch_filter_entry_layout and enum ecch_table_layout. Assumes nothing.
use Rattle.std.specs.Prelude.{List, [], ◌∷◌, ◌++◌, ℕ, zero, suc, ◌+◌, ◌/◌, length}
use Rattle.std.proofs.lemmas.List.Edits.{sets}
use Rattle.reading.specs.Reader.{Fit, got, bad}
use Rattle.reading.specs.Place.{on_got}
use Rattle.records.specs.AsNumbers.{row_of, values_of}
use Rattle.c_layout.specs.Value.{value_or_zero}
use Rattle.filter_table.specs.Table.{table_of, filled_of, entry_at}
use Rattle.filter_table.specs.declared.FilterEntry.{FilterEntry}

-- header, enum ecch_filter_entry_layout; 02, P7: "the text's start in the frame, its length, the options"
abbrev pub entry_numbers : FilterEntry → List ℕ
entry_numbers e = e.start ∷ e.len ∷ e.options ∷ []

-- "three for an entry", one entry behind the other
abbrev pub numbers_of : List FilterEntry → List ℕ
numbers_of [] = []
numbers_of (e ∷ es) = entry_numbers e ++ numbers_of es

-- header: "a table has a place for each three numbers; one or two more are never touched"
abbrev pub places_in : List ℕ → ℕ
places_in t = length t / 3

-- how many entries are filled, or why none is, where there are so many places
abbrev pub said_of : List ℕ → ℕ → Fit ℕ
said_of s places = on_got length (table_of s places)

-- header: "0, or the refusal's number"
abbrev pub table_number : Fit ℕ → ℕ
table_number (got n) = 0
table_number (bad k) = row_of k

-- header, enum ecch_table_layout
abbrev pub answer_numbers : ℕ → Fit ℕ → List ℕ
answer_numbers taken (got n) = taken ∷ 0 ∷ 0 ∷ n ∷ []
answer_numbers taken (bad k) = taken ∷ value_or_zero (values_of k) 0 ∷ value_or_zero (values_of k) 1 ∷ 0 ∷ []

-- 02, P7: "fill a lent table of filter entries in order": the table t afterwards; nothing is set where it is refused
unfoldable pub table_as : List ℕ → List ℕ → List ℕ
table_as s t = sets t 0 (numbers_of (filled_of (table_of s (places_in t))))

-- ---- how the table is filled

-- n entries from index `at` on are put from index k of the table on
abbrev pub put_from : List ℕ → ℕ → ℕ → ℕ → ℕ → List ℕ → List ℕ
put_from s end zero at k t = t
put_from s end (suc n) at k t = put_from s end n (entry_at s at end).1 (k + 3) (sets t k (entry_numbers (entry_at s at end).0))
