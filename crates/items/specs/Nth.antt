-- The n-th item of a block, and what the search for the n-th value of a property comes to. Assumes nothing.
use Rattle.std.specs.Prelude as std
use Rattle.std.specs.Prelude.{◌≡◌, List, [], ◌∷◌, ℕ, length, drop}
use Rattle.std.proofs.Math.Option.{Option, some}
use Rattle.grammar.specs.Record.{Val, PropOf, all_of}
use Rattle.grammar.specs.Tables as tables
use Rattle.grammar.specs.Sentence.{met}
use Rattle.reading.specs.Reader.{Fit, got, ◌>>=◌, chain_fit}
use Rattle.reading.specs.Read.{once_of}
use Rattle.reading.specs.Place.{as_places, or_no_item, nth_of, values_at, user_at, subscription_at}
use Rattle.reading.specs.Place as place
use Rattle.records.specs.AsNumbers.{told_span}
use Rattle.records.specs.Answered.{told_user, told_identifier}
use Rattle.records.specs.declared.span.Span.{Span}
use Rattle.property_value.specs.OneProperty.{told_value, form_of}
use Rattle.property_value.specs.declared.Value.{Value}
use Rattle.items.specs.declared.Seek.{Seek}
use Rattle.items.specs.declared.Seek.TheVariants.{Left, At}

-- 01, "What must change shape": "a way to get the n-th", where the values vs follow
abbrev pub sought : Seek → List (Val place.Span) → Fit (Val place.Span)
sought (Left n) vs = nth_of n vs
sought (At v) vs = got (told_value v)

-- a value that was found is of the form o
abbrev pub Formed : Option tables.Form → Seek → Type 0
Formed o (Left n) = Unit {0}
Formed o (At v) = o ≡ some (form_of v)

-- the search q for property i goes on as r where property k with value v is passed, whatever properties follow
pub record SeekOn (q : Seek) (i k : ℕ) (v : Value) (r : Seek) : Type 0 where
  pub says : (ps : List (PropOf place.Span)) → sought r (all_of i ps) ≡ sought q (all_of i ((k, told_value v) ∷ ps))
  pub formed : (f : ℕ → Option tables.Form) → f k ≡ some (form_of v) → Formed (f i) q → Formed (f i) r

-- 01, row 21: what the search q comes to in the properties that fill the bytes b, which end at index `end`; or that none do. Of σ, and of those
-- single-valued among them, none comes again (02, P9)
unfoldable pub sought_in : tables.Row → ℕ → ℕ → Seek → List ℕ → List ℕ → Fit (Val place.Span)
sought_in row i end q σ b = do
  ps ← or_no_item (chain_fit (met row) (once_of as_places row end) σ b)
  sought q (all_of i ps)

-- the n-th value of property i in the block that fills s from `start` on
pub record SeekIn (row : tables.Row) (i : ℕ) (s : List ℕ) (start n : ℕ) (r : Seek) : Type 0 where
  pub says : sought r [] ≡ sought_in row i (length s) (Left n) [] (drop start s)
  pub formed : Formed (tables.form_at row i) r

-- the n-th value of property i in the block at a place of s
pub record NthRead (row : tables.Row) (i : ℕ) (s : List ℕ) (p : place.Span) (n : ℕ) (r : Seek) : Type 0 where
  pub says : sought r [] ≡ (values_at as_places s p row i >>= nth_of n)
  pub formed : Formed (tables.form_at row i) r

-- the contract of `user_property`: r is the n-th user property of the block at p in s, of a row, or 21
abbrev pub NthUser : tables.Row → List ℕ → Span → ℕ → std.Option (Span × Span) → Type 0
NthUser row s p n r = told_user r ≡ user_at as_places s (told_span p) row n

-- the contract of `subscription_identifier`: the same of the identifiers of a Publish block
abbrev pub NthIdentifier : List ℕ → Span → ℕ → std.Option ℕ → Type 0
NthIdentifier s p n r = told_identifier r ≡ subscription_at as_places s (told_span p) n
