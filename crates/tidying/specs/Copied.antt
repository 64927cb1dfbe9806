-- What the parts of tidying copy: properties by their identifiers, filters, a whole frame. Each is said of every way in which the grammar fills the
-- bytes, so that it says nothing of bytes that it does not fill. Assumes nothing.
use Rattle.std.specs.Prelude.{◌≡◌, Bool, true, List, ◌∷◌, ◌++◌, ℕ, suc, ◌+◌, ◌-◌, ◌≤◌, ◌<◌, length, take, drop, get_or, Result, Ok, Err}
use Rattle.std.proofs.Math.Option.{none}
use Rattle.std.proofs.lemmas.List.Edits.{sets}
use Rattle.grammar.specs.Gram.{Many}
use Rattle.grammar.specs.Octets.{Each}
use Rattle.grammar.specs.Tables.{Row}
use Rattle.grammar.specs.Sentence.{Prop, Packet, Sentence}
use Rattle.reading.specs.Reader.{got}
use Rattle.reading.specs.Refusal.{accepted, refused_as}
use Rattle.reading.specs.Place.{Placed, read_placed_of}
use Rattle.reading.specs.Bounds.{frame_bounds, bounds_of}
use Rattle.records.specs.AsNumbers.{told_error}
use Rattle.writing.specs.Lists.{flat}
use Rattle.writing.specs.Handed.{Handed}
use Rattle.writing.specs.Spell.{string, filter_bytes}
use Rattle.writing.specs.Write.{frame_bytes}
use Rattle.write_properties.specs.Behind.{Behind}
use Rattle.tidy_form.specs.Tidy.{tidy_of}
use Rattle.tidy_form.specs.Form.{property_bytes}
use Rattle.tidy_form.specs.Order.{id_bytes, ordered_bytes, Exact, Runs, ExactFilter, FrameLaid}
use Rattle.records.specs.declared.error.Error.{Error}
use Rattle.tidying.specs.Tidied.{Tidied, told_tidied, room_for, size_in, stands_in}

-- ---- properties

-- the properties ps of a row fill s from index `at` on
abbrev pub Stands : Row → List ℕ → ℕ → List Prop → Type 0
Stands row s at ps = Many (Exact row) ps (drop at s)

-- p stands from `at` to r, and ps from there on
pub record Between (row : Row) (s : List ℕ) (at : ℕ) (p : Prop) (ps : List Prop) (r : ℕ) : Type 0 where
  pub bytes : take (r - at) (drop at s) ≡ property_bytes row p
  pub head : get_or s at 0 ≡ p.0
  pub rest : Stands row s r ps

-- r is the index after the property at index `at` of s
pub record Passed (row : Row) (s : List ℕ) (at r : ℕ) : Type 0 where
  pub ahead : at < length s → at < r
  pub says : (p : Prop) (ps : List Prop) → Stands row s at (p ∷ ps) → Between row s at p ps r

-- of the properties ps, the first that have identifier i stand before index r, and the rest from there on
pub record RunBefore (row : Row) (i : ℕ) (s : List ℕ) (ps : List Prop) (r : ℕ) : Type 0 where
  pub front : List Prop
  pub back : List Prop
  pub whole : ps ≡ front ++ back
  pub alike : Each (λ p. p.0 ≡ i) front
  pub rest : Stands row s r back

-- so of the properties that fill s from `at` on
abbrev pub RunPassed : Row → ℕ → List ℕ → ℕ → ℕ → Type 0
RunPassed row i s at r = (ps : List Prop) → Stands row s at ps → RunBefore row i s ps r

-- where r is true, the properties stand in the order of the identifiers
abbrev pub InOrder : Row → List ℕ → List ℕ → ℕ → Bool → Type 0
InOrder row is s start r = (ps : List Prop) → Stands row s start ps → r ≡ true → Runs is ps

-- the properties of each identifier i are put from index `at` of an output on, and `next` is behind them
abbrev pub IdPut : Row → ℕ → List ℕ → ℕ → List ℕ → ℕ → List ℕ → ℕ → Type 0
IdPut row i s start before at after next = (ps : List Prop) → Stands row s start ps → Behind before at (id_bytes row ps i) after next

-- the properties are put in the order of the identifiers
abbrev pub IdsPut : Row → List ℕ → List ℕ → ℕ → List ℕ → List ℕ → Type 0
IdsPut row is s start before after = (ps : List Prop) → Stands row s start ps → after ≡ sets before start (flat (id_bytes row ps) is)

-- the same where no identifier of a row comes twice, so that properties in that order may be put as they stand
abbrev pub RowPut : Row → List ℕ → ℕ → List ℕ → List ℕ → Type 0
RowPut row s start before after = (ps : List Prop) → Stands row s start ps → after ≡ sets before start (ordered_bytes row ps)

-- ---- filters

-- the filters zs, texts with their options bytes, fill s from index `at` on
abbrev pub FiltersStand : List ℕ → ℕ → List (List ℕ × ℕ) → Type 0
FiltersStand s at zs = Many ExactFilter zs (drop at s)

-- the text of z stands from `at` on, its options byte before r, and zs from there on
pub record FilterBetween (s : List ℕ) (at : ℕ) (z : List ℕ × ℕ) (zs : List (List ℕ × ℕ)) (r : ℕ) : Type 0 where
  pub text : take (r - 1 - at) (drop at s) ≡ string z.0
  pub options : get_or s (r - 1) 0 ≡ z.1
  pub rest : FiltersStand s r zs

-- r is the index after the filter at index `at` of s
pub record FilterPassed (s : List ℕ) (at r : ℕ) : Type 0 where
  pub ahead : at < length s → (at < r) × (r ≤ length s)
  pub says : (z : List ℕ × ℕ) (zs : List (List ℕ × ℕ)) → FiltersStand s at (z ∷ zs) → FilterBetween s at z zs r

-- 01, "What must change shape": "bits 6-7 written as 0"
abbrev pub FiltersPut : List ℕ → ℕ → List ℕ → List ℕ → Type 0
FiltersPut s at before after = (zs : List (List ℕ × ℕ)) → FiltersStand s at zs → after ≡ sets before at (flat filter_bytes zs)

-- ---- the frame

-- behind the first byte of s stands `head`, up to `start`, and then the properties `list`, up to `end`
pub record FrontAt (row : Row) (s : List ℕ) (start end : ℕ) (head : List ℕ) (list : List Prop) : Type 0 where
  pub byte : ℕ
  pub props : List ℕ
  pub tail : List ℕ
  pub whole : s ≡ byte ∷ (head ++ (props ++ tail))
  pub starts : start ≡ suc (length head)
  pub ends : end ≡ suc (length head + length props)
  pub exact : Many (Exact row) list props

-- first byte, what stands before the properties, and these in the order of the row
abbrev pub FrontPut : Row → ℕ → List ℕ → ℕ → ℕ → List ℕ → List ℕ → Type 0
FrontPut row first s start end before after = (head : List ℕ) (list : List Prop) → FrontAt row s start end head list → after ≡ sets before 0 (first ∷ (head ++ ordered_bytes row list))

-- what is told where b is to be put, n bytes of the stream are taken, and the output stands as before and after
pub record Gives (b : List ℕ) (n : ℕ) (before after : List ℕ) (r : Tidied) : Type 0 where
  pub answer : told_tidied r ≡ size_in (room_for (length before) b n)
  pub output : after ≡ stands_in before (room_for (length before) b n)

-- of a frame with a block, where T says what becomes of what stands behind it
abbrev pub LaidGiven : Row → (List ℕ → List ℕ → Type 0) → ℕ → List ℕ → ℕ → ℕ → List ℕ → List ℕ → Tidied → Type 0
LaidGiven row T first s start end before after r = (h : Handed) → FrameLaid row T h first s start end → Gives (frame_bytes h) (length s) before after r

-- a frame that was read, and where its properties start and end
pub record Accepted (s : List ℕ) (start end : ℕ) : Type 0 where
  pub packet : Packet
  pub sentence : Sentence packet s
  pub bounds : frame_bounds none s ≡ got (start, end)

-- the tidy form of the frame s, put into the output
pub record FrameTidied (s before after : List ℕ) (r : Tidied) : Type 0 where
  pub form : List ℕ
  pub is : tidy_of s ≡ got form
  pub gives : Gives form (length s) before after r

-- what is found at the start of the stream s: the frame of a record that is read, and 02's two numbers; or the reader's refusal, and what it takes
abbrev pub Found : Type 0
Found = Result (ℕ × ℕ × ℕ) (Error × ℕ)

abbrev pub FoundIs : List ℕ → Found → Type 0
FoundIs s (Ok (start, end, n)) = (v : Placed) × (accepted v n ≡ read_placed_of none s) × (got (start, end) ≡ bounds_of none s)
FoundIs s (Err (e, n)) = refused_as (told_error e) n ≡ read_placed_of none s
