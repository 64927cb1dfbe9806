-- The table of a Subscribe's filters: its entries, the answer, and what the table holds then. Assumes nothing.
use Rattle.std.specs.Prelude.{◌≡◌, List, [], ◌∷◌, ◌++◌, map, ℕ, zero, suc, ◌+◌, ◌*◌, ◌≤◌, leb, length, drop, set, Result, Ok, Err}
use Rattle.std.proofs.Math.Option.{none}
use Rattle.grammar.specs.Record.{Filter, publish, ack, subscribe, reply, unsubscribe, ping}
use Rattle.reading.specs.Refusal.{Refusal, nr, Answer, accepted, refused}
use Rattle.reading.specs.Reader.{Fit, got, bad, ◌>>=◌, ◌>>◌, guard, many_fit}
use Rattle.reading.specs.Read.{filter_of, filters_fit}
use Rattle.reading.specs.Place.{Span, held_of, as_places, Placed, read_placed_of, again, on_got}
use Rattle.positions.specs.Position.{from_at}
use Rattle.packet.specs.PacketRead.{taken_in}
use Rattle.records.specs.AsNumbers.{told_error}
use Rattle.filter_table.specs.declared.FilterEntry.{FilterEntry}
use Rattle.filter_table.specs.declared.FilterTableError.{FilterTableError}
use Rattle.filter_table.specs.declared.FilterTableError.TheVariants.{FilterTableFull, NotSubscribe, Refused}
use Rattle.filter_table.specs.declared.Plan.{Plan}

-- ---- answers; their numbers are 37 and 38 (DECISIONS 29)

-- 02, P7: "FilterTableFull with the number needed"
abbrev pub table_full : ℕ → Refusal
table_full n = nr 37 (n ∷ [])

-- 02, P7: "the reader's refusal or NotSubscribe"
abbrev pub not_subscribe : Refusal
not_subscribe = nr 38 []

-- 01: the number and the values of each case; how many entries were filled
abbrev pub told_refusal : FilterTableError → Refusal
told_refusal (FilterTableFull n) = table_full n
told_refusal NotSubscribe = not_subscribe
told_refusal (Refused e) = told_error e

abbrev pub told_table : Result ℕ FilterTableError → Fit ℕ
told_table (Ok n) = got n
told_table (Err k) = bad (told_refusal k)

-- ---- entries

-- 02, P7: "the options with bits 6-7 clear"; 01: "QoS bits 0-1, no-local 2, preserve-retain 3, forward rule 4-5"
abbrev pub options_of : Filter Span → ℕ
options_of f = f.qos + 4 * f.no_local + 8 * f.preserve + 16 * f.rule

-- 02, P7: "(the text's start in the frame, its length, the options ..)"
abbrev pub entry_of : Filter Span → FilterEntry
entry_of f = record { start = f.path.start; len = f.path.len; options = options_of f }

-- 02, P7: "A frame that is not an accepted Subscribe gets the reader's refusal or NotSubscribe": where the filters stand
abbrev pub run_of : Answer Placed → Fit Span
run_of (accepted (subscribe m) n) = got m.filters
run_of (accepted (publish m) n) = bad not_subscribe
run_of (accepted (ack k m) n) = bad not_subscribe
run_of (accepted (reply k m) n) = bad not_subscribe
run_of (accepted (unsubscribe m) n) = bad not_subscribe
run_of (accepted (ping k) n) = bad not_subscribe
run_of (refused k vs n) = bad (nr k vs)

-- 02, P7: the entries "in order", of the frame at the start of s, read with no limit
unfoldable pub entries_of : List ℕ → Fit (List FilterEntry)
entries_of s = do
  p ← run_of (read_placed_of none s)
  fs ← again (filters_fit as_places) s p
  got (map entry_of fs)

-- 02, P7: "If there are more filters than places, answer FilterTableFull with the number needed ..; never otherwise"
unfoldable pub table_of : List ℕ → ℕ → Fit (List FilterEntry)
table_of s places = do
  es ← entries_of s
  guard (leb (length es) places) (table_full (length es))
  got es

-- 02, P7: "Places past the last filter keep what they held"; "leave the table alone"
abbrev pub table_after : Fit (List FilterEntry) → List FilterEntry → List FilterEntry
table_after (got es) t = es ++ drop (length es) t
table_after (bad k) t = t

-- the contract of `fill_filters`: the answer r, and the table afterwards
pub record Fills (s : List ℕ) (before : List FilterEntry) (r : Result ℕ FilterTableError) (after : List FilterEntry) : Type 0 where
  pub answer : told_table r ≡ on_got length (table_of s (length before))
  pub table : after ≡ table_after (table_of s (length before)) before

-- ---- how the table is filled

-- the bytes before index `end`
abbrev pub front : List ℕ → ℕ → List ℕ
front s end = held_of s (record { start = 0; len = end })

-- an entry of zeros, and the index at which none was read
abbrev pub entry_or : ℕ → Fit (Filter Span × ℕ) → FilterEntry × ℕ
entry_or at (got z) = (entry_of z.0, z.1)
entry_or at (bad k) = (record { start = 0; len = 0; options = 0 }, at)

-- the entry at index `at` of the bytes before `end`, and the index after it
unfoldable pub entry_at : List ℕ → ℕ → ℕ → FilterEntry × ℕ
entry_at s at end = entry_or at (from_at (filter_of as_places (length (front s end))) (front s end) at)

-- n entries from index `at` on are put from place i on
abbrev pub fill_from : List ℕ → ℕ → ℕ → ℕ → ℕ → List FilterEntry → List FilterEntry
fill_from s end zero at i ys = ys
fill_from s end (suc n) at i ys = fill_from s end n (entry_at s at end).1 (suc i) (set ys i (entry_at s at end).0)

-- n entries from index `at` on
abbrev pub entries_from : List ℕ → ℕ → ℕ → ℕ → List FilterEntry
entries_from s end zero at = []
entries_from s end (suc n) at = (entry_at s at end).0 ∷ entries_from s end n (entry_at s at end).1

-- the entries that are filled in: none where it is refused
abbrev pub filled_of : Fit (List FilterEntry) → List FilterEntry
filled_of (got es) = es
filled_of (bad k) = []

-- the contract of `entry_at`
pub record EntryIs (s : List ℕ) (at end : ℕ) (e : FilterEntry) (next : ℕ) : Type 0 where
  pub is : (e, next) ≡ entry_at s at end

-- n entries from `at` on are those to fill in, and make a table of so many places what it is to be
pub record PlanIs (s : List ℕ) (places : ℕ) (r : Result ℕ FilterTableError) (at end n : ℕ) : Type 0 where
  pub answer : told_table r ≡ on_got length (table_of s places)
  pub room : n ≤ places
  pub listed : entries_from s end n at ≡ filled_of (table_of s places)
  pub fills : (ys : List FilterEntry) → length ys ≡ places → fill_from s end n at 0 ys ≡ table_after (table_of s places) ys

-- the plan that fills nothing in, where the reader took n bytes
abbrev pub unfilled : Result ℕ FilterTableError → ℕ → Plan
unfilled r n = record { answer = r; at = 0; end = 0; count = 0; taken = n }

-- from where on, before which index and how many entries are read to be filled in: the run of filters, and nothing where the table stays
abbrev pub spanned : Fit Span → Fit (List FilterEntry) → ℕ × (ℕ × ℕ)
spanned (got p) (got es) = (p.start, (p.start + p.len, length es))
spanned (got p) (bad k) = (0, (0, 0))
spanned (bad k) t = (0, (0, 0))

-- the contract of `plan_of`, which fixes each of its numbers; the last is how many bytes the reader takes
pub record Planned (s : List ℕ) (places : ℕ) (p : Plan) : Type 0 where
  pub plan : PlanIs s places p.answer p.at p.end p.count
  pub stands : (p.at, (p.end, p.count)) ≡ spanned (run_of (read_placed_of none s)) (table_of s places)
  pub taken : p.taken ≡ taken_in (read_placed_of none s)

-- how many filters stand from index `at` of s to its end, where all that stands there are filters
pub record CountIs (s : List ℕ) (at n : ℕ) : Type 0 where
  pub counts : (fs : List (Filter Span)) → many_fit (filter_of as_places (length s)) (drop at s) ≡ got fs → n ≡ length fs

-- the same at a place
pub record RunIs (s : List ℕ) (p : Span) (n : ℕ) : Type 0 where
  pub counts : (fs : List (Filter Span)) → again (filters_fit as_places) s p ≡ got fs → n ≡ length fs

-- the plan where the filters stand at p, if there they are
pub record RunPlanIs (s : List ℕ) (p : Span) (places taken : ℕ) (r : Plan) : Type 0 where
  pub plans : (fs : List (Filter Span)) → again (filters_fit as_places) s p ≡ got fs → entries_of s ≡ got (map entry_of fs) → PlanIs s places r.answer r.at r.end r.count
  pub stands : (fs : List (Filter Span)) → again (filters_fit as_places) s p ≡ got fs → entries_of s ≡ got (map entry_of fs) → (r.at, (r.end, r.count)) ≡ spanned (got p) (table_of s places)
  pub took : r.taken ≡ taken
