-- The calls of `ecch_next_user` one after the other, as the header has a caller make them, and what their answers tell it. Assumes nothing.
use Rattle.std.proofs.Math.Option.{Option}
use Rattle.std.specs.Prelude.{List, [], ◌∷◌, ℕ, ◌≤◌, length, take, drop, get_or}
use Rattle.grammar.specs.Record.{Val, publish, ack, subscribe, reply, unsubscribe, ping}
use Rattle.grammar.specs.Tables.{Row}
use Rattle.reading.specs.Reader.{Fit}
use Rattle.reading.specs.Place.{Span, Placed}
use Rattle.c_layout.specs.Value.{fit_number}
use Rattle.c_walk.specs.Next.{step_numbers, Stored}

-- header: "the index after it, where the next call begins": what each call returns, and its array afterwards, which has room for the five numbers
pub data Calls (row : Option Row) (s : List ℕ) (end : ℕ) : ℕ → List (ℕ × List ℕ) → Type 0 where
  uncalled : {at : ℕ} → Calls row s end at []
  called : {at number : ℕ} {before after : List ℕ} {rs : List (ℕ × List ℕ)} → 5 ≤ length before → Stored row s end at number before after → Calls row s end (get_or after 0 0) rs → Calls row s end at ((number, after) ∷ rs)

-- what a caller is told: the number, and the four numbers of the places of key and value
abbrev pub heard : ℕ × List ℕ → ℕ × List ℕ
heard r = (r.0, take 4 (drop 1 r.1))

-- what is to be told of a user property, or of none: 0 and where key and value stand, or 21 and zeros
abbrev pub to_hear : Fit (Val Span) → ℕ × List ℕ
to_hear o = (fit_number o, drop 1 (step_numbers 0 o))

-- header, ECCH_KIND of a record
abbrev pub kind_in : Placed → ℕ
kind_in (publish m) = 3
kind_in (ack k m) = k
kind_in (subscribe m) = 8
kind_in (reply k m) = k
kind_in (unsubscribe m) = 10
kind_in (ping k) = k
