-- What an answer takes, and what it says. Assumes nothing.
use Rattle.std.specs.Prelude as std
use Rattle.std.specs.Prelude.{◌≡◌, ◌↔◌, List, ℕ, Result}
use Rattle.std.proofs.Math.Option.{Option}
use Rattle.grammar.specs.Sentence.{Packet}
use Rattle.reading.specs.Refusal.{Answer, accepted, refused}
use Rattle.reading.specs.Fault.{Verdict}
use Rattle.reading.specs.Reader.{Fit, got}
use Rattle.reading.specs.Place.{Placed, on_got, read_placed_of, say_answer}
use Rattle.reading.specs.Bounds.{bounds_in, bounds_of}
use Rattle.records.specs.AsNumbers.{limit_of, told_by}
use Rattle.records.specs.Said.{told_packet}
use Rattle.records.specs.Answered.{told, told_bounds, carried, Bounded, ReadResult}
use Rattle.records.specs.declared.error.Error.{Error}
use Rattle.records.specs.declared.packet_record.Packet as code
use Rattle.records.specs.declared.span.Bounds.{Bounds}

-- of the body of a frame of n bytes: the answer r tells f, and its two numbers are those that its record says
pub record TellsBody (n : ℕ) (r : Result (code.Packet × Bounds) Error) (f : Fit Placed) : Type 0 where
  pub answer : told_by (λ z. told_packet z.0) r ≡ f
  pub bounded : told_by (λ z. told_bounds z.1) r ≡ on_got (λ v. bounds_in v n) (told_by (λ z. told_packet z.0) r)

-- of a whole frame: the answer r tells a, and its two numbers are those that its record says
pub record Tells (r : ReadResult) (a : Answer Placed) : Type 0 where
  pub answer : told r ≡ a
  pub bounded : Bounded r

-- the contract of `read`: the answer r to the stream s tells what `reading` answers, every number and place in it; 02, P7: "Every record
-- read shall also carry where its properties start, after the block's length, and end, within the frame"
pub record Meets (limit : std.Option ℕ) (s : List ℕ) (r : ReadResult) : Type 0 where
  pub answer : told r ≡ read_placed_of (limit_of limit) s
  pub carries : carried r ≡ bounds_of (limit_of limit) s

-- 01: "Taken is the count of stream bytes used up"
abbrev pub taken_in : {A : Type 0} → Answer A → ℕ
taken_in (accepted v n) = n
taken_in (refused k vs n) = n

-- the answer r says a, once each of its places is looked up in the stream s
abbrev pub Says : List ℕ → ReadResult → Answer Packet → Type 0
Says s r a = say_answer s (told r) ≡ got a

-- demand 3, and each refusal: what r says of s is the one verdict on it, a sentence of the grammar or the first fault, and nothing else
abbrev pub Judged : Option ℕ → List ℕ → ReadResult → Type 0
Judged limit s r = (a : Answer Packet) → Says s r a ↔ Verdict limit s a
