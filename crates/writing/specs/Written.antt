-- What is promised of the bytes that a write gives. Assumes nothing.
use Rattle.std.specs.Prelude.{◌≡◌, List, ℕ, ◌≤◌, length}
use Rattle.std.proofs.Math.Option.{Option}
use Rattle.grammar.specs.Octets.{Octets}
use Rattle.grammar.specs.Sentence.{Sentence}
use Rattle.reading.specs.Reader.{got}
use Rattle.writing.specs.Handed.{Handed}
use Rattle.writing.specs.Write.{size_of, answer_of}
use Rattle.writing.specs.Refuse.{Within}
use Rattle.writing.specs.Meant.{said}

-- demand 2: the bytes b that were written are a sentence that says what was handed over; they are as many as size and answer say, at most the
-- limit, and fit the room
pub record WrittenBytes (limit : Option ℕ) (room : ℕ) (h : Handed) (b : List ℕ) : Type 0 where
  pub sentence : Sentence (said h) b
  pub octets : Octets b
  pub size : size_of h ≡ got (length b)
  pub answer : answer_of limit room h ≡ got (length b)
  pub within : Within limit (length b)
  pub fits : length b ≤ room
