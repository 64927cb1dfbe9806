-- What is added up of a stream that is read frame after frame. Assumes nothing.
use Rattle.std.proofs.Math.Option.{none}
use Rattle.std.specs.Prelude.{ℕ, List, [], ◌∷◌, drop}
use Rattle.grammar.specs.Record.{publish, ack, subscribe, reply, unsubscribe, ping}
use Rattle.reading.specs.Refusal.{Answer, accepted, refused}
use Rattle.reading.specs.Place.{Placed, read_placed_of}
use Rattle.positions.specs.Count.{wrapped}

-- the lengths of topic and payload of a Publish
abbrev pub weight_of : Placed → ℕ
weight_of (publish m) = wrapped m.topic.len m.payload.len
weight_of (ack k m) = 0
weight_of (subscribe m) = 0
weight_of (reply k m) = 0
weight_of (unsubscribe m) = 0
weight_of (ping k) = 0

-- what is added for a packet of n bytes
abbrev pub added_for : ℕ → Placed → ℕ → ℕ
added_for sum p n = wrapped (wrapped sum (weight_of p)) n

-- the first refusal ends the sum
abbrev after_answer : Answer Placed → ℕ → (Placed → ℕ → ℕ) → ℕ
after_answer (accepted p n) sum more = more p n
after_answer (refused k vs n) sum more = sum

-- the frames of s, beside what came before; the first list bounds their number
unfoldable pub frames_sum_from : List ℕ → ℕ → List ℕ → ℕ
frames_sum_from [] sum s = sum
frames_sum_from (y ∷ f) sum s = after_answer (read_placed_of none s) sum (λ p n. frames_sum_from f (added_for sum p n) (drop n s))

-- a stream has no more frames than bytes
unfoldable pub frames_sum : List ℕ → ℕ
frames_sum s = frames_sum_from s 0 s
