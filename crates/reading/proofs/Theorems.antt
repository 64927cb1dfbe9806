-- What is proved of the reader's definition, on one page: demand 3, each refusal, the places. Each proof is cited. Assumes nothing.
use mathlib.Core.Path.{◌≡◌, refl, sym, ◌∙◌}
use mathlib.Core.Option.{Option, none, some}
use mathlib.Core.Logic.{◌↔◌}
use mathlib.Core.List.{List, [], ◌∷◌, ◌++◌}
use Prim.Native.Nat.{ℕ}
use lib.ListN.{length}
use Rattle.grammar.specs.Number.{Spells}
use Rattle.grammar.specs.Sentence.{Packet, Frame, Sentence, ShortSentence}
use Rattle.reading.specs.Refusal.{Answer, accepted, refused}
use Rattle.reading.specs.Fault.{Verdict}
use Rattle.reading.specs.Reader.{got}
use Rattle.reading.specs.Read.{Shape, read_as, read_of}
use Rattle.reading.specs.Place.{Placed, read_placed_of, say_answer, Items}
use Rattle.reading.specs.Rows.{lacks}
use Rattle.reading.specs.Demand.{Begins, Limited, Taken}
use Rattle.reading.proofs.Demand.{reads_sentence, reads_short}
use Rattle.reading.proofs.Places.{placed_says}
use Rattle.reading.proofs.Items.{read_items}
use Rattle.reading.proofs.Faults.{answered}
use Rattle.reading.proofs.Rows.{taken}
use Rattle.reading.proofs.Stream.{frame_suffix, limit_alone, sentence_front}

-- ---- demand 3

-- "With no limit, a read succeeds exactly when the stream begins with a sentence": v is what it says, n its length
pub succeeds : (s : List ℕ) (v : Packet) (n : ℕ) → (read_of none s ≡ accepted v n) ↔ Begins Sentence s v n
succeeds = reads_sentence

-- "record and taken count are the only ones the grammar allows"
pub only_one : (s : List ℕ) (v v' : Packet) (n n' : ℕ) → Begins Sentence s v n → Begins Sentence s v' n' → (v ≡ v') × (n ≡ n')
only_one s v v' n n' b b' =
    let e : accepted v n ≡ accepted v' n' = sym ((reads_sentence s v n).1 b) ∙ (reads_sentence s v' n').1 b' in
    (cc, cc)

-- "each strict prefix of a sentence lacks bytes": just so many as 01 says
pub prefix : (v : Packet) (f u w : List ℕ) (y : ℕ) → Sentence v f → f ≡ u ++ (y ∷ w) → read_of none u ≡ refused 1 (lacks u (length f) ∷ []) 0
prefix = sentence_front

-- "bytes after it alter nothing"
pub suffix : (v : Packet) (b r : List ℕ) → Sentence v b → read_of none (b ++ r) ≡ accepted v (length b)
suffix v b r g = (reads_sentence (b ++ r) v (length b)).1 (b, r, refl, g, refl)

-- nor do bytes after a whole frame, accepted or refused, under any limit and whatever strings are handed back as
pub after_frame : (h : Shape) (limit : Option ℕ) (z : ℕ × List ℕ) (c r r' : List ℕ) → Frame Spells z c → read_as h limit (c ++ r) ≡ read_as h limit (c ++ r')
after_frame = frame_suffix

-- "A limit adds the size refusal alone"
pub limited : (h : Shape) (m : ℕ) (s : List ℕ) → Limited h m s
limited = limit_alone

-- so under a limit a read succeeds exactly when the stream begins with a sentence of at most so many bytes
pub succeeds_within : (m : ℕ) (s : List ℕ) (v : Packet) (n : ℕ) → (read_of (some m) s ≡ accepted v n) ↔ Begins (ShortSentence m) s v n
succeeds_within = reads_short

-- ---- every answer is pinned down, without the reader (each row by itself: Rows.row-1 to row-6, row-2-inside, field-rows)

-- the answer to a stream is its verdict: a sentence, or one fault
pub verdict : (limit : Option ℕ) (s : List ℕ) (a : Answer Packet) → (read_of limit s ≡ a) ↔ Verdict limit s a
verdict = answered

-- every stream has one
pub some_verdict : (limit : Option ℕ) (s : List ℕ) → (a : Answer Packet) × Verdict limit s a
some_verdict limit s = (read_of limit s, (answered limit s (read_of limit s)).0 refl)

-- and only one
pub one_verdict : (limit : Option ℕ) (s : List ℕ) (a a' : Answer Packet) → Verdict limit s a → Verdict limit s a' → a ≡ a'
one_verdict limit s a a' w w' = sym ((answered limit s a).1 w) ∙ (answered limit s a').1 w'

-- every refusal takes what 01's column says, 0 or the frame, and has a number from 1 to 15, or 22 or 23
pub takes : (limit : Option ℕ) (s vs : List ℕ) (k t : ℕ) → read_of limit s ≡ refused k vs t → Taken limit s k t
takes = taken

-- ---- places

-- the answer with places, read again at its places, is the answer in bytes
pub places_say : (limit : Option ℕ) (s : List ℕ) → say_answer s (read_placed_of limit s) ≡ got (read_of limit s)
places_say = placed_says

-- the n-th items of a record that was read, n from 0, are its lists in order, and then 21
pub items : (limit : Option ℕ) (s : List ℕ) (v : Placed) (n : ℕ) → read_placed_of limit s ≡ accepted v n → (w : Packet) × (read_of limit s ≡ accepted w n) × Items s v w
items = read_items
