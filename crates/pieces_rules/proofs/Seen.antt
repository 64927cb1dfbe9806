-- What a stream begins with, and what a longer one does to it: it lacks bytes, fewer than the buffer has; it has ended; or it begins with a
-- frame. Whatever strings are handed back as. Assumes nothing.
use mathlib.Core.Path.{◌≡◌, refl, sym, ◌∙◌}
use mathlib.Core.Bool.{Bool, true, false}
use mathlib.Core.Option.{Option}
use mathlib.Core.List.{List, [], ◌++◌, append-nil}
use Prim.Native.Nat.{ℕ, ◌≤◌, ◌<◌}
use native.Mathlib.Omega.{arith}
use lib.Dec.{leb}
use lib.ListN.{length, take, length-append}
use lib.Seq.{length-take-le, take_at}
use borrow.Author.Tests.{leb-true, leb-false}
use Rattle.grammar.specs.Record.{PacketOf}
use Rattle.reading.specs.Refusal.{Refusal, Answer}
use Rattle.reading.specs.Reader.{got}
use Rattle.reading.specs.Read.{Shape, as_bytes, read_as}
use Rattle.reading.specs.Place.{as_places, say_answer}
use Rattle.reading.proofs.Places.{placed_says}
use Rattle.pieces_rules.specs.Whole.{answer_as, Turn, lacks, ends, frame, turn_of}
use Rattle.pieces_rules.specs.Judge.{Judge, spans, judge_of}
use Rattle.pieces_rules.proofs.Says.{Says, lacking, refusing, framing, says, forbids_ends, spans_frame}

frame_inj : {A : Type 0} {a b : A} {n : ℕ} → ◌≡◌ {A = Turn A} (frame a n) (frame b n) → a ≡ b
frame_inj e = cc

pub data Seen (limit : Option ℕ) (cap : ℕ) (s : List ℕ) : Type 1 where
  short : length s < cap → ((h : Shape) → turn_of (answer_as h limit cap s) ≡ lacks) → Seen limit cap s
  ended : {k : Refusal} → ((h : Shape) (t : List ℕ) → turn_of (answer_as h limit cap (s ++ t)) ≡ ends k) → Seen limit cap s
  framed : (n : ℕ) (a : (h : Shape) → Answer (PacketOf h.Str h.Run)) → 0 < n → n ≤ length s → n ≤ cap
      → ((h : Shape) (t : List ℕ) → turn_of (answer_as h limit cap (take n s ++ t)) ≡ frame (a h) n)
      → ((t : List ℕ) → say_answer (take n s ++ t) (a as_places) ≡ got (a as_bytes))
      → Seen limit cap s

module _ (limit : Option ℕ) (cap : ℕ) where
  -- a frame's own bytes are answered alike, whatever follows
  module _ (s : List ℕ) (n : ℕ) (l : n ≤ length s) (f : (t : List ℕ) → judge_of limit cap (take n s ++ t) ≡ spans n) (h : Shape) (t : List ℕ) where
    front_turn : (u : List ℕ) → turn_of (answer_as h limit cap (take n s ++ t)) ≡ frame (read_as h limit (take n s ++ u)) n
    front_turn u =
        let i : length (take n s) ≡ n = length-take-le n s l in
        rw (take_at (take n s) t n i) at (spans_frame limit cap (take n s ++ t) n (sym (f t)) (omega (arith, length-append (take n s) t)) h u)

    front_frame : turn_of (answer_as h limit cap (take n s ++ t)) ≡ frame (read_as h limit (take n s)) n
    front_frame = rw (append-nil (take n s)) at (front_turn [])

    front_read : read_as h limit (take n s ++ t) ≡ read_as h limit (take n s)
    front_read = frame_inj (sym (front_turn t) ∙ front_frame)

  pub seen : 5 ≤ cap → (s : List ℕ) → Seen limit cap s
  seen o s = go (judge_of limit cap s) (says limit cap s)
    where
      go : (j : Judge) → Says limit cap s j → Seen limit cap s
      go _ (lacking l f) = short (omega arith) f
      go _ (refusing {k = k} f g) = ended {k = k} λ h t. forbids_ends limit cap (s ++ t) k (sym (g t)) h
      go _ (framing {n = n} p l f g r) = size (leb n (length s)) refl
        where
          size : (b : Bool) → leb n (length s) ≡ b → Seen limit cap s
          size false i = short (omega (arith, leb-false n (length s) i)) λ h. g h (leb-false n (length s) i)
          size true i =
              let m : n ≤ length s = leb-true n (length s) i in
              framed n (λ h. read_as h limit (take n s)) p m l (front_frame s n m f)
              λ t. rw (front_read s n m f as_places t, front_read s n m f as_bytes t) at (placed_says limit (take n s ++ t))
