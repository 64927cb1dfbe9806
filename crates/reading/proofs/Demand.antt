-- A read succeeds exactly when the stream begins with a sentence, and its record and length are the only ones. Assumes nothing.
use mathlib.Core.Path.{◌≡◌, refl, ap, ◌∙◌}
use mathlib.Core.Option.{Option, none, some}
use mathlib.Core.Logic.{◌↔◌}
use mathlib.Core.List.{List, [], ◌∷◌, ◌++◌}
use Prim.Native.Nat.{ℕ, ◌+◌, ◌-◌, ◌≤◌}
use lib.Dec.{leb, leb→le}
use borrow.Author.Tests.{le-leb}
use native.Mathlib.Omega.{arith}
use lib.ListN.{length, length-append}
use Rattle.grammar.specs.Gram.{Gram, OnlyBy, only_by, both, sized}
use Rattle.grammar.specs.Number.{byte, Spells}
use Rattle.grammar.specs.Sentence.{Any, Packet, Frame, Framed, framed, Sentence, ShortSentence}
use Rattle.reading.specs.Refusal.{nr, accepted, refused, cut, lacking, within, passes, exceeds}
use Rattle.reading.specs.Reader.{Fit, got, bad}
use Rattle.reading.specs.Read.{any_bytes, Shape, as_bytes, length_of, frame_of, body_answer, body_fit, whole_answer, frame_answer, read_as, read_of}
use Rattle.reading.specs.Demand.{Begins}
use Rattle.reading.proofs.Lists.{T_of}
use Rattle.reading.proofs.Reading.{Cut, Reads, reads_by, reads_then, reads_sized, fills_is, reads_iff}
use Rattle.reading.proofs.Fields.{reads_byte, reads_num, any_fine}
use Rattle.reading.proofs.Packets.{fills_body}

pub no_accept : {A : Type 0} {k n m : ℕ} {vs : List ℕ} {v : A} → refused k vs n ≡ accepted v m → ⊥
no_accept e = let z : ◌≡◌ {A = ℕ} 0 1 = cc in omega arith

-- ---- under any limit, where N spells the lengths that it lets pass

pub reads_length : (limit : Option ℕ) → Reads (length_of limit) (OnlyBy (passes limit) Spells)
reads_length limit = reads_by (passes limit) (exceeds limit) (reads_num (nr 1 (1 ∷ [])) 4)

module _ (limit : Option ℕ) {N : Gram ℕ} (L : Reads (length_of limit) N) where
  pub reads_frame : (end : ℕ) → Reads (frame_of limit end) (Frame N)
  unfolding frame_of
  reads_frame end = reads_then (reads_byte _) (λ _. reads_sized lacking L (λ _. fills_is any_bytes Any cut any_fine) end)

  -- a whole frame, whatever follows it, and whatever strings are handed back as
  answers_frame : (h : Shape) (z : ℕ × List ℕ) (c r : List ℕ) → Frame N z c → read_as h limit (c ++ r) ≡ whole_answer h (length c) z
  unfolding read_as frame_answer
  answers_frame h z c r f =
      let n : length (c ++ r) - length r ≡ length c = rw length-append (omega arith) in
      rw ((reads_frame (length (c ++ r))).whole z c r f, n)

  pub whole : (v : Packet) (b r : List ℕ) → Framed N v b → read_of limit (b ++ r) ≡ accepted v (length b)
  unfolding whole_answer body_answer
  whole v c r (framed {x = x} {b = b} f g) = answers_frame as_bytes (x, b) c r f ∙ rw ((fills_body x (length c)).whole v b g)

  body_begins : (s : List ℕ) (v : Packet) (n end : ℕ) (z : (ℕ × List ℕ) × List ℕ) → Cut (Frame N) s z
      → (m : Fit Packet) → body_fit as_bytes z.0.0 end z.0.1 ≡ m → body_answer (length s - length z.1) m ≡ accepted v n → Begins (Framed N) s v n
  unfolding body_answer
  body_begins s v n end z t (bad (nr k vs)) e h = absurd (no_accept h)
  body_begins s v n end z t (got w) e h =
      let (b, e₁, f) = t in
      let i : w ≡ v = cc in
      let j : length s - length z.1 ≡ n = cc in
      let l : length b ≡ n = omega (arith, simp length-append at (ap length e₁)) in
      (b, z.1, e₁, framed f ((fills_body z.0.0 end).back z.0.1 v (e ∙ ap got i)), l)

  frame_begins : (s : List ℕ) (v : Packet) (n : ℕ) (m : Fit ((ℕ × List ℕ) × List ℕ)) → frame_of limit (length s) s ≡ m → frame_answer as_bytes s m ≡ accepted v n → Begins (Framed N) s v n
  unfolding frame_answer whole_answer
  frame_begins s v n (bad (nr k vs)) e h = absurd (no_accept h)
  frame_begins s v n (got z) e h =
      let end : ℕ = length s - length z.1 in
      body_begins s v n end z ((reads_frame (length s)).split s z e) (body_fit as_bytes z.0.0 end z.0.1) refl h

  begins : (s : List ℕ) (v : Packet) (n : ℕ) → read_of limit s ≡ accepted v n → Begins (Framed N) s v n
  unfolding read_as
  begins s v n h = frame_begins s v n (frame_of limit (length s) s) refl h

  reads_framed : (s : List ℕ) (v : Packet) (n : ℕ) → (read_of limit s ≡ accepted v n) ↔ Begins (Framed N) s v n
  reads_framed s v n = (begins s v n, λ t. let (b, r, e, g, l) = t in rw (e, ← l) (whole v b r g))

pub all_within : (n : ℕ) (b : List ℕ) → OnlyBy (passes none) Spells n b ↔ Spells n b
unfolding within
all_within n b = (drop_test, only_by refl)
  where
    drop_test : OnlyBy (passes none) Spells n b → Spells n b
    drop_test (only_by h g) = g

pub free : Reads (length_of none) Spells
free = reads_iff all_within (reads_length none)

-- the sentences that the limit m lets pass are those of at most m bytes
pub short_frame : (m : ℕ) (z : ℕ × List ℕ) (c : List ℕ) → Frame (OnlyBy (passes (some m)) Spells) z c ↔ (Frame Spells z c × (length c ≤ m))
unfolding within
short_frame m z c = (there, back)
  where
    there : {z : ℕ × List ℕ} {c : List ℕ} → Frame (OnlyBy (passes (some m)) Spells) z c → Frame Spells z c × (length c ≤ m)
    there (both byte (sized {b = b} {c = d} (only_by h g) i)) =
        let l : 1 + length d + length b ≤ m = leb→le (1 + length d + length b) m (T_of (leb (1 + length d + length b) m) h) in
        (both byte (sized g i), omega (arith, length-append d b))

    back : {z : ℕ × List ℕ} {c : List ℕ} → Frame Spells z c × (length c ≤ m) → Frame (OnlyBy (passes (some m)) Spells) z c
    back (both byte (sized {b = b} {c = d} g i), l) = both byte (sized (only_by (le-leb (1 + length d + length b) m (omega (arith, length-append d b))) g) i)

short_sentence : (m : ℕ) (v : Packet) (c : List ℕ) → Framed (OnlyBy (passes (some m)) Spells) v c ↔ ShortSentence m v c
short_sentence m v c = (there, back)
  where
    there : {v : Packet} {c : List ℕ} → Framed (OnlyBy (passes (some m)) Spells) v c → ShortSentence m v c
    there (framed {x = x} {b = b} {c = d} f g) = let (f', l) = (short_frame m (x, b) d).0 f in (framed f' g, l)

    back : {v : Packet} {c : List ℕ} → ShortSentence m v c → Framed (OnlyBy (passes (some m)) Spells) v c
    back (framed {x = x} {b = b} {c = d} f g, l) = framed ((short_frame m (x, b) d).1 (f, l)) g

pub whole_answer_lem : (h : Shape) (limit : Option ℕ) (z : ℕ × List ℕ) (c r : List ℕ) → Frame (OnlyBy (passes limit) Spells) z c → read_as h limit (c ++ r) ≡ whole_answer h (length c) z
whole_answer_lem h limit = answers_frame limit (reads_length limit) h

-- ---- the demand

-- with no limit a read succeeds exactly when the stream begins with a sentence; the record is the sentence's, the count its length
pub reads_sentence : (s : List ℕ) (v : Packet) (n : ℕ) → (read_of none s ≡ accepted v n) ↔ Begins Sentence s v n
reads_sentence = reads_framed none free

-- with a limit, exactly when that sentence has at most so many bytes
pub reads_short : (m : ℕ) (s : List ℕ) (v : Packet) (n : ℕ) → (read_of (some m) s ≡ accepted v n) ↔ Begins (ShortSentence m) s v n
reads_short m s v n =
    let i = reads_framed (some m) (reads_length (some m)) s v n in
    (λ e. let (b, r, j, g, l) = i.0 e in (b, r, j, (short_sentence m v b).0 g, l), λ (b, r, j, g, l). i.1 (b, r, j, (short_sentence m v b).1 g, l))
