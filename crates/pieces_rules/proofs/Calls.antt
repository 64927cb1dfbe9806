-- What a call gives, by what the header says: one law for each way that it can go. Assumes nothing.
use mathlib.Core.Path.{◌≡◌, refl, sym, ap, ◌∙◌}
use mathlib.Core.Bool.{Bool, true, false, ◌&&◌, false≢true}
use mathlib.Core.Option.{Option, none, some}
use mathlib.Core.List.{List, [], ◌++◌, append-nil}
use Prim.Native.Nat.{ℕ, zero, suc, ◌+◌, ◌-◌, ◌≤◌, ◌<◌}
use native.Mathlib.Omega.{arith}
use lib.Dec.{leb}
use lib.ListN.{length, take, length-append}
use lib.Seq.{sets, length-take-le, take-take, take-append-le, take-append-add}
use borrow.Author.Tests.{leb-true, leb-false}
use Rattle.reading.specs.Refusal.{Refusal, Answer}
use Rattle.reading.specs.Place.{as_places, Placed, read_placed_of}
use Rattle.pieces_rules.specs.Whole.{answer_as, Turn, lacks, ends, frame, turn_of}
use Rattle.pieces_rules.specs.Step.{State, waiting, fresh, inPiece, inBuffer, Step, serves, step_from, step_by, length_in, called, step_of, found_of, read_step}
use Rattle.pieces_rules.specs.Judge.{Judge, unknown, forbids, spans, judge_of}
use Rattle.pieces_rules.proofs.Says.{Says, lacking, refusing, framing, says, unknown_lacks, forbids_ends, spans_lacks, spans_frame}
use Rattle.pieces_rules.proofs.Feed.{put_front}

-- what the test of a buffer says
all_three : (a b c : Bool) → (a && (b && c)) ≡ true → (a ≡ true) × (b ≡ true) × (c ≡ true)
all_three true true c e = (refl, refl, e)
all_three true false c e = absurd (false≢true e)
all_three false b c e = absurd (false≢true e)

pub served : (i n : ℕ) → serves i n ≡ true → (5 ≤ n) × (n ≤ 65536) × (i ≤ n)
unfolding serves
served i n e =
    let (x, y, z) = all_three (leb 5 n) (leb n 65536) (leb i n) e in
    (leb-true 5 n x, leb-true n 65536 y, leb-true i n z)

-- ---- the call, where i bytes are held in the buffer b before the piece p

pub from_buffer_lem : {X : Type 0} (b p : List ℕ) (n : ℕ) (a : X) (i : ℕ) → 0 < i
    → ◌≡◌ {A = Step X} (record { gives = inBuffer a; used = n - i; state = fresh; buffer = sets b i (take (n - i) p) }) (step_from (waiting i) b p (frame a n))
from_buffer_lem b p n a zero h = absurd (omega arith)
from_buffer_lem b p n a (suc i) h = refl

module _ (limit : Option ℕ) (b p : List ℕ) (i : ℕ) where
  abbrev pub joined : List ℕ
  joined = take i b ++ p

  by_turn : {t : Turn (Answer Placed)} → turn_of (answer_as as_places limit (length b) joined) ≡ t → step_from (waiting i) b p (length_in t) ≡ called limit b p i
  by_turn e = ap (λ (t : Turn (Answer Placed)). step_from (waiting i) b p (length_in t)) (sym e)

  pub joined_length : i ≤ length b → length joined ≡ i + length p
  joined_length h = rw (length-append (take i b) p, length-take-le i b h)

  pub call_unknown : unknown ≡ judge_of limit (length b) joined → {o : Step ℕ} → o ≡ step_from (waiting i) b p lacks → o ≡ called limit b p i
  call_unknown e q = q ∙ by_turn (unknown_lacks limit (length b) joined e as_places)

  pub call_ends : (k : Refusal) → forbids k ≡ judge_of limit (length b) joined → step_from (waiting i) b p (ends k) ≡ called limit b p i
  call_ends k e = by_turn (forbids_ends limit (length b) joined k e as_places)

  module _ (n : ℕ) (e : spans n ≡ judge_of limit (length b) joined) (h : i ≤ length b) where
    pub call_lacks : length p < n - i → {o : Step ℕ} → o ≡ step_from (waiting i) b p lacks → o ≡ called limit b p i
    call_lacks l q = q ∙ by_turn (spans_lacks limit (length b) joined n e (omega (arith, joined_length h)) as_places)

    pub call_frame : n - i ≤ length p → step_from (waiting i) b p (frame n n) ≡ called limit b p i
    call_frame l = by_turn (spans_frame limit (length b) joined n e (omega (arith, joined_length h)) as_places [])

-- a frame that lies in the piece
pub call_piece : (limit : Option ℕ) (b p : List ℕ) (n : ℕ) → spans n ≡ judge_of limit (length b) p → n ≤ length p
    → ◌≡◌ {A = Step ℕ} (record { gives = inPiece n; used = n; state = fresh; buffer = b }) (called limit b p 0)
call_piece limit b p n e l = call_frame limit b p 0 n e (omega arith) (omega arith)

-- ---- the answer, once the frame is found

-- the frame's bytes, once those of the piece are put behind those held
frame_put : (b p : List ℕ) (i n : ℕ) → i ≤ length b → n - i ≤ length p → n ≤ length b → take n (sets b i (take (n - i) p)) ≡ take n (take i b ++ p)
frame_put b p i n h l c = go (leb n i) refl
  where
    go : (d : Bool) → leb n i ≡ d → take n (sets b i (take (n - i) p)) ≡ take n (take i b ++ p)
    go true d =
        let o : n ≤ i = leb-true n i d in
        let z : n - i ≡ 0 = omega arith in
        let m : n ≤ length (take i b) = rw (length-take-le i b h) o in
        rw z (sym (take-append-le n (take i b) p m ∙ take-take n i b o))
    go false d =
        let o : i < n = leb-false n i d in
        let i₁ : length (take i b) ≡ i = length-take-le i b h in
        let i₂ : length (take (n - i) p) ≡ n - i = length-take-le (n - i) p l in
        let i₃ : length (take i b) + (n - i) ≡ n = omega arith in
        let i₄ : i + length (take (n - i) p) ≡ n = omega arith in
        rw i₄ at (put_front b (take (n - i) p) i (omega arith)) ∙ sym (rw i₃ at (take-append-add (take i b) p (n - i)))

module _ (limit : Option ℕ) (p : List ℕ) where
  module _ (b : List ℕ) (c : Option Refusal) where
    -- the turn at the bytes held and the piece
    abbrev at : ℕ → Turn (Answer Placed)
    at i = turn_of (answer_as as_places limit (length b) (take i b ++ p))

    abbrev of : ℕ → State
    of i = record { held = i; end = c }

    read_found : (i n : ℕ) → i ≤ length b → n ≤ length b → n ≤ length (take i b ++ p) → ((t : List ℕ) → at i ≡ frame (read_placed_of limit (take n (take i b ++ p) ++ t)) n)
        → read_step limit p (step_from (of i) b p (length_in (at i))) ≡ step_from (of i) b p (at i)
    read_found zero n h o l f =
        let e : at 0 ≡ frame (read_placed_of limit (take n p)) n = rw (append-nil (take n p)) at (f []) in
        rw e
    read_found (suc i) n h o l f =
        let m : n - suc i ≤ length p = omega (arith, joined_length limit b p (suc i) h) in
        let q : take n (take (suc i) b ++ p) ++ [] ≡ take n (sets b (suc i) (take (n - suc i) p)) = append-nil (take n (take (suc i) b ++ p)) ∙ sym (frame_put b p (suc i) n h m o) in
        let e : at (suc i) ≡ frame (read_placed_of limit (take n (sets b (suc i) (take (n - suc i) p)))) n = rw q at (f []) in
        rw e

    read_open : (i : ℕ) → i ≤ length b → read_step limit p (step_from (of i) b p (length_in (at i))) ≡ step_from (of i) b p (at i)
    read_open i h = go (judge_of limit (length b) (take i b ++ p)) (says limit (length b) (take i b ++ p))
      where
        go : (j : Judge) → Says limit (length b) (take i b ++ p) j → read_step limit p (step_from (of i) b p (length_in (at i))) ≡ step_from (of i) b p (at i)
        go _ (lacking l f) = rw (f as_places)
        go _ (refusing f g) = rw (f as_places)
        go _ (framing {n = n} _ l f g r) = size (leb n (length (take i b ++ p))) refl
          where
            size : (d : Bool) → leb n (length (take i b ++ p)) ≡ d → read_step limit p (step_from (of i) b p (length_in (at i))) ≡ step_from (of i) b p (at i)
            size true d = let o : n ≤ length (take i b ++ p) = leb-true n (length (take i b ++ p)) d in read_found i n h l o (λ t. r as_places t o)
            size false d = rw (g as_places (leb-false n (length (take i b ++ p)) d))

  pub found_read : (st : State) (b : List ℕ) → read_step limit p (found_of st b p limit) ≡ step_of st b p limit
  unfolding step_by
  found_read st b = go (serves st.held (length b)) refl st.end refl
    where
      go : (d : Bool) → serves st.held (length b) ≡ d → (c : Option Refusal) → st.end ≡ c → read_step limit p (found_of st b p limit) ≡ step_of st b p limit
      go false d c e = rw d
      go true d (some k) e = rw (d, e)
      go true d none e = rw (d, e) (read_open b none st.held (served st.held (length b) d).2)
