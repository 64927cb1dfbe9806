-- A packet that is read takes a byte at least, and no more than there are; how the sum goes on behind it. Assumes nothing.
use Rattle.std.proofs.Common.{◌≡◌, ℕ, ◌+◌, ◌-◌, ◌<◌, ◌≤◌, List, [], ◌∷◌, length, take, drop, sym, refl, ◌∙◌, arith, length-drop, drop_of_length-le, take_all, drop-drop}
use mathlib.Core.Option.{Option, none}
use Rattle.reading.specs.Refusal.{Refusal, nr, accepted, refused, refused_as}
use Rattle.reading.specs.Reader.{Fit, got, bad, then_of}
use Rattle.reading.specs.Read.{byte_of, frame_of, body_answer, body_fit, whole_answer, frame_answer, read_as}
use Rattle.reading.specs.Place.{as_places, Placed, read_placed_of}
use Rattle.reading.proofs.Reading.{less, solid_then}
use Rattle.reading.proofs.Fields.{byte_solid}
use Rattle.reading.proofs.Demand.{no_accept, reads_length, reads_frame}
use Rattle.speed_reading.specs.Sum.{added_for, frames_sum_from, frames_sum}

-- ---- taken

abbrev Fits : List ℕ → ℕ → Type 0
Fits s n = (0 < n) × (n ≤ length s)

module _ (limit : Option ℕ) (s : List ℕ) (p : Placed) (n : ℕ) where
  body_taken : (t : ℕ) → Fits s t → (m : Fit Placed) → body_answer t m ≡ accepted p n → Fits s n
  unfolding body_answer
  body_taken t h (bad (nr k vs)) e = absurd (no_accept e)
  body_taken t h (got v) e =
      let i : t ≡ n = cc in
      (omega arith, omega arith)

  frame_taken : (m : Fit ((ℕ × List ℕ) × List ℕ)) → frame_of limit (length s) s ≡ m → frame_answer as_places s m ≡ accepted p n → Fits s n
  unfolding frame_answer whole_answer
  frame_taken (bad (nr k vs)) e h = absurd (no_accept h)
  frame_taken (got z) e h =
      let l : length z.1 < length s = less (reads_frame limit (reads_length limit) (length s)) (solid_then byte_solid) s z e in
      let t : ℕ = length s - length z.1 in
      body_taken t (omega arith, omega arith) (body_fit as_places z.0.0 t z.0.1) h

  pub taken_fits : read_placed_of limit s ≡ accepted p n → Fits s n
  unfolding read_as
  taken_fits h = frame_taken (frame_of limit (length s) s) refl h

-- nothing is read of no bytes
none_taken : (f : List ℕ) (sum : ℕ) → frames_sum_from f sum [] ≡ sum
unfolding frames_sum_from read_as frame_answer frame_of then_of byte_of
none_taken [] sum = refl
none_taken (y ∷ f) sum = refl

-- ---- the sum

-- the frames before `at` are added up, and what stands from there on decides
pub record Summed (s : List ℕ) (sum at : ℕ) : Type 0 where
  pub within : at ≤ length s
  pub bound : List ℕ
  pub enough : length s - at ≤ length bound
  pub rest : frames_sum s ≡ frames_sum_from bound sum (drop at s)

pub none_summed : (s : List ℕ) → Summed s 0 0
unfolding frames_sum
none_summed s = record { within = omega arith; bound = s; enough = omega arith; rest = refl }

-- the part of s from `at` on, as it is lent
abbrev part_from : List ℕ → ℕ → List ℕ
part_from s at = take (length s - at) (drop at s)

part_from_lem : (s : List ℕ) (at : ℕ) → part_from s at ≡ drop at s
part_from_lem s at = take_all (length s - at) (drop at s) (rw length-drop (omega arith))

module _ {s : List ℕ} {sum at : ℕ} (q : Summed s sum at) where
  pub all_summed : length s ≤ at → sum ≡ frames_sum s
  all_summed h = sym (q.rest ∙ rw (drop_of_length-le s h, none_taken q.bound sum))

  pub last_summed : (k : Refusal) (n : ℕ) → refused_as k n ≡ read_placed_of none (part_from s at) → sum ≡ frames_sum s
  unfolding frames_sum_from
  last_summed (nr k vs) n e = sym (q.rest ∙ go q.bound)
    where
      e' : read_placed_of none (drop at s) ≡ refused k vs n
      e' = sym (rw (part_from_lem s at) at e)

      go : (f : List ℕ) → frames_sum_from f sum (drop at s) ≡ sum
      go [] = refl
      go (y ∷ f) = rw e'

  module _ (h : at < length s) (p : Placed) (n : ℕ) (e : accepted p n ≡ read_placed_of none (part_from s at)) where
    here : read_placed_of none (drop at s) ≡ accepted p n
    here = sym (rw (part_from_lem s at) at e)

    pub ahead : (0 < n) × (at + n ≤ length s)
    ahead =
        let t : Fits (drop at s) n = taken_fits none (drop at s) p n here in
        (t.0, omega (arith, t.1, length-drop at s))

    pub one_summed : Summed s (added_for sum p n) (at + n)
    unfolding frames_sum_from
    one_summed = go q.bound q.enough q.rest
      where
        go : (f : List ℕ) → length s - at ≤ length f → frames_sum s ≡ frames_sum_from f sum (drop at s) → Summed s (added_for sum p n) (at + n)
        go [] l r = absurd (omega arith)
        go (y ∷ f) l r = record {
          within = ahead.1;
          bound = f;
          enough = omega (arith, ahead.0);
          rest = r ∙ rw (here, drop-drop n at s);
        }
