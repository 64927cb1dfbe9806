-- 02, P10: when BadBuffer and FrameTooLong are given, and what ends a stream. Assumes nothing.
use Rattle.std.specs.Prelude as std
use mathlib.Core.Path.{◌≡◌, refl, sym, ap, ◌∙◌}
use mathlib.Core.Bool.{Bool, true, false}
use mathlib.Core.Logic.{◌⊎◌, inl, inr, ◌↔◌}
use mathlib.Core.Option.{Option, none, some}
use mathlib.Core.List.{List, [], ◌∷◌, ◌++◌}
use Prim.Native.Nat.{ℕ, zero, suc, ◌+◌, ◌-◌}
use native.Mathlib.Omega.{arith}
use lib.Dec.{leb, ltb}
use lib.ListN.{length, take, length-append}
use borrow.Author.Tests.{lt-ltb, ltb-true, leb-true, leb-false, eq-eqb}
use Rattle.grammar.specs.Number.{shortest}
use Rattle.reading.specs.Refusal.{Refusal, nr, Answer, over, passes}
use Rattle.reading.specs.Reader.{Fit, got, bad, only_by_of, then_of}
use Rattle.reading.specs.Read.{byte_of, group_of, groups_of, num_of}
use Rattle.reading.specs.Place.{Placed, as_places}
use Rattle.reading.proofs.Reading.{bad_got}
use Rattle.records.specs.AsNumbers.{row_of, limit_of}
use Rattle.pieces_rules.specs.Whole.{frame_too_long, header_under, frame_bytes, answer_as, Turn, frame, turn_of}
use Rattle.pieces_rules.specs.Step.{bad_buffer, Gives, more, stops, Step, serves, waiting, step_from, step_by}
use Rattle.pieces_rules.specs.Judge.{Judge, unknown, forbids, spans, judge_of}
use Rattle.pieces_rules.proofs.Head.{bad_inj, reads_header}
use Rattle.pieces_rules.proofs.Says.{Says, lacking, refusing, framing, says, forbids_ends}
use Rattle.pieces.specs.PieceAnswer.{told_end}
use Rattle.pieces.specs.declared.State.{State}
use Rattle.pieces_read.specs.PacketAnswer.{told_answer}
use Rattle.pieces_read.specs.declared.Reply.{Reply}
use Rattle.pieces_read.specs.Handed.{Meets}
use Rattle.pieces_read.specs.When.{Longer, Ending}

-- ---- the numbers of a header's refusals

groups_numbers : (c : Refusal) (k : ℕ) (s : List ℕ) (w : Refusal) → groups_of c k s ≡ bad w → (w ≡ c) ⊎ (w ≡ nr 2 [])
unfolding groups_of group_of
groups_numbers c zero s w e = inr (sym (bad_inj e))
groups_numbers c (suc k) [] w e = inl (sym (bad_inj e))
groups_numbers c (suc k) (x ∷ s) w e = top (ltb x 128) refl (groups_of c k s) refl (groups_numbers c k s w)
  where
    top : (b : Bool) → ltb x 128 ≡ b → (m : Fit (ℕ × List ℕ)) → groups_of c k s ≡ m → (groups_of c k s ≡ bad w → (w ≡ c) ⊎ (w ≡ nr 2 [])) → (w ≡ c) ⊎ (w ≡ nr 2 [])
    top true i m j ih = absurd (bad_got (sym (rw i at e)))
    top false i (got z) j ih = absurd (bad_got (sym (rw (i, j) at e)))
    top false i (bad v) j ih = ih (j ∙ rw (i, j) at e)

num_numbers : (c : Refusal) (k : ℕ) (s : List ℕ) (w : Refusal) → num_of c k s ≡ bad w → (w ≡ c) ⊎ (w ≡ nr 2 [])
unfolding num_of only_by_of
num_numbers c k s w e = go (groups_of c k s) refl
  where
    go : (m : Fit (ℕ × List ℕ)) → groups_of c k s ≡ m → (w ≡ c) ⊎ (w ≡ nr 2 [])
    go (bad v) j = groups_numbers c k s w (j ∙ rw j at e)
    go (got z) j = test (shortest z.0 (length s - length z.1)) refl
      where
        test : (b : Bool) → shortest z.0 (length s - length z.1) ≡ b → (w ≡ c) ⊎ (w ≡ nr 2 [])
        test true q = absurd (bad_got (sym (rw (j, q) at e)))
        test false q = inr (sym (bad_inj (rw (j, q) at e)))

over_three : (limit : Option ℕ) (l k : ℕ) (vs : List ℕ) → over limit l ≡ nr k vs → k ≡ 3
unfolding over
over_three none l k vs e = cc
over_three (some m) l k vs e = cc

header_numbers : (limit : Option ℕ) (s : List ℕ) (k : ℕ) (vs : List ℕ) → header_under limit s ≡ bad (nr k vs) → (k ≡ 1) ⊎ ((k ≡ 2) ⊎ (k ≡ 3))
unfolding header_under then_of byte_of only_by_of
header_numbers limit [] k vs e = inl cc
header_numbers limit (x ∷ s) k vs e = go (num_of (nr 1 (1 ∷ [])) 4 s) refl
  where
    go : (m : Fit (ℕ × List ℕ)) → num_of (nr 1 (1 ∷ [])) 4 s ≡ m → (k ≡ 1) ⊎ ((k ≡ 2) ⊎ (k ≡ 3))
    go (bad w) j = kept (num_numbers (nr 1 (1 ∷ [])) 4 s w j)
      where
        kept : (w ≡ nr 1 (1 ∷ [])) ⊎ (w ≡ nr 2 []) → (k ≡ 1) ⊎ ((k ≡ 2) ⊎ (k ≡ 3))
        kept (inl p) = let i : w ≡ nr k vs = bad_inj (rw j at e) in inl cc
        kept (inr p) = let i : w ≡ nr k vs = bad_inj (rw j at e) in inr (inl cc)
    go (got z) j = under (passes limit z.0 (length s - length z.1)) refl
      where
        under : (b : Bool) → passes limit z.0 (length s - length z.1) ≡ b → (k ≡ 1) ⊎ ((k ≡ 2) ⊎ (k ≡ 3))
        under true w = absurd (bad_got (sym (rw (j, w) at e)))
        under false w = inr (inr (over_three limit _ k vs (bad_inj (rw (j, w) at e))))

-- ---- what ends a stream

no_forbids : {k : Refusal} {B : Type 0} → unknown ≡ forbids k → B
no_forbids e = let z : ◌≡◌ {A = ℕ} 0 1 = cc in absurd (omega arith)

spans_forbids : {n : ℕ} {k : Refusal} {B : Type 0} → spans n ≡ forbids k → B
spans_forbids e = let z : ◌≡◌ {A = ℕ} 0 1 = cc in absurd (omega arith)

forbids_inj : {k w : Refusal} → forbids k ≡ forbids w → k ≡ w
forbids_inj e = cc

row_of_lem : {k : ℕ} {vs : List ℕ} {w : Refusal} → nr k vs ≡ w → k ≡ row_of w
row_of_lem e = ap row_of e

module _ (limit : Option ℕ) (cap : ℕ) (s : List ℕ) where
  pub judge_ends : (w : Refusal) → judge_of limit cap s ≡ forbids w → Ending limit cap s w
  unfolding judge_of
  judge_ends w e = go (header_under limit s) refl
    where
      numbered : (k : ℕ) (vs : List ℕ) → header_under limit s ≡ bad (nr k vs) → (k ≡ 1) ⊎ ((k ≡ 2) ⊎ (k ≡ 3)) → Ending limit cap s w
      numbered k vs j (inl i) = no_forbids (rw (j, eq-eqb k 1 i) at e)
      numbered k vs j (inr (inl i)) = inl (sym (row_of_lem (forbids_inj (rw (j, i) at e))))
      numbered k vs j (inr (inr i)) = inr (inl (sym (row_of_lem (forbids_inj (rw (j, i) at e)))))

      go : (m : Fit ((ℕ × ℕ) × List ℕ)) → header_under limit s ≡ m → Ending limit cap s w
      go (bad (nr k vs)) j = numbered k vs j (header_numbers limit s k vs j)
      go (got z) j = size (ltb cap (frame_bytes s z)) refl
        where
          size : (b : Bool) → ltb cap (frame_bytes s z) ≡ b → Ending limit cap s w
          size false i = spans_forbids (rw (j, i) at e)
          size true i =
              let (c, e₁, g) = (reads_header limit).split s z j in
              inr (inr (sym (forbids_inj (rw (j, i) at e)), (z.0, c, z.1, e₁, g, omega (arith, ltb-true cap (frame_bytes s z) i, ap length e₁, length-append c z.1))))

  judge_longer : Longer limit cap s → judge_of limit cap s ≡ forbids frame_too_long
  unfolding judge_of
  judge_longer (z, c, r, e, g, l) =
      let n : frame_bytes (c ++ r) (z, r) ≡ length c + z.1 = omega (arith, length-append c r) in
      rw (e, (reads_header limit).whole z c r g, n, lt-ltb cap (length c + z.1) l)

-- ---- of an answer that meets the contract of `next`, while the stream goes on

stops_inj : {k w : Refusal} → ◌≡◌ {A = Gives (Answer Placed)} (stops k) (stops w) → k ≡ w
stops_inj e = cc

module _ {B : Type 0} {w : Refusal} where
  no_more : ◌≡◌ {A = Gives (Answer Placed)} more (stops w) → B
  no_more e = let z : ◌≡◌ {A = ℕ} 0 1 = cc in absurd (omega arith)

  no_frame_lem : (b p : List ℕ) (i n : ℕ) (a : Answer Placed) → (step_from (waiting i) b p (frame a n)).gives ≡ stops w → B
  no_frame_lem b p zero n a e = let z : ◌≡◌ {A = ℕ} 0 1 = cc in absurd (omega arith)
  no_frame_lem b p (suc i) n a e = let z : ◌≡◌ {A = ℕ} 0 1 = cc in absurd (omega arith)

module _ (limit : Option ℕ) (b p : List ℕ) (i : ℕ) where
  abbrev joined : List ℕ
  joined = take i b ++ p

  abbrev turn : Turn (Answer Placed)
  turn = turn_of (answer_as as_places limit (length b) joined)

  -- a refusal is one that the header gives
  open_stops : (w : Refusal) → (step_from (waiting i) b p turn).gives ≡ stops w → judge_of limit (length b) joined ≡ forbids w
  open_stops w e = go (judge_of limit (length b) joined) refl (says limit (length b) joined)
    where
      go : (j : Judge) → judge_of limit (length b) joined ≡ j → Says limit (length b) joined j → judge_of limit (length b) joined ≡ forbids w
      go _ q (lacking l f) = no_more (rw (f as_places) at e)
      go _ q (refusing {k = k} f g) = q ∙ ap forbids (stops_inj (rw (f as_places) at e))
      go _ q (framing {n = n} o l f g r) = size (leb n (length joined)) refl
        where
          size : (d : Bool) → leb n (length joined) ≡ d → judge_of limit (length b) joined ≡ forbids w
          size true d = no_frame_lem b p i n _ (rw (r as_places [] (leb-true n (length joined) d)) at e)
          size false d = no_more (rw (g as_places (leb-false n (length joined) d)) at e)

  stops_open : (w : Refusal) → judge_of limit (length b) joined ≡ forbids w → (step_from (waiting i) b p turn).gives ≡ stops w
  stops_open w e = rw (forbids_ends limit (length b) joined w (sym e) as_places)

module _ (limit : std.Option ℕ) (st : State) (b p : List ℕ) (r : Reply) (b' : List ℕ) (a : Meets limit st b p r b') (o : told_end st.end ≡ none) where
  gives_open : serves st.held (length b) ≡ true → told_answer r.answer ≡ (step_from (waiting st.held) b p (turn (limit_of limit) b p st.held)).gives
  unfolding step_by
  gives_open w = ap (λ (u : Step (Answer Placed)). u.gives) a ∙ rw (o, w)

  -- 02, P10: FrameTooLong exactly when the header is complete, F has passed the limit test and is longer than the buffer
  pub too_long_when : serves st.held (length b) ≡ true → (told_answer r.answer ≡ stops frame_too_long) ↔ Longer (limit_of limit) (length b) (take st.held b ++ p)
  too_long_when w = (
    λ e. longer (judge_ends (limit_of limit) (length b) (take st.held b ++ p) frame_too_long (open_stops (limit_of limit) b p st.held frame_too_long (sym (gives_open w) ∙ e))),
    λ l. gives_open w ∙ stops_open (limit_of limit) b p st.held frame_too_long (judge_longer (limit_of limit) (length b) (take st.held b ++ p) l),
  )
    where
      longer : Ending (limit_of limit) (length b) (take st.held b ++ p) frame_too_long → Longer (limit_of limit) (length b) (take st.held b ++ p)
      longer (inl n) = absurd (omega arith)
      longer (inr (inl n)) = absurd (omega arith)
      longer (inr (inr (q, l))) = l

  -- 02, P10: BadBuffer exactly when the buffer does not serve
  pub bad_buffer_when : (told_answer r.answer ≡ stops bad_buffer) ↔ (serves st.held (length b) ≡ false)
  unfolding step_by
  bad_buffer_when = (λ e. go (serves st.held (length b)) refl e, λ w. ap (λ (o : Step (Answer Placed)). o.gives) a ∙ rw w)
    where
      none_other : Ending (limit_of limit) (length b) (take st.held b ++ p) bad_buffer → false ≡ true
      none_other (inl n) = absurd (omega arith)
      none_other (inr (inl n)) = absurd (omega arith)
      none_other (inr (inr (q, l))) = let z : ◌≡◌ {A = ℕ} 35 36 = ap row_of q in absurd (omega arith)

      go : (d : Bool) → serves st.held (length b) ≡ d → told_answer r.answer ≡ stops bad_buffer → serves st.held (length b) ≡ false
      go false w e = w
      go true w e = w ∙ sym (none_other (judge_ends (limit_of limit) (length b) (take st.held b ++ p) bad_buffer (open_stops (limit_of limit) b p st.held bad_buffer (sym (gives_open w) ∙ e))))

  -- 02, P10: "Refusals 2 and 3 of the header, and FrameTooLong, end the stream": nothing else does
  pub ended_by_lem : serves st.held (length b) ≡ true → (k : Refusal) → told_answer r.answer ≡ stops k → Ending (limit_of limit) (length b) (take st.held b ++ p) k
  ended_by_lem w k e = judge_ends (limit_of limit) (length b) (take st.held b ++ p) k (open_stops (limit_of limit) b p st.held k (sym (gives_open w) ∙ e))
