-- Rows 1 to 6 are given just when 01's words hold, and the rest just when the fields of a whole frame break; each number comes from one
-- of the two. Assumes nothing.
use mathlib.Core.Path.{◌≡◌, refl, sym, ap, ◌∙◌, subst}
use mathlib.Core.Bool.{Bool, true, false, ◌||◌, cond, false≢true}
use mathlib.Core.Option.{Option, none, some}
use mathlib.Core.Logic.{◌↔◌, ◌⊎◌, inl, inr}
use mathlib.Core.List.{List, [], ◌∷◌, ◌++◌}
use Prim.Native.Nat.{ℕ, ◌+◌, ◌-◌, ◌^◌, ◌<◌}
use native.Mathlib.Omega.{arith}
use lib.Dec.{eqb, leb}
use lib.ListN.{length, length-append}
use borrow.Author.Tests.{lt-leb, leb-false}
use Rattle.grammar.specs.Choice.{is_in}
use Rattle.grammar.specs.Gram.{OnlyBy, only_by, both}
use Rattle.grammar.specs.Number.{Byte, byte, shortest, Spells}
use Rattle.grammar.specs.Sentence.{Packet}
use Rattle.reading.specs.Refusal.{Refusal, nr, Answer, accepted, refused, refused_as, lacking, within, over, passes, exceeds}
use Rattle.reading.specs.Fault.{Sound, OnlyByFault, under_by, fails_by, first, second, SizedFault, sizes, crosses, fills, ByteFault, no_byte, no_tops, NumFault, endless, long, BodyFault, kind, no_bytes, foreign, content, FrameFault, Passing, Verdict, says, breaks, no_frame}
use Rattle.reading.specs.Read.{read_of}
use Rattle.reading.specs.Rows.{Incomplete, under_two, no_end, partly, Overlong, overlong, winded, Above, above, Holds, holds, Framing, insufficient, malformed, exceeded, invalid, required, notCarried, row_number, FramingGiven, Breaks}
use Rattle.reading.specs.Demand.{of_fields, Taken, nothing_yet, own_length, whole_frame}
use Rattle.reading.proofs.Faults.{answered}
use Rattle.reading.proofs.Numbers.{field_numbers}

-- ---- rows 1 to 3, from the fault of a frame

-- 02, P8: "more bytes than it needs"
needless : (n k : ℕ) → (shortest n k ≡ false) ↔ ((1 < k) × (n < 128 ^ (k - 1)))
needless n k = (there (leb k 1) refl, λ (i, j). rw (lt-leb k 1 i, lt-leb (128 ^ (k - 1)) n j))
  where
    there : (t : Bool) → leb k 1 ≡ t → (t || leb (128 ^ (k - 1)) n) ≡ false → (1 < k) × (n < 128 ^ (k - 1))
    there true e h = absurd (false≢true (sym h))
    there false e h = (leb-false k 1 e, leb-false (128 ^ (k - 1)) n h)

abbrev Some : Option ℕ → List ℕ → ℕ → List ℕ → ℕ → Type 0
Some limit s k vs t = (r : Framing) × (row_number r ≡ k) × FramingGiven limit r s vs t

-- of a refusal
abbrev Shown : Option ℕ → List ℕ → Refusal → ℕ → Type 0
Shown limit s (nr k vs) t = Some limit s k vs t

module _ (limit : Option ℕ) where
  lacks_bytes : (s : List ℕ) (n : ℕ) → Incomplete limit s n → Shown limit s (nr 1 (n ∷ [])) 0
  lacks_bytes s n i = (insufficient, refl, (n, i, refl, refl))

  num_row : (x : ℕ) (s : List ℕ) (k : Refusal) → NumFault (nr 1 (1 ∷ [])) 4 s k → Shown limit (x ∷ s) k 0
  num_row x s _ (under_by (endless t h)) = lacks_bytes (x ∷ s) 1 (no_end t h)
  num_row x _ _ (under_by (long r t h)) = (malformed, refl, (overlong r t h, refl, refl))
  num_row x _ _ (fails_by {a = l} {b = b} r g h) = let (i, j) = (needless l (length b)).0 h in (malformed, refl, (winded r g i j, refl, refl))

over_row : (limit : Option ℕ) (x l : ℕ) (b r : List ℕ) → Spells l b → passes limit l (length b) ≡ false → Shown limit (x ∷ (b ++ r)) (exceeds limit l (length b)) 0
unfolding within over
over_row none x l b r g h = absurd (false≢true (sym h))
over_row (some m) x l b r g h = (exceeded, refl, (1 + length b + l, m, refl, above r g (leb-false (1 + length b + l) m h), refl, refl))

module _ (limit : Option ℕ) where
  limit_row : (x : ℕ) (s : List ℕ) (k : Refusal) → OnlyByFault (passes limit) (exceeds limit) Spells (NumFault (nr 1 (1 ∷ [])) 4) s k → Shown limit (x ∷ s) k 0
  limit_row x s k (under_by f) = num_row limit x s k f
  limit_row x _ _ (fails_by {a = l} {b = b} r g h) = over_row limit x l b r g h

  part_row : (x l : ℕ) (b r : List ℕ) → OnlyBy (passes limit) Spells l b → length r < l → Shown limit (x ∷ (b ++ r)) (lacking l r) 0
  part_row x l b r (only_by w g) h =
      let n : 1 + length b + l - length (x ∷ (b ++ r)) ≡ l - length r = omega (arith, length-append b r) in
      subst (λ (i : ℕ). Some limit (x ∷ (b ++ r)) 1 (i ∷ []) 0) n (lacks_bytes limit (x ∷ (b ++ r)) _ (partly r g w h))

  size_row : (x : ℕ) (s : List ℕ) (k : Refusal) → SizedFault (OnlyBy (passes limit) Spells) (OnlyByFault (passes limit) (exceeds limit) Spells (NumFault (nr 1 (1 ∷ [])) 4)) lacking Sound s k → Shown limit (x ∷ s) k 0
  size_row x s k (sizes f) = limit_row x s k f
  size_row x _ _ (crosses {l = l} {b = b} r g h) = part_row x l b r g h
  size_row x _ k (fills r g h) = elim h [ ]

  head_row : (x : ℕ) (b s : List ℕ) (k : Refusal) → Byte x b → SizedFault (OnlyBy (passes limit) Spells) (OnlyByFault (passes limit) (exceeds limit) Spells (NumFault (nr 1 (1 ∷ [])) 4)) lacking Sound s k → Shown limit (b ++ s) k 0
  head_row x _ s k byte f = size_row x s k f

  byte_row : (s : List ℕ) (k : Refusal) → ByteFault (nr 1 (2 ∷ [])) s k → Shown limit s k 0
  byte_row _ _ no_byte = lacks_bytes limit [] 2 (under_two {s = []} (omega arith))

  frame_row : (s : List ℕ) (k : Refusal) → FrameFault limit s k → Shown limit s k 0
  frame_row s k (first f) = byte_row s k f
  frame_row _ k (second {a = x} {b = b} {r = r} g f) = head_row x b r k g f

  -- ---- a verdict's row

  abbrev Either : List ℕ → Refusal → ℕ → Type 0
  Either s k t = Shown limit s k t ⊎ Breaks limit s k t

  body_row : (x : ℕ) (b c r : List ℕ) (k : Refusal) → Passing limit (x, b) c → BodyFault x b k → Either (c ++ r) k (length c)
  body_row x b c r _ f (kind h) = inl (invalid, refl, (x, b, holds r f, h, refl))
  body_row x _ c r _ f (no_bytes h h') = inl (required, refl, (x, holds r f, h, h', refl))
  body_row x _ c r _ f (foreign {y = y} {b = b} h e) = inl (notCarried, refl, (x, y, b, holds r f, h, e, refl))
  body_row x b c r k f (content {l = l} e h g) = inr (x, l, b, holds r f, e, h, g)

  -- of an answer
  abbrev RowOf : List ℕ → Answer Packet → Type 0
  RowOf s (accepted v n) = Unit {0}
  RowOf s (refused k vs t) = Either s (nr k vs) t

  verdict_row : (s : List ℕ) (a : Answer Packet) → Verdict limit s a → RowOf s a
  verdict_row _ _ (says r f g) = tt
  verdict_row _ _ (breaks {x = x} {k = k} {b = b} {c = c} {vs = vs} r f g) = body_row x b c r (nr k vs) f g
  verdict_row s _ (no_frame {k = k} {vs = vs} h) = inl (frame_row s (nr k vs) h)

-- ---- and back

above_limit : (limit : Option ℕ) (l m : ℕ) → limit ≡ some m → m < l → (within limit l ≡ false) × (over limit l ≡ nr 3 (l ∷ m ∷ []))
unfolding within over
above_limit limit l m e h = (rw e (lt-leb l m h), rw e)

module _ (limit : Option ℕ) where
  fault_verdict : (s : List ℕ) (k : Refusal) → FrameFault limit s k → Verdict limit s (refused_as k 0)
  fault_verdict s (nr k vs) f = no_frame f

  held_verdict : (s : List ℕ) (x : ℕ) (b : List ℕ) (t : ℕ) (k : Refusal) → Holds limit s x b t → BodyFault x b k → Verdict limit s (refused_as k t)
  held_verdict _ x b _ (nr k vs) (holds r f) g = breaks r f g

  short_verdict : (s : List ℕ) → length s < 2 → Verdict limit s (refused 1 ((2 - length s) ∷ []) 0)
  short_verdict [] h = no_frame (first no_byte)
  short_verdict (x ∷ []) h = no_frame (second byte (sizes (under_by (under_by (endless no_tops (omega arith))))))
  short_verdict (x ∷ y ∷ s) h = absurd (omega arith)

  incomplete_verdict : (s : List ℕ) (n : ℕ) → Incomplete limit s n → Verdict limit s (refused 1 (n ∷ []) 0)
  incomplete_verdict s _ (under_two h) = short_verdict s h
  incomplete_verdict _ _ (no_end t h) = no_frame (second byte (sizes (under_by (under_by (endless t h)))))
  incomplete_verdict _ _ (partly {x = x} {R = l} {b = b} r g w h) =
      let n : l - length r ≡ 1 + length b + l - length (x ∷ (b ++ r)) = omega (arith, length-append b r) in
      subst (λ (i : ℕ). Verdict limit (x ∷ (b ++ r)) (refused 1 (i ∷ []) 0)) n (no_frame (second byte (crosses r (only_by w g) h)))

  overlong_verdict : (s : List ℕ) → Overlong s → Verdict limit s (refused 2 [] 0)
  overlong_verdict _ (overlong r t h) = no_frame (second byte (sizes (under_by (under_by (long r t h)))))
  overlong_verdict _ (winded {R = l} {b = b} r g i j) = no_frame (second byte (sizes (under_by (fails_by r g ((needless l (length b)).1 (i, j))))))

  above_verdict : (s : List ℕ) (n m : ℕ) → limit ≡ some m → Above s n m → Verdict limit s (refused 3 (n ∷ m ∷ []) 0)
  above_verdict _ _ m e (above {x = x} {R = l} {b = b} r g h) =
      let (w, o) = above_limit limit (1 + length b + l) m e h in
      subst (λ (k : Refusal). Verdict limit (x ∷ (b ++ r)) (refused_as k 0)) o (fault_verdict (x ∷ (b ++ r)) (exceeds limit l (length b)) (second byte (sizes (fails_by r g w))))

  given_verdict : (r : Framing) (s vs : List ℕ) (t : ℕ) → FramingGiven limit r s vs t → Verdict limit s (refused (row_number r) vs t)
  given_verdict insufficient s vs t (n, i, e, e') = rw (e, e') (incomplete_verdict s n i)
  given_verdict malformed s vs t (o, e, e') = rw (e, e') (overlong_verdict s o)
  given_verdict exceeded s vs t (l, m, i, a, e, e') = rw (e, e') (above_verdict s l m i a)
  given_verdict invalid s vs t (x, b, f, h, e) = rw e (held_verdict s x b t _ f (kind h))
  given_verdict required s vs t (x, f, h, h', e) = rw e (held_verdict s x [] t _ f (no_bytes h h'))
  given_verdict notCarried s vs t (x, y, b, f, h, h', e) = rw e (held_verdict s x (y ∷ b) t _ f (foreign h h'))

  breaks_verdict : (s vs : List ℕ) (k t : ℕ) → Breaks limit s (nr k vs) t → Verdict limit s (refused k vs t)
  breaks_verdict s vs k t (x, l, b, f, e, h, g) = held_verdict s x b t (nr k vs) f (content e h g)

-- ---- the closed statements

-- a number has one row
named : (r r' : Framing) → row_number r ≡ row_number r' → r ≡ r'
named r r' e = sym (back r) ∙ ap row e ∙ back r'
  where
    row : ℕ → Framing
    row k = cond (eqb k 1) insufficient (cond (eqb k 2) malformed (cond (eqb k 3) exceeded (cond (eqb k 4) invalid (cond (eqb k 5) required notCarried))))

    back : (q : Framing) → row (row_number q) ≡ q
    back insufficient = refl
    back malformed = refl
    back exceeded = refl
    back invalid = refl
    back required = refl
    back notCarried = refl

-- a frame is not empty
holds_some : (limit : Option ℕ) (s : List ℕ) (x : ℕ) (b : List ℕ) (t : ℕ) → Holds limit s x b t → t ≡ 0 → ⊥
holds_some limit _ x b _ (holds r f) h = some_bytes _ _ f h
  where
    some_bytes : (z : ℕ × List ℕ) (c : List ℕ) → Passing limit z c → length c ≡ 0 → ⊥
    some_bytes _ _ (both byte g) e = omega arith

-- what stands in none of the rows 1 to 6
other : (r : Framing) (k : ℕ) → row_number r ≡ k → is_in k (7 ∷ 8 ∷ 9 ∷ 10 ∷ 11 ∷ 12 ∷ 13 ∷ 14 ∷ 15 ∷ 22 ∷ 23 ∷ []) ≡ false
other insufficient k e = rw (← e)
other malformed k e = rw (← e)
other exceeded k e = rw (← e)
other invalid k e = rw (← e)
other required k e = rw (← e)
other notCarried k e = rw (← e)

module _ (limit : Option ℕ) (s vs : List ℕ) where
  -- a refusal is one of rows 1 to 6, or a fault of the fields of a whole frame
  refused_rows : (k t : ℕ) → (read_of limit s ≡ refused k vs t) ↔ (Some limit s k vs t ⊎ Breaks limit s (nr k vs) t)
  refused_rows k t = (λ e. verdict_row limit s (refused k vs t) ((answered limit s (refused k vs t)).0 e), λ w. (answered limit s (refused k vs t)).1 (back w))
    where
      back : Some limit s k vs t ⊎ Breaks limit s (nr k vs) t → Verdict limit s (refused k vs t)
      back (inl (r, e, g)) = rw (← e) (given_verdict limit r s vs t g)
      back (inr w) = breaks_verdict limit s vs k t w

  -- a row that the fields do not give too
  framing_row : (r : Framing) (t : ℕ) → (Breaks limit s (nr (row_number r) vs) t → ⊥) → (read_of limit s ≡ refused (row_number r) vs t) ↔ FramingGiven limit r s vs t
  framing_row r t h = (λ e. go ((refused_rows (row_number r) t).0 e), λ g. (refused_rows (row_number r) t).1 (inl (r, refl, g)))
    where
      go : Some limit s (row_number r) vs t ⊎ Breaks limit s (nr (row_number r) vs) t → FramingGiven limit r s vs t
      go (inl (q, e, g)) = subst (λ (q' : Framing). FramingGiven limit q' s vs t) (named q r e) g
      go (inr w) = absurd (h w)

  not_field : (k t : ℕ) → is_in k of_fields ≡ false → Breaks limit s (nr k vs) t → ⊥
  not_field k t h w = false≢true (sym h ∙ field_numbers limit s k t vs w)

  -- 01, row 1: given exactly when the frame is incomplete, with n
  pub row_1 : (t : ℕ) → (read_of limit s ≡ refused 1 vs t) ↔ FramingGiven limit insufficient s vs t
  row_1 t = framing_row insufficient t (not_field 1 t refl)

  -- 01, row 2, with nothing taken: given exactly when the fourth byte of the frame's own length has its top bit set, or it uses more bytes than it needs
  pub row_2 : (read_of limit s ≡ refused 2 vs 0) ↔ FramingGiven limit malformed s vs 0
  row_2 = framing_row malformed 0 (λ (x, l, b, f, e, h, g). holds_some limit s x b 0 f refl)

  -- 01, row 3: given exactly when F is above the limit
  pub row_3 : (t : ℕ) → (read_of limit s ≡ refused 3 vs t) ↔ FramingGiven limit exceeded s vs t
  row_3 t = framing_row exceeded t (not_field 3 t refl)

  -- 01, row 4: given exactly when the frame is whole and its kind is 0 or 15
  pub row_4 : (t : ℕ) → (read_of limit s ≡ refused 4 vs t) ↔ FramingGiven limit invalid s vs t
  row_4 t = framing_row invalid t (not_field 4 t refl)

  -- 01, row 5: given exactly when the frame is whole, R is 0, and the kind is no ping, nor 0 or 15
  pub row_5 : (t : ℕ) → (read_of limit s ≡ refused 5 vs t) ↔ FramingGiven limit required s vs t
  row_5 t = framing_row required t (not_field 5 t refl)

  -- 01, row 6: given exactly when the frame is whole, R is not 0, and the kind is not carried, nor 0 or 15
  pub row_6 : (t : ℕ) → (read_of limit s ≡ refused 6 vs t) ↔ FramingGiven limit notCarried s vs t
  row_6 t = framing_row notCarried t (not_field 6 t refl)

  -- 01, rows 7 to 15, and 02, P9: given exactly when the frame is whole, its kind is carried, and its fields break so, first from the left
  pub field_rows : (k t : ℕ) → is_in k (7 ∷ 8 ∷ 9 ∷ 10 ∷ 11 ∷ 12 ∷ 13 ∷ 14 ∷ 15 ∷ 22 ∷ 23 ∷ []) ≡ true → (read_of limit s ≡ refused k vs t) ↔ Breaks limit s (nr k vs) t
  field_rows k t h = (λ e. go ((refused_rows k t).0 e), λ w. (refused_rows k t).1 (inr w))
    where
      go : Some limit s k vs t ⊎ Breaks limit s (nr k vs) t → Breaks limit s (nr k vs) t
      go (inl (r, e, g)) = absurd (false≢true (sym (other r k e) ∙ h))
      go (inr w) = w

  -- 01, row 2, with bytes taken: a number inside the frame
  pub row_2_inside : (t : ℕ) → (t ≡ 0 → ⊥) → (read_of limit s ≡ refused 2 vs t) ↔ Breaks limit s (nr 2 vs) t
  row_2_inside t h = (λ e. go ((refused_rows 2 t).0 e), λ w. (refused_rows 2 t).1 (inr w))
    where
      none_taken : (r : Framing) → row_number r ≡ 2 → FramingGiven limit r s vs t → t ≡ 0
      none_taken insufficient e g = absurd (omega arith)
      none_taken malformed e g = g.2
      none_taken exceeded e g = absurd (omega arith)
      none_taken invalid e g = absurd (omega arith)
      none_taken required e g = absurd (omega arith)
      none_taken notCarried e g = absurd (omega arith)

      go : Some limit s 2 vs t ⊎ Breaks limit s (nr 2 vs) t → Breaks limit s (nr 2 vs) t
      go (inl (r, e, g)) = absurd (h (none_taken r e g))
      go (inr w) = w

  given_taken : (r : Framing) (t : ℕ) → FramingGiven limit r s vs t → Taken limit s (row_number r) t
  given_taken insufficient t (n, i, e, e') = rw e' (nothing_yet refl)
  given_taken malformed t (o, e, e') = rw e' (own_length o)
  given_taken exceeded t (R, m, i, a, e, e') = rw e' (nothing_yet refl)
  given_taken invalid t (x, b, f, h, e) = whole_frame refl f
  given_taken required t (x, f, h, h', e) = whole_frame refl f
  given_taken notCarried t (x, y, b, f, h, h', e) = whole_frame refl f

  -- every refusal takes what its row says, and has the number of a row
  pub taken : (k t : ℕ) → read_of limit s ≡ refused k vs t → Taken limit s k t
  taken k t e = go ((refused_rows k t).0 e)
    where
      up : (a b c d : Bool) → d ≡ true → (a || (b || (c || d))) ≡ true
      up true b c d w = refl
      up false true c d w = refl
      up false false true d w = refl
      up false false false d w = w

      go : Some limit s k vs t ⊎ Breaks limit s (nr k vs) t → Taken limit s k t
      go (inl (r, i, g)) = rw (← i) (given_taken r t g)
      go (inr w) = let (x, l, b, f, i, h, g) = w in whole_frame (up (eqb k 4) (eqb k 5) (eqb k 6) (is_in k of_fields) (field_numbers limit s k t vs w)) f
