-- What a longer stream, a shorter one, and a limit do to an answer, whatever strings are handed back as. Assumes nothing.
use mathlib.Core.Path.{◌≡◌, refl, sym, ap, ◌∙◌}
use mathlib.Core.Bool.{Bool, true, false}
use mathlib.Core.Option.{Option, none, some}
use mathlib.Core.Logic.{inl, inr}
use mathlib.Core.List.{List, [], ◌∷◌, ◌++◌, append_assoc}
use Prim.Native.Nat.{ℕ, ◌+◌, ◌-◌, ◌≤◌, ◌<◌}
use native.Mathlib.Omega.{arith}
use lib.Dec.{leb, leb→le}
use lib.ListN.{length, length-append}
use borrow.Author.Tests.{le-leb, lt-leb, leb-false, le-ltb}
use Rattle.grammar.specs.Gram.{OnlyBy, only_by, both, sized, is}
use Rattle.grammar.specs.Number.{byte, Groups, last, next, shortest, Spells}
use Rattle.grammar.specs.Sentence.{Packet, Frame, frame_length, framed, Sentence}
use Rattle.reading.specs.Refusal.{Refusal, nr, refused, refused_as, within, over, passes, exceeds}
use Rattle.reading.specs.Fault.{fails_by, second, sizes, Tops, no_tops, a_top, FrameFault, Passing}
use Rattle.reading.specs.Reader.{Fit, got, bad, only_by_of, then_of, sized_of}
use Rattle.reading.specs.Read.{byte_of, num_of, Shape, frame_of, frame_answer, read_as, read_of}
use Rattle.reading.specs.Rows.{Incomplete, under_two, no_end, partly, Above, above, all_tops, lacks}
use Rattle.reading.specs.Demand.{Limited}
use Rattle.reading.proofs.Lists.{T_of, Cuts, cut_in}
use Rattle.reading.proofs.Reading.{bad_got, got_inj, count_front}
use Rattle.reading.proofs.Fields.{reads_num}
use Rattle.reading.proofs.Demand.{all_within, whole_answer_lem}
use Rattle.reading.proofs.Faults.{refuses_frame}
use Rattle.reading.proofs.Rows.{row_1}

module _ (h : Shape) where
  -- no frame, no bytes taken, whatever strings are handed back as
  no_frame_lem : (limit : Option ℕ) (s : List ℕ) (k : Refusal) → FrameFault limit s k → read_as h limit s ≡ refused_as k 0
  unfolding read_as frame_answer
  no_frame_lem limit s (nr k vs) f = rw ((refuses_frame limit (length s)).refuse s (nr k vs) f)

  -- a length number that the limit does not let pass
  too_large : (limit : Option ℕ) (x l : ℕ) (c r : List ℕ) → Spells l c → passes limit l (length c) ≡ false → read_as h limit (x ∷ (c ++ r)) ≡ refused_as (exceeds limit l (length c)) 0
  too_large limit x l c r g w = no_frame_lem limit (x ∷ (c ++ r)) (exceeds limit l (length c)) (second byte (sizes (fails_by r g w)))

  -- ---- bytes after a whole frame never alter its answer, refused frames included

  pub frame_suffix : (limit : Option ℕ) (z : ℕ × List ℕ) (c r r' : List ℕ) → Frame Spells z c → read_as h limit (c ++ r) ≡ read_as h limit (c ++ r')
  frame_suffix limit _ _ r r' (both {a = x} byte (sized {b = b} {c = c} g (is y))) = go (passes limit (length b) (length c)) refl
    where
      go : (t : Bool) → passes limit (length b) (length c) ≡ t → read_as h limit (x ∷ ((c ++ b) ++ r)) ≡ read_as h limit (x ∷ ((c ++ b) ++ r'))
      go true w =
          let f : Passing limit (x, b) (x ∷ (c ++ b)) = both byte (sized (only_by w g) (is y)) in
          whole_answer_lem h limit (x, b) (x ∷ (c ++ b)) r f ∙ sym (whole_answer_lem h limit (x, b) (x ∷ (c ++ b)) r' f)
      go false w = rw (append_assoc c b r, append_assoc c b r') (too_large limit x (length b) c (b ++ r) g w ∙ sym (too_large limit x (length b) c (b ++ r') g w))

  -- ---- a limit changes one thing

  -- a whole header whose F is above the limit: 3, with F and the limit, and nothing taken
  limit_refuses : (m x l : ℕ) (c r : List ℕ) → Spells l c → m < 1 + length c + l → read_as h (some m) (x ∷ (c ++ r)) ≡ refused 3 ((1 + length c + l) ∷ m ∷ []) 0
  unfolding within over
  limit_refuses m x l c r g o = too_large (some m) x l c r g (lt-leb (1 + length c + l) m o)

-- every frame whose length number s begins with, after its first byte, has at most m bytes
abbrev AtMost : ℕ → List ℕ → Type 0
AtMost m s = (x l : ℕ) (c r : List ℕ) → s ≡ x ∷ (c ++ r) → Spells l c → 1 + length c + l ≤ m

same_frame : (m end : ℕ) (s : List ℕ) → AtMost m s → frame_of (some m) end s ≡ frame_of none end s
unfolding frame_of then_of byte_of sized_of only_by_of within
same_frame m end [] h = refl
same_frame m end (x ∷ s) h = go (num_of (nr 1 (1 ∷ [])) 4 s) refl
  where
    go : (n : Fit (ℕ × List ℕ)) → num_of (nr 1 (1 ∷ [])) 4 s ≡ n → frame_of (some m) end (x ∷ s) ≡ frame_of none end (x ∷ s)
    go (bad k) e = rw e
    go (got z) e =
        let (c, e₁, g) = (reads_num (nr 1 (1 ∷ [])) 4).split s z e in
        rw (e, count_front s c z.1 e₁, le-leb (1 + length c + z.0) m (h x z.0 c z.1 (ap (λ (l : List ℕ). x ∷ l) e₁) g))

-- otherwise the answer is that with no limit
limit_passes : (h : Shape) (m : ℕ) (s : List ℕ) → AtMost m s → read_as h (some m) s ≡ read_as h none s
unfolding read_as
limit_passes h m s o = rw (same_frame m (length s) s o)

-- ---- a limit changes nothing else

tail_same : (x y : ℕ) (t u : List ℕ) → x ∷ t ≡ y ∷ u → t ≡ u
tail_same x y t u e = cc

module _ (h : Shape) (m : ℕ) where
  not_above : (s : List ℕ) → AtMost m s → (n : ℕ) → Above s n m → ⊥
  not_above _ a _ (above {x = x} {R = l} {b = c} r g o) = let i : 1 + length c + l ≤ m = a x l c r refl g in omega arith

  at_most : (s : List ℕ) → AtMost m s → Limited h m s
  at_most s a = inr (not_above s a, limit_passes h m s a)

  -- the length number that a stream begins with is the one that is read
  same_length : (x y l : ℕ) (t c r : List ℕ) → x ∷ t ≡ y ∷ (c ++ r) → Spells l c → num_of (nr 1 (1 ∷ [])) 4 t ≡ got (l, r)
  same_length x y l t c r e g = let i : t ≡ c ++ r = cc in rw i ((reads_num (nr 1 (1 ∷ [])) 4).whole l c r g)

  measured : (x : ℕ) (t : List ℕ) (z : ℕ × List ℕ) → num_of (nr 1 (1 ∷ [])) 4 t ≡ got z → (b : Bool) → leb (frame_length z.0 (length t - length z.1)) m ≡ b → Limited h m (x ∷ t)
  measured x t z e true o = at_most (x ∷ t) λ y l c r i g.
      let q : z ≡ (l, r) = got_inj (sym e ∙ same_length x y l t c r i g) in
      let j : z.0 ≡ l = ap (λ (u : ℕ × List ℕ). u.0) q in
      let n : length t - length z.1 ≡ length c = count_front t c z.1 (rw (ap (λ (u : ℕ × List ℕ). u.1) q) (tail_same x y t (c ++ r) i)) in
      let w : frame_length z.0 (length t - length z.1) ≤ m = leb→le (frame_length z.0 (length t - length z.1)) m (T_of (leb (frame_length z.0 (length t - length z.1)) m) o) in
      omega arith
  measured x t z e false o =
      let (c, i, g) = (reads_num (nr 1 (1 ∷ [])) 4).split t z e in
      let n : length t - length z.1 ≡ length c = count_front t c z.1 i in
      let v : m < frame_length z.0 (length t - length z.1) = leb-false (frame_length z.0 (length t - length z.1)) m o in
      let w : m < 1 + length c + z.0 = omega arith in
      rw i (inl (1 + length c + z.0, above z.1 g w, limit_refuses h m x z.0 c z.1 g w))

  -- a limit adds the size refusal alone
  pub limit_alone : (s : List ℕ) → Limited h m s
  limit_alone [] = at_most [] λ x l c r e g. let z : ◌≡◌ {A = ℕ} 0 1 = cc in absurd (omega arith)
  limit_alone (x ∷ t) = go (num_of (nr 1 (1 ∷ [])) 4 t) refl
    where
      go : (n : Fit (ℕ × List ℕ)) → num_of (nr 1 (1 ∷ [])) 4 t ≡ n → Limited h m (x ∷ t)
      go (bad k) e = at_most (x ∷ t) λ y l c r i g. absurd (bad_got (sym e ∙ same_length x y l t c r i g))
      go (got z) e = measured x t z e (leb (frame_length z.0 (length t - length z.1)) m) refl

-- ---- a strict front of a sentence lacks bytes, and just so many

top_test : (b : List ℕ) → Tops b → all_tops b ≡ true
top_test _ no_tops = refl
top_test _ (a_top {x = x} {b = b} h t) = rw (le-leb 128 x h) (top_test b t)

-- what ends a number is no byte with its top bit set
no_top : (k l : ℕ) (c r : List ℕ) → Groups k l c → all_tops (c ++ r) ≡ false
no_top _ _ _ r (last {x = x} h) = rw (lt-leb 128 x h)
no_top _ _ _ r (next {k = k} {x = x} {n = n} {b = b} h g) = rw (le-leb 128 x h) (no_top k n b r g)

-- a strict front of a number: tops, and fewer than it may have
front_tops : (k l : ℕ) (c u w : List ℕ) (y : ℕ) → Groups k l c → c ≡ u ++ (y ∷ w) → Tops u × (length u < k)
front_tops _ _ _ [] w y (last h) e = (no_tops, omega arith)
front_tops _ _ _ (z ∷ u) w y (last h) e = absurd (omega (arith, ap length e, length-append u (y ∷ w)))
front_tops _ _ _ [] w y (next h g) e = (no_tops, omega arith)
front_tops _ _ _ (z ∷ u) w y (next {k = k} {x = x} {n = n} {b = b} h g) e =
    let q : b ≡ u ++ (y ∷ w) = cc in
    let i : x ≡ z = cc in
    let (t, l) = front_tops k n b u w y g q in
    (a_top {x = z} (omega arith) t, omega arith)

module _ (limit : Option ℕ) where
  answer_of_lem : (s : List ℕ) (n : ℕ) → Incomplete limit s n → read_of limit s ≡ refused 1 (n ∷ []) 0
  answer_of_lem s n w = (row_1 limit s (n ∷ []) 0).1 (n, w, refl, refl)

  module _ (x : ℕ) (c b w : List ℕ) (y : ℕ) (i : passes limit (length b) (length c) ≡ true) (g : Groups 4 (length b) c) (o : shortest (length b) (length c) ≡ true) where
    frame_front : (u : List ℕ) → c ++ b ≡ u ++ (y ∷ w) → read_of limit (x ∷ u) ≡ refused 1 (lacks (x ∷ u) (length (x ∷ (c ++ b))) ∷ []) 0
    unfolding lacks
    frame_front [] e = answer_of_lem (x ∷ []) 1 (under_two {s = x ∷ []} (omega arith))
    frame_front (z ∷ u) e = go (cut_in c b (z ∷ u) w y e)
      where
        go : Cuts c b (z ∷ u) w y → read_of limit (x ∷ z ∷ u) ≡ refused 1 (lacks (x ∷ z ∷ u) (length (x ∷ (c ++ b))) ∷ []) 0
        go (inl t) =
            let (d, l) = front_tops 4 (length b) c (z ∷ u) t.0 y g t.1 in
            rw (le-ltb (length (x ∷ z ∷ u)) 2 (omega arith), top_test (z ∷ u) d) (answer_of_lem (x ∷ z ∷ u) 1 (no_end d l))
        go (inr t) =
            let (v, e₁, e₂) = t in
            let l : length v < length b = omega (arith, ap length e₂, length-append v (y ∷ w)) in
            let n : all_tops (z ∷ u) ≡ false = ap all_tops e₁ ∙ no_top 4 (length b) c v g in
            let a : 1 + length c + length b - length (x ∷ (c ++ v)) ≡ length (x ∷ (c ++ b)) - length (x ∷ z ∷ u) = omega (arith, length-append c b, length-append c v, ap length e₁) in
            let q : read_of limit (x ∷ (c ++ v)) ≡ refused 1 ((1 + length c + length b - length (x ∷ (c ++ v))) ∷ []) 0 = answer_of_lem (x ∷ (c ++ v)) _ (partly v (only_by o g) i l) in
            rw (le-ltb (length (x ∷ z ∷ u)) 2 (omega arith), n, ← a, e₁) q

  first_byte_lem : (x y : ℕ) (c b u w : List ℕ) → OnlyBy (passes limit) Spells (length b) c → x ∷ (c ++ b) ≡ u ++ (y ∷ w) → read_of limit u ≡ refused 1 (lacks u (length (x ∷ (c ++ b))) ∷ []) 0
  unfolding lacks
  first_byte_lem x y c b [] w g e = answer_of_lem [] 2 (under_two {s = []} (omega arith))
  first_byte_lem x y c b (z ∷ u) w (only_by i (only_by o g)) e =
      let j : x ≡ z = cc in
      let q : c ++ b ≡ u ++ (y ∷ w) = cc in
      rw (← j) (frame_front x c b w y i g o u q)

  -- 01: "n is 2 less the bytes held if under two; 1 while the length number lacks its end; else F less the bytes held", of each strict
  -- front of a frame that the limit lets pass
  front_lacks : (z : ℕ × List ℕ) (f u w : List ℕ) (y : ℕ) → Passing limit z f → f ≡ u ++ (y ∷ w) → read_of limit u ≡ refused 1 (lacks u (length f) ∷ []) 0
  front_lacks _ _ u w y (both {a = x} byte (sized {b = b} {c = c} g (is i))) e = first_byte_lem x y c b u w g e

-- no limit lets every frame pass
no_limit : (z : ℕ × List ℕ) (f : List ℕ) → Frame Spells z f → Passing none z f
no_limit _ _ (both i (sized {b = b} {c = c} g j)) = both i (sized ((all_within (length b) c).1 g) j)

-- so of each strict front of a sentence
pub sentence_front : (v : Packet) (f u w : List ℕ) (y : ℕ) → Sentence v f → f ≡ u ++ (y ∷ w) → read_of none u ≡ refused 1 (lacks u (length f) ∷ []) 0
sentence_front v f u w y (framed {x = x} {b = b} h i) e = front_lacks none (x, b) f u w y (no_limit (x, b) f h) e
