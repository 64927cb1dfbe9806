-- A header decides what a stream begins with, and its first five bytes decide the header; whatever strings are handed back as. Assumes nothing.
use mathlib.Core.Path.{◌≡◌, refl, sym, ap, ◌∙◌}
use mathlib.Core.Bool.{Bool, true, false, cond}
use mathlib.Core.Option.{Option}
use mathlib.Core.Logic.{◌⊎◌, inl, inr}
use mathlib.Core.List.{List, [], ◌∷◌, ◌++◌, append_assoc}
use Prim.Native.Nat.{ℕ, zero, suc, ◌+◌, ◌-◌, ◌≤◌, ◌<◌}
use native.Mathlib.Omega.{arith}
use lib.Dec.{eqb, ltb}
use lib.ListN.{length, take, drop, length-append, length-take, take-append-drop}
use lib.Seq.{length-take-le, take_all, take_at, drop_at, take-append-add}
use borrow.Author.Tests.{lt-ltb, le-ltb, ltb-true, ltb-false, le-leb, lt-leb, eq-eqb}
use Rattle.grammar.specs.Record.{PacketOf}
use Rattle.reading.specs.Refusal.{Refusal, nr, Answer, refused, refused_as}
use Rattle.reading.specs.Reader.{Fit, got, bad}
use Rattle.reading.specs.Read.{Shape, body_fit, body_answer, whole_answer, frame_answer, read_as}
use Rattle.pieces_rules.specs.Whole.{frame_too_long, header_under, frame_bytes, longer, answer_as, lacks, ends, frame, at_once, turn_of}
use Rattle.pieces_rules.specs.Judge.{Judge, unknown, forbids, spans, judge_of}
use Rattle.pieces_rules.proofs.Head.{Header, reads_header, header_some, frame_header, header_refused}

-- ---- turns

module _ {A : Type 0} where
  turn_ends : (k : ℕ) (vs : List ℕ) → eqb k 1 ≡ false → turn_of {A = A} (refused k vs 0) ≡ ends (nr k vs)
  unfolding turn_of at_once
  turn_ends k vs e = rw e

  pub turn_lacks : (vs : List ℕ) → turn_of {A = A} (refused 1 vs 0) ≡ lacks
  unfolding turn_of at_once
  turn_lacks vs = refl

  turn_body : (n : ℕ) (f : Fit A) → 0 < n → turn_of (body_answer n f) ≡ frame (body_answer n f) n
  unfolding turn_of body_answer
  turn_body n (got v) h = refl
  turn_body zero (bad (nr k vs)) h = absurd (omega arith)
  turn_body (suc n) (bad (nr k vs)) h = refl

turn_whole : (h : Shape) (n : ℕ) (z : ℕ × List ℕ) → 0 < n → turn_of (whole_answer h n z) ≡ frame (whole_answer h n z) n
unfolding whole_answer
turn_whole h n z o = turn_body n (body_fit h z.0 n z.1) o

-- ---- the answer, by the header

module _ (h : Shape) (limit : Option ℕ) (cap : ℕ) (s : List ℕ) where
  pub answer_refused : (k : ℕ) (vs : List ℕ) → header_under limit s ≡ bad (nr k vs) → answer_as h limit cap s ≡ refused k vs 0
  unfolding answer_as longer read_as frame_answer
  answer_refused k vs e = rw (frame_header limit (length s) s, e)

  module _ (z : (ℕ × ℕ) × List ℕ) (e : header_under limit s ≡ got z) where
    answer_long : cap < frame_bytes s z → answer_as h limit cap s ≡ refused_as frame_too_long 0
    unfolding answer_as longer
    answer_long l = rw (e, lt-ltb cap (frame_bytes s z) l)

    answer_fits : frame_bytes s z ≤ cap → answer_as h limit cap s ≡ read_as h limit s
    unfolding answer_as longer
    answer_fits l = rw (e, le-ltb cap (frame_bytes s z) l)

    read_lacks : length z.1 < z.0.1 → read_as h limit s ≡ refused 1 ((z.0.1 - length z.1) ∷ []) 0
    unfolding read_as frame_answer
    read_lacks l = rw (frame_header limit (length s) s, e, lt-leb z.0.1 (length z.1) l)

    read_whole : z.0.1 ≤ length z.1 → read_as h limit s ≡ whole_answer h (length s - length (drop z.0.1 z.1)) (z.0.0, take z.0.1 z.1)
    unfolding read_as frame_answer
    read_whole l = rw (frame_header limit (length s) s, e, le-leb z.0.1 (length z.1) l)

-- ---- what a header says

module _ (limit : Option ℕ) (cap : ℕ) where
  -- a frame lacks bytes, or begins the stream; only its own bytes, the first n, bear on that
  pub data Says (s : List ℕ) : Judge → Type 1 where
    lacking : length s < 5 → ((h : Shape) → turn_of (answer_as h limit cap s) ≡ lacks) → Says s unknown
    refusing : {k : Refusal} → ((h : Shape) → turn_of (answer_as h limit cap s) ≡ ends k) → ((t : List ℕ) → judge_of limit cap (s ++ t) ≡ forbids k) → Says s (forbids k)
    framing : {n : ℕ} → 0 < n → n ≤ cap → ((t : List ℕ) → judge_of limit cap (take n s ++ t) ≡ spans n)
        → ((h : Shape) → length s < n → turn_of (answer_as h limit cap s) ≡ lacks)
        → ((h : Shape) (t : List ℕ) → n ≤ length s → turn_of (answer_as h limit cap s) ≡ frame (read_as h limit (take n s ++ t)) n)
        → Says s (spans n)

  -- a header z, spelt by c, before the bytes r
  module _ (x R : ℕ) (c : List ℕ) (g : Header limit (x, R) c) where
    header_length : (r : List ℕ) → frame_bytes (c ++ r) ((x, R), r) ≡ length c + R
    header_length r = omega (arith, length-append c r)

    whole_read : (b : List ℕ) → length b ≡ R → (h : Shape) (t : List ℕ) → read_as h limit (c ++ (b ++ t)) ≡ whole_answer h (length c + R) (x, b)
    whole_read b m h t =
        let e = (reads_header limit).whole (x, R) c (b ++ t) g in
        let n : length (c ++ (b ++ t)) - length t ≡ length c + R = omega (arith, length-append c (b ++ t), length-append b t) in
        let i = read_whole h limit cap (c ++ (b ++ t)) ((x, R), b ++ t) e (omega (arith, length-append b t)) in
        rw (drop_at b t R m, take_at b t R m, n) at i

    header_at : (r : List ℕ) → header_under limit (c ++ r) ≡ got ((x, R), r)
    header_at r = (reads_header limit).whole (x, R) c r g

    judge_at : (r : List ℕ) → judge_of limit cap (c ++ r) ≡ cond (ltb cap (length c + R)) (forbids frame_too_long) (spans (length c + R))
    unfolding judge_of
    judge_at r = rw (header_at r, header_length r)

    says_long : cap < length c + R → (r : List ℕ) → Says (c ++ r) (forbids frame_too_long)
    says_long l r = refusing
        (λ h. ap turn_of (answer_long h limit cap (c ++ r) ((x, R), r) (header_at r) (rw (header_length r) l)) ∙ turn_ends 36 [] refl)
        (λ t. rw (append_assoc c r t) (judge_at (r ++ t) ∙ rw (lt-ltb cap (length c + R) l)))

    says_spans : length c + R ≤ cap → (r : List ℕ) → Says (c ++ r) (spans (length c + R))
    says_spans l r = framing some_byte l
        (λ t. rw (take-append-add c r R, append_assoc c (take R r) t) (judge_at (take R r ++ t) ∙ rw (le-ltb cap (length c + R) l)))
        (λ h o. ap turn_of (fits h ∙ read_lacks h limit cap (c ++ r) ((x, R), r) (header_at r) (omega (arith, length-append c r))) ∙ turn_lacks ((R - length r) ∷ []))
        λ h t o.
        let b : List ℕ = take R r in
        let m : length b ≡ R = length-take-le R r (omega (arith, length-append c r)) in
        let i : take (length c + R) (c ++ r) ≡ c ++ b = take-append-add c r R in
        let q : read_as h limit (c ++ (b ++ drop R r)) ≡ whole_answer h (length c + R) (x, b) = whole_read b m h (drop R r) in
        ap turn_of (fits h ∙ rw (take-append-drop R r) at q) ∙ turn_whole h (length c + R) (x, b) some_byte
        ∙ ap (λ (a : Answer (PacketOf h.Str h.Run)). frame a (length c + R)) (sym (whole_read b m h t) ∙ ap (read_as h limit) (rw (i, append_assoc c b t)))
      where
        some_byte : 0 < length c + R
        some_byte = omega (arith, header_some limit (x, R) c g)

        fits : (h : Shape) → answer_as h limit cap (c ++ r) ≡ read_as h limit (c ++ r)
        fits h = answer_fits h limit cap (c ++ r) ((x, R), r) (header_at r) (rw (header_length r) l)

  headed : (x R : ℕ) (c r : List ℕ) → Header limit (x, R) c → Says (c ++ r) (judge_of limit cap (c ++ r))
  headed x R c r g = go (ltb cap (length c + R)) refl
    where
      go : (b : Bool) → ltb cap (length c + R) ≡ b → Says (c ++ r) (judge_of limit cap (c ++ r))
      go true i = rw (judge_at x R c g r, i) (says_long x R c g (ltb-true cap (length c + R) i) r)
      go false i = rw (judge_at x R c g r, i) (says_spans x R c g (ltb-false cap (length c + R) i) r)

  pub says : (s : List ℕ) → Says s (judge_of limit cap s)
  unfolding judge_of
  says s = go (header_under limit s) refl
    where
      refuse : (k : ℕ) (vs : List ℕ) → header_under limit s ≡ bad (nr k vs) → ((k ≡ 1) × (length s < 5)) ⊎ ((eqb k 1 ≡ false) × ((t : List ℕ) → header_under limit (s ++ t) ≡ bad (nr k vs))) → Says s (judge_of limit cap s)
      refuse k vs e (inl (i, o)) = rw (e, eq-eqb k 1 i) (lacking o λ h. ap turn_of (answer_refused h limit cap s k vs e ∙ rw i) ∙ turn_lacks vs)
      refuse k vs e (inr (i, f)) = rw (e, i) (refusing (λ h. ap turn_of (answer_refused h limit cap s k vs e) ∙ turn_ends k vs i) (λ t. rw (f t, i)))

      go : (m : Fit ((ℕ × ℕ) × List ℕ)) → header_under limit s ≡ m → Says s (judge_of limit cap s)
      go (bad (nr k vs)) e = refuse k vs e (header_refused limit s k vs e)
      go (got z) e =
          let (c, e₁, g) = (reads_header limit).split s z e in
          rw e₁ (headed z.0.0 z.0.1 c z.1 g)

  -- ---- each verdict, and what it says

  module _ (s : List ℕ) where
    says_as : (j : Judge) → j ≡ judge_of limit cap s → Says s j
    says_as j e = rw e (says s)

    pub unknown_short : unknown ≡ judge_of limit cap s → length s < 5
    unknown_short e = go (says_as unknown e)
      where
        go : Says s unknown → length s < 5
        go (lacking l f) = l

    pub unknown_lacks : unknown ≡ judge_of limit cap s → (h : Shape) → turn_of (answer_as h limit cap s) ≡ lacks
    unknown_lacks e h = go (says_as unknown e)
      where
        go : Says s unknown → turn_of (answer_as h limit cap s) ≡ lacks
        go (lacking l f) = f h

    pub forbids_ends : (k : Refusal) → forbids k ≡ judge_of limit cap s → (h : Shape) → turn_of (answer_as h limit cap s) ≡ ends k
    forbids_ends k e h = go (says_as (forbids k) e)
      where
        go : Says s (forbids k) → turn_of (answer_as h limit cap s) ≡ ends k
        go (refusing f g) = f h

    module _ (n : ℕ) (e : spans n ≡ judge_of limit cap s) where
      pub spans_within : n ≤ cap
      spans_within = go (says_as (spans n) e)
        where
          go : Says s (spans n) → n ≤ cap
          go (framing o l f g h) = l

      pub spans_lacks : length s < n → (h : Shape) → turn_of (answer_as h limit cap s) ≡ lacks
      spans_lacks o h = go (says_as (spans n) e)
        where
          go : Says s (spans n) → turn_of (answer_as h limit cap s) ≡ lacks
          go (framing _ l f g _) = g h o

      pub spans_frame : n ≤ length s → (h : Shape) (t : List ℕ) → turn_of (answer_as h limit cap s) ≡ frame (read_as h limit (take n s ++ t)) n
      spans_frame o h t = go (says_as (spans n) e)
        where
          go : Says s (spans n) → turn_of (answer_as h limit cap s) ≡ frame (read_as h limit (take n s ++ t)) n
          go (framing _ l f g r) = r h t o

  -- the bytes of a frame and what follows: so of every stream that begins with them
  pub spans_on : (s : List ℕ) (n : ℕ) → ((t : List ℕ) → judge_of limit cap (take n s ++ t) ≡ spans n) → (t : List ℕ) → judge_of limit cap (s ++ t) ≡ spans n
  spans_on s n f t = ap (judge_of limit cap) (rw (← append_assoc (take n s) (drop n s) t, take-append-drop n s)) ∙ f (drop n s ++ t)

  -- a header has five bytes at most
  pub judge_front : (s : List ℕ) → judge_of limit cap (take 5 s) ≡ judge_of limit cap s
  judge_front s = go (judge_of limit cap (take 5 s)) refl (says (take 5 s))
    where
      go : (j : Judge) → judge_of limit cap (take 5 s) ≡ j → Says (take 5 s) j → judge_of limit cap (take 5 s) ≡ judge_of limit cap s
      go _ e (lacking l f) = ap (judge_of limit cap) (take_all 5 s (omega (arith, length-take 5 s)))
      go _ e (refusing f g) = e ∙ sym (g (drop 5 s)) ∙ ap (judge_of limit cap) (take-append-drop 5 s)
      go _ e (framing {n = n} o l f g h) = e ∙ sym (spans_on (take 5 s) n f (drop 5 s)) ∙ ap (judge_of limit cap) (take-append-drop 5 s)
