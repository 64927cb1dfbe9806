-- A header, read where it stands or from its first five bytes, decides what a call gives; and what a put leaves in the buffer. Assumes nothing.
use Rattle.std.specs.Prelude as std
use Rattle.std.specs.Prelude.{Some, None, Result, Err, IsErrAnd}
use Rattle.std.specs.Option.{is_some}
use Rattle.std.proofs.lemmas.Result.{err_from_is_err_and}
use mathlib.Core.Path.{◌≡◌, refl, sym, ap, ◌∙◌}
use mathlib.Core.Bool.{Bool, true, false, cond, false≢true}
use mathlib.Core.Option.{Option, none, some}
use mathlib.Core.List.{List, [], ◌∷◌, ◌++◌}
use Prim.Native.Nat.{ℕ, suc, ◌+◌, ◌-◌, ◌≤◌, ◌<◌, min}
use native.Mathlib.Omega.{arith}
use lib.Dec.{leb, ltb}
use lib.ListN.{length, take, drop, length-drop, length-take, set, length-set}
use lib.Seq.{sets, length-sets, take-nil, length-take-le, take-take, take-append-le, take-append-add}
use borrow.Author.Tests.{lt-ltb, le-ltb, leb-true, leb-false, eq-eqb, ne_eqb}
use Rattle.reading.specs.Refusal.{Refusal, nr, within, over, passes, exceeds}
use Rattle.reading.specs.Reader.{Fit, got, bad, ◌>>=◌, ◌>>◌, guard, only_by_of, then_of}
use Rattle.reading.specs.Read.{byte_of, num_of}
use Rattle.reading.proofs.Reading.{bad_got}
use Rattle.positions.specs.Position.{from_at}
use Rattle.positions.proofs.Position.{bad_left}
use Rattle.records.specs.AsNumbers.{row_of, told_error}
use Rattle.records.specs.declared.error.Error.{Error}
use Rattle.framing.specs.HeaderRead.{header_of, limited_to}
use Rattle.framing.proofs.Laws.{behind_first, header_within, header_left, frame_count}
use Rattle.write_bytes.proofs.Laws.{sets_out}
use Rattle.pieces_rules.specs.Whole.{frame_too_long, header_under, frame_bytes, lacks, frame}
use Rattle.pieces_rules.specs.Step.{bad_buffer, State, waiting, fresh, more, inPiece, inBuffer, Step, serves, refuses, step_from, step_by, called, found_of}
use Rattle.pieces_rules.specs.Judge.{Judge, unknown, forbids, spans, judged, judge_of}
use Rattle.pieces_rules.proofs.Head.{bad_inj}
use Rattle.pieces_rules.proofs.Says.{unknown_short, judge_front}
use Rattle.pieces_rules.proofs.Feed.{put_front}
use Rattle.pieces_rules.proofs.Calls.{from_buffer_lem, joined_length, call_piece}
use Rattle.pieces.specs.PieceAnswer.{told_end, told_judged, WholeIn}
use Rattle.pieces.specs.declared.Stop.{Stop}

-- ---- the header, as `framing` reads it

-- the limit, where n bytes stand behind the first
abbrev passed : Option ℕ → ℕ → (ℕ × ℕ) × List ℕ → Fit ((ℕ × ℕ) × List ℕ)
passed limit n z = guard (passes limit z.0.1 (n - length z.1)) (exceeds limit z.0.1 (n - length z.1)) >> got z

header_limited : (limit : Option ℕ) (s : List ℕ) → header_under limit s ≡ (header_of s >>= passed limit (behind_first s))
unfolding header_under then_of byte_of only_by_of
header_limited limit [] = refl
header_limited limit (x ∷ t) = go (num_of (nr 1 (1 ∷ [])) 4 t)
  where
    behind : ℕ × List ℕ → Fit ((ℕ × ℕ) × List ℕ)
    behind y = got ((x, y.0), y.1)

    under : ℕ × List ℕ → Fit (ℕ × List ℕ)
    under z = guard (passes limit z.0 (length t - length z.1)) (exceeds limit z.0 (length t - length z.1)) >> got (z.0, z.1)

    test : (b : Bool) (k : Refusal) (z : ℕ × List ℕ) → ((guard b k >> got (z.0, z.1)) >>= behind) ≡ (guard b k >> got ((x, z.0), z.1))
    test true k z = refl
    test false k z = refl

    go : (m : Fit (ℕ × List ℕ)) → ((m >>= under) >>= behind) ≡ ((m >>= behind) >>= passed limit (length t))
    go (bad k) = refl
    go (got z) = test (passes limit z.0 (length t - length z.1)) (exceeds limit z.0 (length t - length z.1)) z

judged_over : (cap : ℕ) (s : List ℕ) (limit : Option ℕ) (l : ℕ) → judged cap s (bad (over limit l)) ≡ forbids (over limit l)
unfolding over
judged_over cap s none l = refl
judged_over cap s (some m) l = refl

module _ (limit : Option ℕ) (cap : ℕ) (s : List ℕ) where
  header_bad : (e : Refusal) → bad e ≡ from_at header_of s 0 → header_under limit s ≡ bad e
  header_bad e i = header_limited limit s ∙ rw (bad_left header_of s 0 e (sym i))

  -- 1: the header lacks bytes
  pub judge_unknown : (e : Refusal) → bad e ≡ from_at header_of s 0 → row_of e ≡ 1 → unknown ≡ judge_of limit cap s
  unfolding judge_of
  judge_unknown (nr k vs) i t = rw (header_bad (nr k vs) i, eq-eqb k 1 t)

  -- 2
  pub judge_malformed : (e : Refusal) → bad e ≡ from_at header_of s 0 → (row_of e ≡ 1 → ⊥) → forbids e ≡ judge_of limit cap s
  unfolding judge_of
  judge_malformed (nr k vs) i t = rw (header_bad (nr k vs) i, ne_eqb k 1 t)

  module _ (x l m : ℕ) (i : got ((x, l), m) ≡ from_at header_of s 0) where
    header_spans : frame_bytes s ((x, l), drop m s) ≡ m + l
    header_spans = omega (arith, length-drop m s, header_within s x l m i)

    -- 3
    pub judge_exceeded : (e : Refusal) → bad e ≡ limited_to limit (m + l) ((x, l), m) → forbids e ≡ judge_of limit cap s
    unfolding judge_of
    judge_exceeded e j = go (within limit (m + l)) refl
      where
        go : (b : Bool) → within limit (m + l) ≡ b → forbids e ≡ judge_of limit cap s
        go true w = absurd (bad_got (rw w at j))
        go false w =
            let q : e ≡ over limit (m + l) = bad_inj (rw w at j) in
            rw (q, header_limited limit s, header_left limit s x l m i, frame_count limit s x l m i, w) (sym (judged_over cap s limit (m + l)))

    -- the header passes: then the buffer
    judge_passed : (z : (ℕ × ℕ) × ℕ) → got z ≡ limited_to limit (m + l) ((x, l), m) → judge_of limit cap s ≡ cond (ltb cap (m + l)) (forbids frame_too_long) (spans (m + l))
    unfolding judge_of
    judge_passed z j = go (within limit (m + l)) refl
      where
        go : (b : Bool) → within limit (m + l) ≡ b → judge_of limit cap s ≡ cond (ltb cap (m + l)) (forbids frame_too_long) (spans (m + l))
        go true w = rw (header_limited limit s, header_left limit s x l m i, frame_count limit s x l m i, w, header_spans)
        go false w = absurd (bad_got (sym (rw w at j)))

    pub judge_long : (z : (ℕ × ℕ) × ℕ) → got z ≡ limited_to limit (m + l) ((x, l), m) → cap < m + l → forbids frame_too_long ≡ judge_of limit cap s
    judge_long z j c = sym (judge_passed z j ∙ rw (lt-ltb cap (m + l) c))

    pub judge_spans : (z : (ℕ × ℕ) × ℕ) → got z ≡ limited_to limit (m + l) ((x, l), m) → m + l ≤ cap → spans (m + l) ≡ judge_of limit cap s
    judge_spans z j c = sym (judge_passed z j ∙ rw (le-ltb cap (m + l) c))

-- 1 is the number of a frame that lacks bytes, and of no other refusal
pub other_row : (e : Error) → ((n : ℕ) → e ≡ Error.InsufficientBytes n → ⊥) → row_of (told_error e) ≡ 1 → ⊥
other_row (Error.InsufficientBytes n) h e = h n refl
other_row Error.MalformedRemainingLength h e = omega (arith, e)
other_row (Error.PayloadSizeLimitExceeded m n) h e = omega (arith, e)
other_row (Error.InvalidPacketType n) h e = omega (arith, e)
other_row Error.PayloadRequired h e = omega (arith, e)
other_row (Error.KindNotCarried n) h e = omega (arith, e)
other_row Error.MalformedPacket h e = omega (arith, e)
other_row (Error.BoundaryCrossed n) h e = omega (arith, e)
other_row Error.TopicNotUtf8 h e = omega (arith, e)
other_row (Error.InvalidPropertyType n) h e = omega (arith, e)
other_row (Error.InvalidQoS n) h e = omega (arith, e)
other_row Error.PacketIdZero h e = omega (arith, e)
other_row Error.EmptySubscription h e = omega (arith, e)
other_row (Error.InvalidRetainForwardRule n) h e = omega (arith, e)
other_row (Error.InvalidReason n) h e = omega (arith, e)
other_row (Error.OutgoingPacketTooLarge m n) h e = omega (arith, e)
other_row Error.PayloadTooLong h e = omega (arith, e)
other_row (Error.StringTooLong n) h e = omega (arith, e)
other_row (Error.NoRoom n) h e = omega (arith, e)
other_row Error.ListMismatch h e = omega (arith, e)
other_row Error.NoItem h e = omega (arith, e)
other_row (Error.DuplicateProperty n) h e = omega (arith, e)
other_row Error.SubscriptionIdZero h e = omega (arith, e)

-- the refusal e of a header leaves by a `?`, as the answer r, which tells what e tells
pub header_on : (r : Result (std.Option ℕ) Stop) (e : Error) {j : Judge} → IsErrAnd r (λ k. k ≡ Stop.Header e) → forbids (told_error e) ≡ j → told_judged r ≡ j
header_on r e i h = let p = err_from_is_err_and r i in ap told_judged (p.1 ∙ ap Err p.2) ∙ h

-- ---- the first five bytes, put together

-- what would lie past the end is not stored
sets_cut : (q l : List ℕ) (i : ℕ) → sets l i q ≡ sets l i (take (length l - i) q)
sets_cut [] l i = rw (take-nil {A = ℕ} (length l - i))
sets_cut (x ∷ q) l i = go (leb (length l) i) refl (sets_cut q (set l i x) (suc i))
  where
    go : (b : Bool) → leb (length l) i ≡ b → sets (set l i x) (suc i) q ≡ sets (set l i x) (suc i) (take (length (set l i x) - suc i) q) → sets l i (x ∷ q) ≡ sets l i (take (length l - i) (x ∷ q))
    go true h ih = let z : length l - i ≡ 0 = omega (arith, leb-true (length l) i h) in rw z (sym (sets_out (x ∷ q) l i (leb-true (length l) i h)))
    go false h ih =
        let z : length l - i ≡ suc (length l - suc i) = omega (arith, leb-false (length l) i h) in
        rw z (rw (length-set l i x) at ih)

module _ (z b p : List ℕ) (i : ℕ) (w : length z ≡ 5) (h : i < 5) (o : i ≤ length b) where
  head_joined : (n : ℕ) → n ≡ i + min (length p) (5 - i) → take n (sets (sets z 0 (take i b)) i p) ≡ take 5 (take i b ++ p)
  head_joined n m =
      let u : List ℕ = take i b in
      let l : List ℕ = sets z 0 u in
      let q : List ℕ = take (5 - i) p in
      let i₁ : length u ≡ i = length-take-le i b o in
      let i₂ : length l ≡ 5 = length-sets z 0 u ∙ w in
      let i₃ : length q ≡ min (5 - i) (length p) = length-take (5 - i) p in
      let i₄ : length u + (5 - i) ≡ 5 = omega arith in
      let i₀ : 0 + length u ≡ i = omega arith in
      let f : take i l ≡ u = rw i₀ at (put_front z u 0 (omega arith)) in
      let c : sets l i p ≡ sets l i q = sets_cut p l i ∙ ap (λ (k : ℕ). sets l i (take (k - i) p)) i₂ in
      let n₁ : n ≡ i + length q = omega arith in
      rw (n₁, c) (put_front l q i (omega arith) ∙ ap (λ (v : List ℕ). v ++ q) f ∙ sym (rw i₄ at (take-append-add u p (5 - i))))

-- z is what the bytes are put into, one after the other
module _ (limit : Option ℕ) (cap i n : ℕ) (b p : List ℕ) (z : List ℕ) {z₁ z₂ : List ℕ} (w : length z ≡ 5) (e₁ : z₁ ≡ sets z 0 (take i b)) (e₂ : z₂ ≡ sets z₁ i p)
    (h : i < 5) (o : i ≤ length b) (m : n ≡ i + min (length p) (5 - i)) where
  pub head_count : n ≡ length (take n z₂)
  head_count =
      let l : length z₂ ≡ 5 = ap length e₂ ∙ length-sets z₁ i p ∙ ap length e₁ ∙ length-sets z 0 (take i b) ∙ w in
      sym (length-take-le n z₂ (omega arith))

  pub judge_joined : {j : Judge} → j ≡ judge_of limit cap (take n z₂) → j ≡ judge_of limit cap (take i b ++ p)
  judge_joined e = e ∙ ap (λ (l : List ℕ). judge_of limit cap (take n l)) (e₂ ∙ ap (λ (l : List ℕ). sets l i p) e₁) ∙ ap (judge_of limit cap) (head_joined z b p i w h o n m) ∙ judge_front limit cap (take i b ++ p)

-- five bytes are held, or more
pub judge_five : (limit : Option ℕ) (cap : ℕ) (b p : List ℕ) (i : ℕ) → 5 ≤ i → i ≤ length b → {j : Judge} → j ≡ judge_of limit cap (take 5 b) → j ≡ judge_of limit cap (take i b ++ p)
judge_five limit cap b p i h o e =
    let m : 5 ≤ length (take i b) = rw (length-take-le i b o) h in
    e ∙ ap (judge_of limit cap) (sym (take-append-le 5 (take i b) p m ∙ take-take 5 i b h)) ∙ judge_front limit cap (take i b ++ p)

-- ---- the call

module _ (b p : List ℕ) (i : ℕ) where
  pub kept : {b' : List ℕ} → b' ≡ sets b i p → ◌≡◌ {A = Step ℕ} (record { gives = more; used = length p; state = waiting (i + length p); buffer = b' }) (step_from (waiting i) b p lacks)
  kept e = rw e

  pub completed : (f n : ℕ) {b' : List ℕ} {st : State} → 0 < i → n ≡ f - i → b' ≡ sets b i (take n p) → st ≡ fresh
      → ◌≡◌ {A = Step ℕ} (record { gives = inBuffer f; used = n; state = st; buffer = b' }) (step_from (waiting i) b p (frame f f))
  completed f n h m e d = rw (e, d, m) (from_buffer_lem b p f f i h)

  module _ (limit : Option ℕ) where
    pub whole_piece : (f n : ℕ) {st : State} → i ≡ 0 → spans f ≡ judge_of limit (length b) (take i b ++ p) → n ≡ f - i → n ≤ length p → st ≡ fresh
        → ◌≡◌ {A = Step ℕ} (record { gives = inPiece f; used = n; state = st; buffer = b }) (called limit b p i)
    whole_piece f n z e m l d =
        let k : n ≡ f = omega arith in
        let e' : spans f ≡ judge_of limit (length b) p = rw z at e in
        rw (d, k, z) (call_piece limit b p f e' (omega arith))

    pub open_room : unknown ≡ judge_of limit (length b) (take i b ++ p) → i ≤ length b → 5 ≤ length b → i + length p ≤ length b
    open_room e h o = omega (arith, unknown_short limit (length b) (take i b ++ p) e, joined_length limit b p i h)

-- the state st before the call
module _ (st : State) (b p : List ℕ) (limit : Option ℕ) where
  pub refused_buffer : serves st.held (length b) ≡ false → refuses st b p bad_buffer ≡ found_of st b p limit
  unfolding step_by
  refused_buffer s = rw s

  module _ (s : serves st.held (length b) ≡ true) where
    pub refused_again : (k : Refusal) → st.end ≡ some k → refuses st b p k ≡ found_of st b p limit
    unfolding step_by
    refused_again k e = rw (s, e)

    pub goes_on : st.end ≡ none → {o : Step ℕ} → o ≡ called limit b p st.held → o ≡ found_of st b p limit
    unfolding step_by
    goes_on e q = rw (s, e) q

-- ---- a frame that is whole in the piece

pub no_frame_lem : {A : Type 0} → 0 < 0 → A
no_frame_lem h = absurd (omega arith)

pub under : (limit : Option ℕ) (f : ℕ) → within limit f ≡ true → 0 < f → (f ≡ f) × (within limit f ≡ true)
under limit f w h = (refl, w)

pub whole : (limit : Option ℕ) (f n cap r : ℕ) → f ≤ n → f ≤ cap → serves 0 cap ≡ true → (0 < r → (r ≡ f) × (within limit f ≡ true))
    → 0 < r → (r ≡ f) × (f ≤ n) × (f ≤ cap) × (serves 0 cap ≡ true) × (within limit f ≡ true)
whole limit f n cap r a b s w h = ((w h).0, a, b, s, (w h).1)

pub whole_in_lem : (limit : Option ℕ) (cap : ℕ) (s : List ℕ) (x l m : ℕ) → got ((x, l), m) ≡ from_at header_of s 0 → (r : ℕ)
    → (0 < r → (r ≡ m + l) × (m + l ≤ length s) × (m + l ≤ cap) × (serves 0 cap ≡ true) × (within limit (m + l) ≡ true)) → WholeIn limit cap s r
whole_in_lem limit cap s x l m i r w h =
    let y = w h in
    (y.3, rw y.0 y.1, rw y.0 (judge_spans limit cap s x l m i ((x, l), m) (rw y.4) y.2))

-- where nothing has ended the stream
pub not_ended : (o : std.Option Stop) → is_some o ≡ false → told_end o ≡ none
not_ended None e = refl
not_ended (Some k) e = absurd (false≢true (sym e))

pub is_fresh : {i : ℕ} {e : Option Refusal} → i ≡ 0 → e ≡ none → ◌≡◌ {A = State} (record { held = i; end = e }) fresh
is_fresh p q = rw (p, q)

pub from_fresh : (limit : Option ℕ) (cap : ℕ) (s : List ℕ) (r : ℕ) {st : State} → st ≡ fresh → WholeIn limit cap s r → 0 < r → (st ≡ fresh) × WholeIn limit cap s r
from_fresh limit cap s r e w h = (e, w)

pub found_whole : (st : State) (b p : List ℕ) (limit : Option ℕ) (f : ℕ) {st' : State} → 0 < f → (0 < f → (st ≡ fresh) × WholeIn limit (length b) p f) → st' ≡ fresh
    → ◌≡◌ {A = Step ℕ} (record { gives = inPiece f; used = f; state = st'; buffer = b }) (found_of st b p limit)
found_whole st b p limit f h w d =
    let e : st ≡ fresh = (w h).0 in
    let y = (w h).1 h in
    rw e (goes_on fresh b p limit y.0 refl (whole_piece b p 0 limit f f refl y.2 (omega arith) y.1 d))
