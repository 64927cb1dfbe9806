-- 02, P10: whatever answers meet the contract of `pieces_read::next`, the calls for a piece come to an end; what one call does to the piece and
-- the buffer. Assumes nothing.
use Rattle.std.specs.Prelude as std
use mathlib.Core.Path.{◌≡◌, refl, sym, ap, ◌∙◌, subst}
use mathlib.Core.Bool.{Bool, true, false}
use mathlib.Core.Option.{Option, some}
use mathlib.Core.Option as option
use mathlib.Core.List.{List, [], ◌∷◌, ◌++◌, append-nil}
use Prim.Native.Nat.{ℕ, zero, suc, ◌≤◌, ◌<◌}
use native.Mathlib.Omega.{arith}
use lib.ListN.{length, take, drop, length-drop, take-append-drop}
use Rattle.grammar.specs.Sentence.{Packet}
use Rattle.reading.specs.Refusal.{Refusal, Answer}
use Rattle.reading.specs.Reader.{Fit}
use Rattle.reading.specs.Place.{Placed, as_places, say_answer}
use Rattle.records.specs.AsNumbers.{limit_of}
use Rattle.pieces_rules.specs.Whole.{Turn, frame, turn_of, answer_as}
use Rattle.pieces_rules.specs.Step.{bad_buffer, fresh, more, inPiece, inBuffer, stops, Step, serves, step_from, step_by, step_of}
use Rattle.pieces_rules.specs.Step as step
use Rattle.pieces_rules.specs.Feed.{once}
use Rattle.pieces_rules.proofs.Seen.{Seen, short, ended, framed, seen}
use Rattle.pieces_rules.proofs.Feed.{Serves, serves_true}
use Rattle.pieces_rules.proofs.Calls.{served, joined_length}
use Rattle.pieces.specs.PieceAnswer.{told_end, told_state}
use Rattle.pieces.specs.declared.State.{State}
use Rattle.pieces_read.specs.PacketAnswer.{told_answer, told_reply}
use Rattle.pieces_read.specs.declared.Reply.{Reply}
use Rattle.pieces_read.specs.Handed.{Meets, Calls, waiting, stopped, from_piece, from_buffer, Handed, none, next}

-- ---- one call

-- where i bytes are held: it gives no frame; or one of the piece, which gets shorter, and the buffer stays; or, if bytes are held, one of the buffer
data Moves (b p : List ℕ) (i : ℕ) (o : Step (Answer Placed)) : Type 0 where
  rests : o.gives ≡ more → Moves b p i o
  halts : (k : Refusal) → o.gives ≡ stops k → Moves b p i o
  piece : (a : Answer Placed) → o.gives ≡ inPiece a → o.state ≡ fresh → o.buffer ≡ b → length (drop o.used p) < length p → Moves b p i o
  buffer : (a : Answer Placed) → o.gives ≡ inBuffer a → o.state ≡ fresh → 0 < i → Moves b p i o

module _ (limit : Option ℕ) (b p : List ℕ) where
  moves_frame : (i n : ℕ) (a : Answer Placed) → 0 < n → (i ≡ 0 → n ≤ length p) → Moves b p i (step_from (step.waiting i) b p (frame a n))
  moves_frame zero n a o l = piece a refl refl refl (rw length-drop (omega (arith, l refl)))
  moves_frame (suc i) n a o l = buffer a refl refl (omega arith)

  abbrev turn : ℕ → Turn (Answer Placed)
  turn i = turn_of (answer_as as_places limit (length b) (take i b ++ p))

  moves_open : (i : ℕ) → 5 ≤ length b → i ≤ length b → Moves b p i (step_from (step.waiting i) b p (turn i))
  moves_open i w h = go (seen limit (length b) w (take i b ++ p))
    where
      go : Seen limit (length b) (take i b ++ p) → Moves b p i (step_from (step.waiting i) b p (turn i))
      go (short l f) = rw (f as_places) (rests refl)
      go (ended {k = k} f) = rw (rw (append-nil (take i b ++ p)) at (f as_places [])) (halts k refl)
      go (framed n a o l c f v) =
          let e : turn i ≡ frame (a as_places) n = rw (take-append-drop n (take i b ++ p)) at (f as_places (drop n (take i b ++ p))) in
          rw e (moves_frame i n (a as_places) o (λ z. omega (arith, joined_length limit b p i h)))

  moves : (i : ℕ) (c : Option Refusal) → Moves b p i (step_of (record { held = i; end = c }) b p limit)
  unfolding step_by
  moves i c = go (serves i (length b)) refl c
    where
      go : (d : Bool) → serves i (length b) ≡ d → (c : Option Refusal) → Moves b p i (step_of (record { held = i; end = c }) b p limit)
      go false d c = rw d (halts bad_buffer refl)
      go true d (some k) = rw d (halts k refl)
      go true d option.none = let (w, u, h) = served i (length b) d in rw d (moves_open i w h)

module _ (limit : std.Option ℕ) (st : State) (b p : List ℕ) (r : Reply) (b' : List ℕ) (a : Meets limit st b p r b') where
  reply_moves : Moves b p st.held (told_reply r b')
  reply_moves = subst (λ (o : Step (Answer Placed)). Moves b p st.held o) (sym a) (moves (limit_of limit) b p st.held (told_end st.end))

  -- a frame that lies in the piece is not copied: the buffer stays as it was
  pub in_place : (x : Answer Placed) → told_answer r.answer ≡ inPiece x → b' ≡ b
  in_place x e = go reply_moves
    where
      no_more : ◌≡◌ {A = step.Gives (Answer Placed)} more (inPiece x) → ⊥
      no_more q = let z : ◌≡◌ {A = ℕ} 0 1 = cc in omega arith

      no_stop : {k : Refusal} → ◌≡◌ {A = step.Gives (Answer Placed)} (stops k) (inPiece x) → ⊥
      no_stop q = let z : ◌≡◌ {A = ℕ} 0 1 = cc in omega arith

      no_buffer : {y : Answer Placed} → ◌≡◌ {A = step.Gives (Answer Placed)} (inBuffer y) (inPiece x) → ⊥
      no_buffer q = let z : ◌≡◌ {A = ℕ} 0 1 = cc in omega arith

      go : Moves b p st.held (told_reply r b') → b' ≡ b
      go (rests g) = absurd (no_more (sym g ∙ e))
      go (halts k g) = absurd (no_stop (sym g ∙ e))
      go (piece y g s q l) = q
      go (buffer y g s o) = absurd (no_buffer (sym g ∙ e))

  -- and with nothing held, no frame is given in the buffer
  pub none_copied : st.held ≡ 0 → (x : Answer Placed) → told_answer r.answer ≡ inBuffer x → ⊥
  none_copied h x e = go reply_moves
    where
      no_more : ◌≡◌ {A = step.Gives (Answer Placed)} more (inBuffer x) → ⊥
      no_more q = let z : ◌≡◌ {A = ℕ} 0 1 = cc in omega arith

      no_stop : {k : Refusal} → ◌≡◌ {A = step.Gives (Answer Placed)} (stops k) (inBuffer x) → ⊥
      no_stop q = let z : ◌≡◌ {A = ℕ} 0 1 = cc in omega arith

      no_piece : {y : Answer Placed} → ◌≡◌ {A = step.Gives (Answer Placed)} (inPiece y) (inBuffer x) → ⊥
      no_piece q = let z : ◌≡◌ {A = ℕ} 0 1 = cc in omega arith

      go : Moves b p st.held (told_reply r b') → ⊥
      go (rests g) = no_more (sym g ∙ e)
      go (halts k g) = no_stop (sym g ∙ e)
      go (piece y g s q l) = no_piece (sym g ∙ e)
      go (buffer y g s o) = omega arith

  -- 02, P10: "later pieces repeat that refusal"; nothing is used up, and state and buffer stay
  pub repeats : (k : Refusal) → told_end st.end ≡ some k → Serves b → st.held ≤ length b
      → (told_answer r.answer ≡ stops k) × (r.used ≡ 0) × (told_state r.state ≡ told_state st) × (b' ≡ b)
  unfolding step_by
  repeats k e w h =
      let q : told_reply r b' ≡ step.refuses (told_state st) b p k = a ∙ rw (serves_true b st.held w h, e) in
      (ap (λ (o : Step (Answer Placed)). o.gives) q, ap (λ (o : Step (Answer Placed)). o.used) q, ap (λ (o : Step (Answer Placed)). o.state) q, ap (λ (o : Step (Answer Placed)). o.buffer) q)

-- ---- all calls

-- lists that can be lent, as a slice can: the rest of one is one; and answers to all of them, the buffer afterwards among them
module _ (limit : std.Option ℕ) (Lent : List ℕ → Type 0) (rest : (n : ℕ) (p : List ℕ) → Lent p → Lent (drop n p))
    (answers : (st : State) (b p : List ℕ) → Lent b → Lent p → (r : Reply) × (b' : List ℕ) × Meets limit st b p r b' × Lent b') where
  -- a transcript of the calls for a piece
  abbrev pub Ended : State → List ℕ → List ℕ → Type 0
  Ended st b p = (l : List (Fit (Answer Packet))) × (st' : State) × (b' : List ℕ) × Calls limit st b p l st' b' × Lent b'

  module _ (st : State) (b p : List ℕ) (r : Reply) (b' : List ℕ) (a : Meets limit st b p r b') (x : Lent b') where
    -- the calls that follow, where some do
    then_ended : (0 < st.held → told_state r.state ≡ fresh → Ended r.state b' (drop r.used p))
        → (length (drop r.used p) < length p → told_state r.state ≡ fresh → Ended r.state b' (drop r.used p)) → Moves b p st.held (told_reply r b') → Ended st b p
    then_ended f g (rests e) = ([], r.state, b', waiting r a e, x)
    then_ended f g (halts k e) = (once (told_end st.end) k, r.state, b', stopped r k a e, x)
    then_ended f g (piece y e s q l) = let (m, st'', b'', c, x'') = g l s in (say_answer p y ∷ m, st'', b'', from_piece r y a e c, x'')
    then_ended f g (buffer y e s o) = let (m, st'', b'', c, x'') = f o s in (say_answer b' y ∷ m, st'', b'', from_buffer r y a e c, x'')

  held_none : (st : State) → told_state st ≡ fresh → st.held ≡ 0
  held_none st e = ap (λ (u : step.State). u.held) e

  ended_fresh : (n : ℕ) (st : State) (b p : List ℕ) → Lent b → Lent p → told_state st ≡ fresh → length p < n → Ended st b p
  ended_fresh zero st b p x y e l = absurd (omega arith)
  ended_fresh (suc n) st b p x y e l =
      let (r, b', a, x') = answers st b p x y in
      then_ended st b p r b' a x' (λ o s. absurd (omega (arith, held_none st e))) (λ d s. ended_fresh n r.state b' (drop r.used p) x' (rest r.used p y) s (omega arith)) (reply_moves limit st b p r b' a)

  -- the calls for any piece, whatever the state
  pub calls_end : (st : State) (b p : List ℕ) → Lent b → Lent p → Ended st b p
  calls_end st b p x y =
      let (r, b', a, x') = answers st b p x y in
      let q : List ℕ = drop r.used p in
      then_ended st b p r b' a x' (λ o s. ended_fresh (suc (length q)) r.state b' q x' (rest r.used p y) s (omega arith)) (λ d s. ended_fresh (suc (length q)) r.state b' q x' (rest r.used p y) s (omega arith)) (reply_moves limit st b p r b' a)

  abbrev pub AllLent : List (List ℕ) → Type 0
  AllLent [] = Unit {0}
  AllLent (p ∷ ps) = Lent p × AllLent ps

  -- and for all pieces, one after the other
  pub pieces_end : (ps : List (List ℕ)) (st : State) (b : List ℕ) → Lent b → AllLent ps → (l : List (Fit (Answer Packet))) × Handed limit st b ps l
  pieces_end [] st b x y = ([], none)
  pieces_end (p ∷ ps) st b x (y, ys) =
      let (l, st', b', c, x') = calls_end st b p x y in
      let (m, d) = pieces_end ps st' b' x' ys in
      (l ++ m, next c d)
