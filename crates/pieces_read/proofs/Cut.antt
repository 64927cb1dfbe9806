-- 02, P10, of every answer that meets the contract of `pieces_read::next`. Assumes nothing.
use Rattle.std.specs.Prelude as std
use mathlib.Core.Path.{◌≡◌, refl, sym, ap, ◌∙◌}
use mathlib.Core.Option.{Option, some}
use mathlib.Core.List.{List, [], ◌∷◌, ◌++◌, map, flatten, append_assoc, append-nil}
use Prim.Native.Nat.{ℕ, zero, suc, ◌+◌, ◌≤◌, ◌<◌}
use native.Mathlib.Omega.{arith}
use lib.ListN.{length, take, drop}
use Rattle.grammar.specs.Sentence.{Packet}
use Rattle.reading.specs.Refusal.{Refusal, Answer}
use Rattle.reading.specs.Reader.{Fit, got}
use Rattle.reading.specs.Place.{Placed, say_answer}
use Rattle.records.specs.AsNumbers.{limit_of}
use Rattle.pieces_rules.specs.Whole.{lacks, list_of}
use Rattle.pieces_rules.specs.Step.{fresh, more, inPiece, inBuffer, stops, Step, step_by, step_of}
use Rattle.pieces_rules.specs.Step as step
use Rattle.pieces_rules.specs.Feed.{Fed, before, once, feed_on, feed_from}
use Rattle.pieces_rules.proofs.Run.{waits, stop, turn_at, nil_lacks, run_list}
use Rattle.pieces_rules.proofs.Feed.{Serves, serves_true, Feeds, feeds, Lists, lists_then}
use Rattle.pieces.specs.PieceAnswer.{told_end, told_state}
use Rattle.pieces.specs.declared.State.{State}
use Rattle.pieces_read.specs.PacketAnswer.{told_answer, told_reply}
use Rattle.pieces_read.specs.declared.Reply.{Reply}
use Rattle.pieces_read.specs.Handed.{Meets, Calls, waiting, stopped, from_piece, from_buffer, Handed, none, next}

-- what calls leave behind
abbrev fed_as : List (Fit (Answer Packet)) → step.State → List ℕ → Fed
fed_as l st b = record { list = l; state = st; buffer = b }

-- a turn of the definition
feed_turn : (limit : Option ℕ) (y : ℕ) (f : List ℕ) (st : step.State) (b p : List ℕ) (o : Step (Answer Placed)) → o ≡ step_of st b p limit
    → feed_from limit (y ∷ f) st b p ≡ feed_on st p o o.gives (λ st' b' p'. feed_from limit f st' b' p')
unfolding feed_from
feed_turn limit y f st b p o e = ap (λ (u : Step (Answer Placed)). feed_on st p u u.gives (λ st' b' p'. feed_from limit f st' b' p')) (sym e)

-- once the stream has ended, a piece lists nothing and alters nothing
feed_over : (limit : Option ℕ) (y : ℕ) (f b p : List ℕ) (i : ℕ) (k : Refusal) → Serves b → i ≤ length b
    → feed_from limit (y ∷ f) (record { held = i; end = some k }) b p ≡ fed_as [] (record { held = i; end = some k }) b
unfolding feed_from step_by
feed_over limit y f b p i k w h = rw (serves_true b i w h)

-- n zeros
zeros : ℕ → List ℕ
zeros zero = []
zeros (suc n) = 0 ∷ zeros n

zeros_length : (n : ℕ) → length (zeros n) ≡ n
unfolding zeros
zeros_length zero = refl
zeros_length (suc n) = ap suc (zeros_length n)

module _ (limit : std.Option ℕ) where
  -- with enough turns the definition goes the same way
  abbrev Bounded : State → List ℕ → List ℕ → Fed → Type 0
  Bounded st b p o = (n : ℕ) × ((f : List ℕ) → n < length f → feed_from (limit_of limit) f (told_state st) b p ≡ o)

  module _ (st : State) (b p b' : List ℕ) (r : Reply) (a : Meets limit st b p r b') where
    -- the call, and what the definition does after it
    turned : (y : ℕ) (f : List ℕ) → feed_from (limit_of limit) (y ∷ f) (told_state st) b p
        ≡ feed_on (told_state st) p (told_reply r b') (told_answer r.answer) (λ st' b' p'. feed_from (limit_of limit) f st' b' p')
    turned y f = feed_turn (limit_of limit) y f (told_state st) b p (told_reply r b') a

    last_waits : told_answer r.answer ≡ more → (f : List ℕ) → 0 < length f → feed_from (limit_of limit) f (told_state st) b p ≡ fed_as [] (told_state r.state) b'
    last_waits e [] h = absurd (omega arith)
    last_waits e (y ∷ f) h = turned y f ∙ rw e

    last_stops : (k : Refusal) → told_answer r.answer ≡ stops k → (f : List ℕ) → 0 < length f → feed_from (limit_of limit) f (told_state st) b p ≡ fed_as (once (told_end st.end) k) (told_state r.state) b'
    last_stops k e [] h = absurd (omega arith)
    last_stops k e (y ∷ f) h = turned y f ∙ rw e

    module _ (x : Answer Placed) (o : Fed) (t : Bounded r.state b' (drop r.used p) o) where
      then_piece : told_answer r.answer ≡ inPiece x → (f : List ℕ) → suc t.0 < length f → feed_from (limit_of limit) f (told_state st) b p ≡ before (say_answer p x) o
      then_piece e [] h = absurd (omega arith)
      then_piece e (y ∷ f) h = turned y f ∙ rw e (ap (before (say_answer p x)) (t.1 f (omega arith)))

      then_buffer : told_answer r.answer ≡ inBuffer x → (f : List ℕ) → suc t.0 < length f → feed_from (limit_of limit) f (told_state st) b p ≡ before (say_answer b' x) o
      then_buffer e [] h = absurd (omega arith)
      then_buffer e (y ∷ f) h = turned y f ∙ rw e (ap (before (say_answer b' x)) (t.1 f (omega arith)))

  calls_feed : {st st' : State} {b p b' : List ℕ} {l : List (Fit (Answer Packet))} → Calls limit st b p l st' b' → Bounded st b p (fed_as l (told_state st') b')
  calls_feed (waiting {st = st} {b = b} {p = p} {b' = b'} r a e) = (0, last_waits st b p b' r a e)
  calls_feed (stopped {st = st} {b = b} {p = p} {b' = b'} r k a e) = (0, last_stops st b p b' r a k e)
  calls_feed (from_piece {st = st} {b = b} {p = p} {b' = b'} r x a e c) = let t = calls_feed c in (suc t.0, then_piece st b p b' r a x _ t e)
  calls_feed (from_buffer {st = st} {b = b} {p = p} {b' = b'} r x a e c) = let t = calls_feed c in (suc t.0, then_buffer st b p b' r a x _ t e)

  -- the piece is a run too: turns enough for the definition and for the calls
  calls_runs : (b p : List ℕ) (i : ℕ) (st : State) (o : Fed) → Bounded st b p o → told_state st ≡ step.waiting i → Serves b → i ≤ length b → turn_at (limit_of limit) (length b) (take i b) ≡ lacks → Feeds (limit_of limit) b p (take i b) o
  calls_runs b p i st o (n, g) e w h t =
      let f : List ℕ = zeros (suc (n + length p)) in
      let q : feed_from (limit_of limit) f (step.waiting i) b p ≡ o = rw e at (g f (omega (arith, zeros_length (suc (n + length p))))) in
      rw q at (feeds (limit_of limit) f b p i w h t (omega (arith, zeros_length (suc (n + length p)))))

  -- once the stream has ended, nothing is listed
  handed_over : {st : State} {b : List ℕ} {ps : List (List ℕ)} {l : List (Fit (Answer Packet))} → Handed limit st b ps l → (i : ℕ) (k : Refusal) → told_state st ≡ record { held = i; end = some k } → Serves b → i ≤ length b → l ≡ []
  handed_over none i k e w h = refl
  handed_over (next {st = st} {st' = st'} {b = b} {b' = b'} {p = p} {l = l} {m = m} c d) i k e w h =
      let (n, g) = calls_feed c in
      let q : feed_from (limit_of limit) (0 ∷ zeros n) (record { held = i; end = some k }) b p ≡ fed_as l (told_state st') b' = rw e at (g (0 ∷ zeros n) (omega (arith, zeros_length n))) in
      let r : fed_as [] (record { held = i; end = some k }) b ≡ fed_as l (told_state st') b' = sym (feed_over (limit_of limit) 0 (zeros n) b p i k w h) ∙ q in
      let r₁ : [] ≡ l = ap (λ (u : Fed). u.list) r in
      let r₂ : told_state st' ≡ record { held = i; end = some k } = sym (ap (λ (u : Fed). u.state) r) in
      let r₃ : b ≡ b' = ap (λ (u : Fed). u.buffer) r in
      let v : m ≡ [] = handed_over d i k r₂ (rw r₃ at w) (rw r₃ at h) in
      rw (← r₁, v)

  -- what is listed is a run of what waited and the pieces
  handed_lists : {st : State} {b : List ℕ} {ps : List (List ℕ)} {l : List (Fit (Answer Packet))} → Handed limit st b ps l → (i : ℕ) → told_state st ≡ step.waiting i → Serves b → i ≤ length b
      → turn_at (limit_of limit) (length b) (take i b) ≡ lacks → Lists (limit_of limit) (take i b) ps l (length b)
  unfolding flatten
  handed_lists (none {b = b}) i e w h t = ([], waits (take i b), rw (append-nil (take i b)) (stop t), refl)
  handed_lists (next {st = st} {st' = st'} {b = b} {b' = b'} {p = p} {ps = ps} {l = l} {m = m} c d) i e w h t =
      let r = calls_runs b p i st (fed_as l (told_state st') b') (calls_feed c) e w h t in
      rw r.says
      (lists_then (limit_of limit) b p (take i b) ps w (told_state st') b' r.same m (λ j q w' h' t'. handed_lists d j q w' h' t') (λ j k q w' h'. handed_over d j k q w' h') r.list r.left r.runs r.holds)

  -- 02, P10: "While one limit and one buffer serve and nobody else writes the buffer, however the stream is cut, pieces of no bytes included, the list of
  -- records, refusals and taken counts equals that of reading the whole stream frame by frame"
  pub cut_alike : {st : State} {b : List ℕ} {ps : List (List ℕ)} {l : List (Fit (Answer Packet))} → told_state st ≡ fresh → Serves b → Handed limit st b ps l
      → l ≡ map got (list_of (limit_of limit) (length b) (flatten ps))
  cut_alike {b = b} e w d =
      let (m, o, r, v) = handed_lists d 0 e w (omega arith) (nil_lacks (limit_of limit) (length b)) in
      v ∙ ap (map got) (sym (run_list (limit_of limit) (length b) w.0 r))

  -- the pieces up to one of them, and those after it
  handed_front : (ps qs : List (List ℕ)) {st : State} {b : List ℕ} {l : List (Fit (Answer Packet))} → Handed limit st b (ps ++ qs) l
      → (m : List (Fit (Answer Packet))) × (o : List (Fit (Answer Packet))) × (l ≡ m ++ o) × Handed limit st b ps m
  handed_front [] qs {l = l} d = ([], l, refl, none)
  handed_front (p ∷ ps) qs (next {l = l} c d) =
      let (m, o, e, h) = handed_front ps qs d in
      (l ++ m, o, ap (λ (u : List (Fit (Answer Packet))). l ++ u) e ∙ sym (append_assoc l m o), next c h)

  -- 02, P10: "Each answer is given while the piece that completes it is taken in, never later": once the pieces ps are taken in, the list has every answer
  -- that their bytes complete
  pub in_time : {st : State} {b : List ℕ} (ps qs : List (List ℕ)) {l : List (Fit (Answer Packet))} → told_state st ≡ fresh → Serves b → Handed limit st b (ps ++ qs) l
      → (m : List (Fit (Answer Packet))) × (o : List (Fit (Answer Packet))) × (l ≡ m ++ o) × Handed limit st b ps m × (m ≡ map got (list_of (limit_of limit) (length b) (flatten ps)))
  in_time ps qs e w d = let (m, o, i, h) = handed_front ps qs d in (m, o, i, h, cut_alike e w h)
