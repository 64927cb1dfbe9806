-- 02, P10: however the stream is cut, the list is that of the whole stream. Assumes nothing.
use mathlib.Core.Path.{◌≡◌, refl, sym, ap, ◌∙◌}
use mathlib.Core.Bool.{Bool, true, false}
use mathlib.Core.Option.{Option, some}
use mathlib.Core.List.{List, [], ◌∷◌, ◌++◌, map, flatten, append_assoc, append-nil}
use Prim.Native.Nat.{ℕ, zero, suc, ◌+◌, ◌-◌, ◌≤◌, ◌<◌}
use native.Mathlib.Omega.{arith}
use lib.Dec.{leb}
use lib.ListN.{length, take, drop, length-append, length-drop, take-append-drop}
use lib.Seq.{sets, length-sets, sets-eq, length-take-le, take-append-le, take-append-add, drop-append-add, take_at}
use borrow.Author.Tests.{le-leb, leb-true, leb-false}
use Rattle.grammar.specs.Sentence.{Packet}
use Rattle.reading.specs.Refusal.{Refusal, Answer, refused_as}
use Rattle.reading.specs.Reader.{Fit, got}
use Rattle.grammar.specs.Record.{PacketOf}
use Rattle.reading.specs.Read.{Shape, as_bytes}
use Rattle.reading.specs.Place.{as_places, say_answer}
use Rattle.pieces_rules.specs.Whole.{lacks, ends, frame, list_of, answer_as, turn_of}
use Rattle.pieces_rules.specs.Step.{State, waiting, fresh, serves, step_from, step_by, step_of}
use Rattle.pieces_rules.specs.Feed.{Fed, feed_from, feed, feed_all}
use Rattle.pieces_rules.proofs.Seen.{Seen, short, ended, framed, seen}
use Rattle.pieces_rules.proofs.Run.{Left, waits, over, Runs, stop, end, next, turn_at, nil_lacks, no_frame_lem, run_waits, run_on, run_over, run_list}

-- 02, P10: "a lent buffer of 5 to 65,536 bytes"
abbrev pub Serves : List ℕ → Type 0
Serves b = (5 ≤ length b) × (length b ≤ 65536)

-- what is left of the stream is what the state and the buffer say
abbrev pub Holds : Left → State → List ℕ → Type 0
Holds (waits h) st b = (i : ℕ) × (st ≡ waiting i) × (i ≤ length b) × (take i b ≡ h)
Holds (over k) st b = (i : ℕ) × (st ≡ record { held = i; end = some k }) × (i ≤ length b)

pub serves_true : (b : List ℕ) (i : ℕ) → Serves b → i ≤ length b → serves i (length b) ≡ true
unfolding serves
serves_true b i (l, u) h = rw (le-leb 5 (length b) l, le-leb (length b) 65536 u, le-leb i (length b) h)

-- what is put behind the first i bytes
pub put_front : (b q : List ℕ) (i : ℕ) → i + length q ≤ length b → take (i + length q) (sets b i q) ≡ take i b ++ q
put_front b q i h =
    let n : length (take i b ++ q) ≡ i + length q = rw (length-append (take i b) q, length-take-le i b (omega arith)) in
    let e : sets b i q ≡ (take i b ++ q) ++ drop (i + length q) b = sets-eq q b i h in
    ap (take (i + length q)) e ∙ take_at (take i b ++ q) (drop (i + length q) b) (i + length q) n

module _ (limit : Option ℕ) where
  -- one call while the stream goes on
  step_open : (b p : List ℕ) (i : ℕ) → Serves b → i ≤ length b → step_of (waiting i) b p limit ≡ step_from (waiting i) b p (turn_of (answer_as as_places limit (length b) (take i b ++ p)))
  unfolding step_by
  step_open b p i w h = rw (serves_true b i w h)

  pub runs_at : {c d : ℕ} {s u : List ℕ} {l : List (Answer Packet)} {e : Left} → c ≡ d → s ≡ u → Runs limit c s l e → Runs limit d u l e
  runs_at i j r = rw (i, j) at r

  -- what the calls for a piece list and leave behind is a run of what waited and the piece
  pub record Feeds (b p h : List ℕ) (f : Fed) : Type 0 where
    pub list : List (Answer Packet)
    pub left : Left
    pub runs : Runs limit (length b) (h ++ p) list left
    pub says : f.list ≡ map got list
    pub holds : Holds left f.state f.buffer
    pub same : length f.buffer ≡ length b

  -- a call that goes on starts with nothing held
  abbrev Onward : List ℕ → Type 0
  Onward f = (b p : List ℕ) → Serves b → length p < length f → Feeds b p [] (feed_from limit f fresh b p)

  module _ (y : ℕ) (f b p : List ℕ) (i : ℕ) (w : Serves b) (h : i ≤ length b) where
    held_length : length (take i b ++ p) ≡ i + length p
    held_length = rw (length-append (take i b) p, length-take-le i b h)

    feeds_short : length (take i b ++ p) < length b → ((g : Shape) → turn_of (answer_as g limit (length b) (take i b ++ p)) ≡ lacks) → Feeds b p (take i b) (feed_from limit (y ∷ f) (waiting i) b p)
    unfolding feed_from
    feeds_short l e =
        let o : i + length p ≤ length b = omega (arith, held_length) in
        rw (step_open b p i w h, e as_places) (record {
          list = [];
          left = waits (take i b ++ p);
          runs = stop (e as_bytes);
          says = refl;
          holds = (i + length p, refl, rw (length-sets b i p) o, put_front b p i o);
          same = length-sets b i p;
        })

    feeds_ended : (k : Refusal) → ((g : Shape) (t : List ℕ) → turn_of (answer_as g limit (length b) ((take i b ++ p) ++ t)) ≡ ends k) → Feeds b p (take i b) (feed_from limit (y ∷ f) (waiting i) b p)
    unfolding feed_from
    feeds_ended k e =
        let e' : (g : Shape) → turn_of (answer_as g limit (length b) (take i b ++ p)) ≡ ends k = λ g. rw (append-nil (take i b ++ p)) at (e g []) in
        rw (step_open b p i w h, e' as_places) (record {
          list = refused_as k 0 ∷ [];
          left = over k;
          runs = end (e' as_bytes);
          says = refl;
          holds = (i, refl, h);
          same = refl;
        })

  module _ (y : ℕ) (f b p : List ℕ) (w : Serves b) (next-call : Onward f) (l : length p < suc (length f)) (n : ℕ) (a : (g : Shape) → Answer (PacketOf g.Str g.Run)) (o : 0 < n) where
    -- a frame that lies in the piece
    feeds_piece : n ≤ length p → ((g : Shape) (t : List ℕ) → turn_of (answer_as g limit (length b) (take n p ++ t)) ≡ frame (a g) n)
        → ((t : List ℕ) → say_answer (take n p ++ t) (a as_places) ≡ got (a as_bytes))
        → Feeds b p [] (feed_from limit (y ∷ f) fresh b p)
    unfolding feed_from
    feeds_piece m e v =
        let e' : (g : Shape) → turn_of (answer_as g limit (length b) p) ≡ frame (a g) n = λ g. rw (take-append-drop n p) at (e g (drop n p)) in
        let v' : say_answer p (a as_places) ≡ got (a as_bytes) = rw (take-append-drop n p) at (v (drop n p)) in
        let r = next-call b (drop n p) w (rw length-drop (omega arith)) in
        rw (step_open b p 0 w (omega arith), e' as_places) (record {
          list = a as_bytes ∷ r.list;
          left = r.left;
          runs = next (e' as_bytes) r.runs;
          says = rw (v', r.says);
          holds = r.holds;
          same = r.same;
        })

    -- a frame that began in the buffer
    module _ (j : ℕ) (h : suc j ≤ length b) (c : n ≤ length b) (u : suc j < n) where
      feeds_buffer : n ≤ length (take (suc j) b ++ p) → ((g : Shape) (t : List ℕ) → turn_of (answer_as g limit (length b) (take n (take (suc j) b ++ p) ++ t)) ≡ frame (a g) n)
          → ((t : List ℕ) → say_answer (take n (take (suc j) b ++ p) ++ t) (a as_places) ≡ got (a as_bytes))
          → Feeds b p (take (suc j) b) (feed_from limit (y ∷ f) (waiting (suc j)) b p)
      unfolding feed_from
      feeds_buffer m e v =
          let s : List ℕ = take (suc j) b ++ p in
          let k : ℕ = n - suc j in
          let q : List ℕ = take k p in
          let b' : List ℕ = sets b (suc j) q in
          let e' : (g : Shape) → turn_of (answer_as g limit (length b) s) ≡ frame (a g) n = λ g. rw (take-append-drop n s) at (e g (drop n s)) in
          let i₁ : length (take (suc j) b) ≡ suc j = length-take-le (suc j) b h in
          let i₂ : length q ≡ k = length-take-le k p (omega (arith, held_length y f b p (suc j) w h)) in
          let i₃ : length (take (suc j) b) + k ≡ n = omega arith in
          let i₄ : suc j + length q ≡ n = omega arith in
          let t₁ : take n s ≡ take (suc j) b ++ q = rw i₃ at (take-append-add (take (suc j) b) p k) in
          let t₂ : take n b' ≡ take (suc j) b ++ q = rw i₄ at (put_front b q (suc j) (omega arith)) in
          let d : drop n s ≡ drop k p = rw i₃ at (drop-append-add (take (suc j) b) p k) in
          let v' : say_answer b' (a as_places) ≡ got (a as_bytes) = rw (t₁ ∙ sym t₂, take-append-drop n b') at (v (drop n b')) in
          let w' : Serves b' = rw (length-sets b (suc j) q) w in
          let r = next-call b' (drop k p) w' (rw length-drop (omega (arith, held_length y f b p (suc j) w h))) in
          rw (step_open b p (suc j) w h, e' as_places) (record {
            list = a as_bytes ∷ r.list;
            left = r.left;
            runs = next (e' as_bytes) (runs_at (length-sets b (suc j) q) (sym d) r.runs);
            says = rw (v', r.says);
            holds = r.holds;
            same = r.same ∙ length-sets b (suc j) q;
          })

    -- either; what waits lacks bytes, so that the frame is longer
    feeds_framed : (i : ℕ) → i ≤ length b → turn_at limit (length b) (take i b) ≡ lacks → n ≤ length b → n ≤ length (take i b ++ p)
        → ((g : Shape) (t : List ℕ) → turn_of (answer_as g limit (length b) (take n (take i b ++ p) ++ t)) ≡ frame (a g) n)
        → ((t : List ℕ) → say_answer (take n (take i b ++ p) ++ t) (a as_places) ≡ got (a as_bytes))
        → Feeds b p (take i b) (feed_from limit (y ∷ f) (waiting i) b p)
    feeds_framed zero h t c m e v = feeds_piece m e v
    feeds_framed (suc j) h t c m e v = go (leb n (suc j)) refl
      where
        go : (d : Bool) → leb n (suc j) ≡ d → Feeds b p (take (suc j) b) (feed_from limit (y ∷ f) (waiting (suc j)) b p)
        go false d = feeds_buffer j h c (leb-false n (suc j) d) m e v
        go true d =
            let u : List ℕ = take (suc j) b in
            let r : n ≤ length u = rw (length-take-le (suc j) b h) (leb-true n (suc j) d) in
            no_frame_lem (sym t ∙ rw (take-append-le n u p r, take-append-drop n u) at (e as_bytes (drop n u)))

  pub feeds : (f b p : List ℕ) (i : ℕ) → Serves b → i ≤ length b → turn_at limit (length b) (take i b) ≡ lacks → length p < length f → Feeds b p (take i b) (feed_from limit f (waiting i) b p)
  feeds [] b p i w h t l = absurd (omega arith)
  feeds (y ∷ f) b p i w h t l = go (seen limit (length b) w.0 (take i b ++ p)) (λ b' p' w' l'. feeds f b' p' 0 w' (omega arith) (nil_lacks limit (length b')) l')
    where
      go : Seen limit (length b) (take i b ++ p) → Onward f → Feeds b p (take i b) (feed_from limit (y ∷ f) (waiting i) b p)
      go (short o e) nx = feeds_short y f b p i w h o e
      go (ended {k = k} e) nx = feeds_ended y f b p i w h k e
      go (framed n a o m c e v) nx = feeds_framed y f b p w nx l n a o i h t c m e v

  -- ---- the pieces

  -- once the stream has ended, pieces list nothing
  over_lists : (ps : List (List ℕ)) (b : List ℕ) (i : ℕ) (k : Refusal) → Serves b → i ≤ length b → (feed_all limit (record { held = i; end = some k }) b ps).list ≡ []
  unfolding feed_all feed feed_from step_by
  over_lists [] b i k w h = refl
  over_lists (p ∷ ps) b i k w h = rw (serves_true b i w h) (over_lists ps b i k w h)

  pub map_join : (l m : List (Answer Packet)) → map got l ++ map got m ≡ map got (l ++ m)
  map_join [] m = refl
  map_join (a ∷ l) m = ap (λ (u : List (Fit (Answer Packet))). got a ∷ u) (map_join l m)

  -- what the pieces list is a run of what waited and all of them
  abbrev pub Lists : List ℕ → List (List ℕ) → List (Fit (Answer Packet)) → ℕ → Type 0
  Lists h ps r cap = (l : List (Answer Packet)) × (e : Left) × Runs limit cap (h ++ flatten ps) l e × (r ≡ map got l)

  abbrev ListsAll : List (List ℕ) → Type 0
  ListsAll ps = (b : List ℕ) (i : ℕ) → Serves b → i ≤ length b → turn_at limit (length b) (take i b) ≡ lacks → Lists (take i b) ps (feed_all limit (waiting i) b ps).list (length b)

  -- a piece, which lists l, before the others, which list m and start from st and b'
  module _ (b p h : List ℕ) (ps : List (List ℕ)) (w : Serves b) (st : State) (b' : List ℕ) (same : length b' ≡ length b) (m : List (Fit (Answer Packet)))
      (on : (i : ℕ) → st ≡ waiting i → Serves b' → i ≤ length b' → turn_at limit (length b') (take i b') ≡ lacks → Lists (take i b') ps m (length b'))
      (off : (i : ℕ) (k : Refusal) → st ≡ record { held = i; end = some k } → Serves b' → i ≤ length b' → m ≡ []) where
    pub lists_then : (l : List (Answer Packet)) (e : Left) → Runs limit (length b) (h ++ p) l e → Holds e st b' → Lists h (p ∷ ps) (map got l ++ m) (length b)
    unfolding flatten
    lists_then l (waits u) r (i, q, o, z) =
        let t : turn_at limit (length b') (take i b') ≡ lacks = rw (same, z) (run_waits limit (length b) w.0 r) in
        let (n, e, r', v) = on i q (rw same w) o t in
        let r₂ : Runs limit (length b) (u ++ flatten ps) n e = runs_at same (ap (λ (x : List ℕ). x ++ flatten ps) z) r' in
        (l ++ n, e, rw (append_assoc h p (flatten ps)) at (run_on limit (length b) w.0 r (flatten ps) r₂), rw v (map_join l n))
    lists_then l (over k) r (i, q, o) =
        (l, over k, rw (append_assoc h p (flatten ps)) at (run_over limit (length b) w.0 r (flatten ps)), rw (off i k q (rw same w) o) (append-nil (map got l)))

  feeds_all : (ps : List (List ℕ)) → ListsAll ps
  unfolding feed_all flatten feed
  feeds_all [] b i w h t = ([], waits (take i b), rw (append-nil (take i b)) (stop t), refl)
  feeds_all (p ∷ ps) b i w h t =
      let f : Fed = feed_from limit (0 ∷ p) (waiting i) b p in
      let r = feeds (0 ∷ p) b p i w h t (omega arith) in
      rw r.says
      (lists_then b p (take i b) ps w f.state f.buffer r.same (feed_all limit f.state f.buffer ps).list
      (λ j q w' h' t'. rw q (feeds_all ps f.buffer j w' h' t'))
      (λ j k q w' h'. rw q (over_lists ps f.buffer j k w' h'))
      r.list r.left r.runs r.holds)

  -- 02, P10: "While one limit and one buffer serve and nobody else writes the buffer, however the stream is cut, pieces of no bytes included, the
  -- list of records, refusals and taken counts equals that of reading the whole stream frame by frame"
  pub cut_alike : (b : List ℕ) → Serves b → (ps : List (List ℕ)) → (feed_all limit fresh b ps).list ≡ map got (list_of limit (length b) (flatten ps))
  cut_alike b w ps =
      let (l, e, r, v) = feeds_all ps b 0 w (omega arith) (nil_lacks limit (length b)) in
      v ∙ ap (map got) (sym (run_list limit (length b) w.0 r))
