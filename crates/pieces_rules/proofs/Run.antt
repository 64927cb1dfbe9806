-- A stream read to its end, as a relation: what is listed, and what is left. A longer stream goes on from there. Assumes nothing.
use mathlib.Core.Path.{◌≡◌, refl, sym, ap, ◌∙◌}
use mathlib.Core.Option.{Option}
use mathlib.Core.List.{List, [], ◌∷◌, ◌++◌, append_assoc, append-nil}
use Prim.Native.Nat.{ℕ, ◌≤◌, ◌<◌}
use native.Mathlib.Omega.{arith}
use lib.ListN.{length, take, drop, length-drop, take-append-drop}
use lib.Seq.{drop-append-le}
use Rattle.grammar.specs.Sentence.{Packet}
use Rattle.reading.specs.Refusal.{Refusal, Answer, refused_as}
use Rattle.reading.specs.Reader.{then_of}
use Rattle.reading.specs.Read.{byte_of, as_bytes}
use Rattle.pieces_rules.specs.Whole.{header_under, answer_as, Turn, lacks, ends, frame, turn_of, list_from, list_of}
use Rattle.pieces_rules.proofs.Says.{answer_refused, turn_lacks}
use Rattle.pieces_rules.proofs.Seen.{Seen, short, ended, framed, seen}

no_ends : {A : Type 0} {k : Refusal} {B : Type 0} → ◌≡◌ {A = Turn A} lacks (ends k) → B
no_ends e = let z : ◌≡◌ {A = ℕ} 0 1 = cc in absurd (omega arith)

pub no_frame_lem : {A : Type 0} {a : A} {n : ℕ} {B : Type 0} → ◌≡◌ {A = Turn A} lacks (frame a n) → B
no_frame_lem e = let z : ◌≡◌ {A = ℕ} 0 1 = cc in absurd (omega arith)

pub ends_frame : {A : Type 0} {k : Refusal} {a : A} {n : ℕ} {B : Type 0} → ◌≡◌ {A = Turn A} (ends k) (frame a n) → B
ends_frame e = let z : ◌≡◌ {A = ℕ} 0 1 = cc in absurd (omega arith)

-- what is left of a stream: the bytes that wait for more, or the refusal that ended it
pub data Left : Type 0 where
  waits : List ℕ → Left
  over : Refusal → Left

module _ (limit : Option ℕ) (cap : ℕ) where
  abbrev pub turn_at : List ℕ → Turn (Answer Packet)
  turn_at s = turn_of (answer_as as_bytes limit cap s)

  pub data Runs : List ℕ → List (Answer Packet) → Left → Type 0 where
    stop : {s : List ℕ} → turn_at s ≡ lacks → Runs s [] (waits s)
    end : {s : List ℕ} {k : Refusal} → turn_at s ≡ ends k → Runs s (refused_as k 0 ∷ []) (over k)
    next : {s : List ℕ} {a : Answer Packet} {n : ℕ} {l : List (Answer Packet)} {e : Left} → turn_at s ≡ frame a n → Runs (drop n s) l e → Runs s (a ∷ l) e

  pub nil_lacks : turn_at [] ≡ lacks
  unfolding header_under then_of byte_of
  nil_lacks = ap turn_of (answer_refused as_bytes limit cap [] 1 (2 ∷ []) refl) ∙ turn_lacks (2 ∷ [])

  module _ (fits : 5 ≤ cap) where
    -- a frame stays whatever follows, and is no longer than the stream
    pub frame_stays : (s : List ℕ) (a : Answer Packet) (n : ℕ) → turn_at s ≡ frame a n → (0 < n) × (n ≤ length s) × ((t : List ℕ) → turn_at (s ++ t) ≡ frame a n)
    frame_stays s a n e = go (seen limit cap fits s)
      where
        go : Seen limit cap s → (0 < n) × (n ≤ length s) × ((t : List ℕ) → turn_at (s ++ t) ≡ frame a n)
        go (short l f) = no_frame_lem (sym (f as_bytes) ∙ e)
        go (ended f) = ends_frame (sym (f as_bytes []) ∙ ap turn_at (append-nil s) ∙ e)
        go (framed m z o l c f g) =
            let i = sym (f as_bytes (drop m s)) ∙ ap turn_at (take-append-drop m s) ∙ e in
            let j : m ≡ n = cc in
            (omega arith, omega arith, λ t. ap turn_at (rw (← append_assoc (take m s) (drop m s) t, take-append-drop m s)) ∙ f as_bytes (drop m s ++ t) ∙ i)

    pub ends_stays : (s : List ℕ) (k : Refusal) → turn_at s ≡ ends k → (t : List ℕ) → turn_at (s ++ t) ≡ ends k
    ends_stays s k e t = go (seen limit cap fits s)
      where
        go : Seen limit cap s → turn_at (s ++ t) ≡ ends k
        go (short l f) = no_ends (sym (f as_bytes) ∙ e)
        go (ended f) = f as_bytes t ∙ sym (f as_bytes []) ∙ ap turn_at (append-nil s) ∙ e
        go (framed m z o l c f g) = ends_frame (sym e ∙ sym (ap turn_at (take-append-drop m s)) ∙ f as_bytes (drop m s))

    -- what waits lacks bytes
    pub run_waits : {s h : List ℕ} {l : List (Answer Packet)} → Runs s l (waits h) → turn_at h ≡ lacks
    run_waits (stop e) = e
    run_waits (next e r) = run_waits r

    -- more bytes go on from what waits
    pub run_on : {s h : List ℕ} {l m : List (Answer Packet)} {e : Left} → Runs s l (waits h) → (t : List ℕ) → Runs (h ++ t) m e → Runs (s ++ t) (l ++ m) e
    run_on (stop i) t q = q
    run_on (next {s = s} {a = a} {n = n} i r) t q =
        let (o, l, f) = frame_stays s a n i in
        next (f t) (rw (sym (drop-append-le n s t l)) at (run_on r t q))

    -- and alter nothing once the stream has ended
    pub run_over : {s : List ℕ} {l : List (Answer Packet)} {k : Refusal} → Runs s l (over k) → (t : List ℕ) → Runs (s ++ t) l (over k)
    run_over (end {s = s} {k = k} e) t = end (ends_stays s k e t)
    run_over (next {s = s} {a = a} {n = n} i r) t =
        let (o, l, f) = frame_stays s a n i in
        next (f t) (rw (sym (drop-append-le n s t l)) at (run_over r t))

    -- the list of the whole stream is that of its run
    run_from_lem : (f s : List ℕ) (l : List (Answer Packet)) (e : Left) → length s ≤ length f → Runs s l e → list_from limit cap f s ≡ l
    unfolding list_from
    run_from_lem [] [] _ _ h (stop i) = refl
    run_from_lem [] [] _ _ h (end i) = no_ends (sym nil_lacks ∙ i)
    run_from_lem [] [] _ _ h (next i r) = no_frame_lem (sym nil_lacks ∙ i)
    run_from_lem [] (x ∷ s) l e h r = absurd (omega arith)
    run_from_lem (y ∷ f) s _ _ h (stop i) = rw i
    run_from_lem (y ∷ f) s _ _ h (end i) = rw i
    run_from_lem (y ∷ f) s _ e h (next {a = a} {n = n} {l = l} i r) =
        let (o, m, g) = frame_stays s a n i in
        rw i (ap (λ (u : List (Answer Packet)). a ∷ u) (run_from_lem f (drop n s) l e (rw length-drop (omega arith)) r))

    pub run_list : {s : List ℕ} {l : List (Answer Packet)} {e : Left} → Runs s l e → list_of limit cap s ≡ l
    unfolding list_of
    run_list {s} {l} {e} r = run_from_lem s s l e (omega arith) r
