-- What the tables say of a kind decides what becomes of a frame: 4, 5 and 6 in order, then the fields; and the bytes taken. Assumes nothing.
use Rattle.std.specs.Prelude as std
use Rattle.std.specs.Prelude.{Result, Ok, Err}
use mathlib.Core.Path.{◌≡◌, refl, sym, ap, ◌∙◌}
use mathlib.Core.Bool.{Bool, true, false, not, ◌||◌}
use mathlib.Core.Option.{Option, none, some}
use mathlib.Core.List.{List, [], ◌∷◌}
use Prim.Native.Nat.{ℕ, ◌+◌, ◌-◌, ◌≤◌, ◌<◌, min}
use native.Mathlib.Omega.{arith}
use lib.ListN.{length, take, drop}
use lib.Seq.{drop-cons, length-take-le}
use Rattle.grammar.specs.Choice.{is_empty}
use Rattle.grammar.specs.Tables.{Layout, a_ping, is_ping}
use Rattle.grammar.specs.Record.{ping, kind_of}
use Rattle.reading.specs.Refusal.{Refusal, nr, Answer, refused_as}
use Rattle.reading.specs.Reader.{Fit, got, bad, guard, map_fit, is_fit, ◌>>◌}
use Rattle.reading.specs.Read.{frame_of, fields_fit, layout_fit, body_fit, body_answer, whole_answer, frame_answer, read_as, read_of}
use Rattle.reading.specs.Place.{as_places, Placed, read_placed_of, say_answer}
use Rattle.reading.specs.Bounds.{bounds_by}
use Rattle.reading.proofs.Reading.{got_inj}
use Rattle.reading.proofs.Faults.{answered}
use Rattle.reading.proofs.Places.{placed_says}
use Rattle.reading.proofs.Bounds.{read_bounds}
use Rattle.records.specs.AsNumbers.{limit_of, told_error}
use Rattle.records.specs.Answered.{told, Bounded, ReadResult}
use Rattle.records.proofs.Answered.{refusal_bounded}
use Rattle.records.specs.declared.error.Error.{Error}
use Rattle.records.specs.declared.packet_record.Packet as code
use Rattle.records.specs.declared.span.Bounds.{Bounds}
use Rattle.framing.specs.HeaderRead.{frame_at}
use Rattle.kinds.specs.Kinds.{kind_row}
use Rattle.framing.proofs.Laws.{checked_within, checked_read, checked_refused}
use Rattle.packet.specs.PacketRead.{TellsBody, Tells, Meets, taken_in, Judged}

-- ---- the body of a frame whose first byte is x

-- what 01's tables say of a kind: its number, whether it is reserved, and its layout
abbrev Known : Type 0
Known = ℕ × Bool × Option Layout

or-true : (b : Bool) → (b || true) ≡ true
or-true true = refl
or-true false = refl

module _ (x end : ℕ) (b : List ℕ) where
  -- the body, of which the tables say z
  abbrev body_with : Known → Fit Placed
  body_with z = do
    guard (not z.1) (nr 4 (z.0 ∷ []))
    guard (is_ping z.2 || not (is_empty b)) (nr 5 [])
    layout_fit as_places z.2 x end b

  body_with_lem : (z : Known) → z ≡ kind_row (kind_of x) → body_with z ≡ body_fit as_places x end b
  unfolding body_fit
  body_with_lem z e = ap body_with e

  -- 01, row 4
  pub body_reserved : (k : ℕ) (o : Option Layout) → (k, true, o) ≡ kind_row (kind_of x) → bad (nr 4 (k ∷ [])) ≡ body_fit as_places x end b
  body_reserved k o e = body_with_lem (k, true, o) e

  -- a ping, whatever its bytes
  pub body_ping : (k : ℕ) → (k, false, some a_ping) ≡ kind_row (kind_of x) → got (ping k) ≡ body_fit as_places x end b
  unfolding layout_fit fields_fit map_fit is_fit
  body_ping k e = let h : k ≡ kind_of x = ap (λ (z : Known). z.0) e in rw h (body_with_lem (k, false, some a_ping) e)

  module _ (h : is_empty b ≡ false) where
    -- 01, row 6
    pub body_foreign : (k : ℕ) → (k, false, none) ≡ kind_row (kind_of x) → bad (nr 6 (k ∷ [])) ≡ body_fit as_places x end b
    unfolding layout_fit
    body_foreign k e =
        let j : k ≡ kind_of x = ap (λ (z : Known). z.0) e in
        rw j (rw h at (body_with_lem (k, false, none) e))

    pub body_fields : (k : ℕ) (l : Layout) → (k, false, some l) ≡ kind_row (kind_of x) → fields_fit as_places l x end b ≡ body_fit as_places x end b
    unfolding layout_fit
    body_fields k l e = rw (h, or-true (is_ping (some l))) at (body_with_lem (k, false, some l) e)

-- 01, row 5
pub body_required : (x end k : ℕ) (o : Option Layout) → is_ping o ≡ false → (k, false, o) ≡ kind_row (kind_of x) → bad (nr 5 []) ≡ body_fit as_places x end []
body_required x end k o h e = rw h at (body_with_lem x end [] (k, false, o) e)

-- bytes are left at an index
pub left_some : (s : List ℕ) (at : ℕ) → at < length s → is_empty (drop at s) ≡ false
left_some s at h = rw (drop-cons s at 0 h)

-- ---- the answer

-- 02, P7: a refusal has no numbers to carry
pub refusing : {e : Error} {n : ℕ} {a : Answer Placed} → told (Err (e, n)) ≡ a → Tells (Err (e, n)) a
refusing {e = e} {n = n} i = record { answer = i; bounded = refusal_bounded e n }

-- what is told may be said in other words
pub through : {n : ℕ} {r : Result (code.Packet × Bounds) Error} {f g : Fit Placed} → TellsBody n r f → f ≡ g → TellsBody n r g
through t e = record { answer = t.answer ∙ e; bounded = t.bounded }

-- the same of what is told of a stream
pub through_told : {r : ReadResult} {a b : Answer Placed} → Tells r a → a ≡ b → Tells r b
through_told t e = record { answer = t.answer ∙ e; bounded = t.bounded }

-- what the body of a whole frame says is the answer to it
pub whole_as : (n x : ℕ) (b : List ℕ) {f : Fit Placed} → f ≡ body_fit as_places x n b → body_answer n f ≡ whole_answer as_places n (x, b)
unfolding whole_answer
whole_as n x b e = ap (body_answer n) e

pub refusing_body : {n : ℕ} {e : Error} {f : Fit Placed} → bad (told_error e) ≡ f → TellsBody n (Err e) f
refusing_body h = record { answer = h; bounded = refl }

-- what tells the body of a frame of n bytes tells the frame
pub telling : {n : ℕ} {p : code.Packet} {o : Bounds} {f : Fit Placed} → TellsBody n (Ok (p, o)) f → Tells (Ok (p, o, n)) (body_answer n f)
unfolding body_answer
telling {n = n} t = record { answer = ap (body_answer n) t.answer; bounded = t.bounded }

pub telling_refused : {n : ℕ} {e : Error} {f : Fit Placed} → TellsBody n (Err e) f → Tells (Err (e, n)) (body_answer n f)
unfolding body_answer
telling_refused {n = n} t = refusing (ap (body_answer n) t.answer)

pub answer_none : (limit : Option ℕ) (s : List ℕ) (k : Refusal) → bad k ≡ frame_at limit s → refused_as k 0 ≡ read_placed_of limit s
answer_none limit s (nr k vs) e = sym (checked_refused limit s as_places k vs e)

-- a frame of l bytes from index m on
module _ (limit : Option ℕ) (s : List ℕ) (x l m : ℕ) (e : got ((x, take l (drop m s)), m + l) ≡ frame_at limit s) where
  frame_taken : length (take (m + l) s) ≡ m + l
  frame_taken = length-take-le (m + l) s (checked_within limit s x l m e)

  -- the sum of the header is no larger than the stream, which a usize counts
  pub frame_end : (n : ℕ) → n ≡ min (m + l) 18446744073709551615 → length s < 18446744073709551616 → n ≡ m + l
  frame_end n h f = omega (arith, checked_within limit s x l m e)

  -- so that its bytes are there
  pub frame_count : (n : ℕ) → n ≡ min (m + l) 18446744073709551615 → n ≡ length (take n s)
  frame_count n h = sym (length-take-le n s (omega (arith, checked_within limit s x l m e)))

  -- the answer to them is the answer to the stream
  pub answer_whole : (n : ℕ) → n ≡ m + l → {a : Answer Placed} → a ≡ whole_answer as_places (length (take n s)) (x, drop m (take n s)) → a ≡ read_placed_of limit s
  answer_whole n h i = rw frame_taken at (rw h at i) ∙ sym (checked_read limit s x l m e as_places)

-- ---- no more bytes are taken than there are

body_taken : (n : ℕ) (f : Fit Placed) → taken_in (body_answer n f) ≡ n
unfolding body_answer
body_taken n (got v) = refl
body_taken n (bad (nr k vs)) = refl

pub taken_within : (limit : Option ℕ) (s : List ℕ) (r : ReadResult) → told r ≡ read_placed_of limit s → taken_in (told r) ≤ length s
unfolding read_as frame_answer whole_answer
taken_within limit s r e = rw e (go (frame_of limit (length s) s))
  where
    go : (f : Fit ((ℕ × List ℕ) × List ℕ)) → taken_in (frame_answer as_places s f) ≤ length s
    go (got z) = rw (body_taken (length s - length z.1) (body_fit as_places z.0.0 (length s - length z.1) z.0.1)) (omega arith)
    go (bad (nr k vs)) = omega arith

-- ---- what is promised

module _ (limit : Option ℕ) (s : List ℕ) (r : ReadResult) (e : told r ≡ read_placed_of limit s) where
  -- what the answer says is what the definition answers
  pub says_read : say_answer s (told r) ≡ got (read_of limit s)
  says_read = ap (say_answer s) e ∙ placed_says limit s

  pub judged : Judged limit s r
  judged a = (λ i. (answered limit s a).0 (got_inj (sym says_read ∙ i)), λ v. says_read ∙ ap got ((answered limit s a).1 v))

-- 02, P7: what the record says of its two numbers is what the frame says of them
pub promised : (limit : std.Option ℕ) (s : List ℕ) (r : ReadResult) → Tells r (read_placed_of (limit_of limit) s) → Meets limit s r × ((taken_in (told r) ≤ length s) × Judged (limit_of limit) s r)
promised limit s r t =
    let m : Meets limit s r = record { answer = t.answer; carries = t.bounded ∙ ap bounds_by t.answer ∙ sym (read_bounds (limit_of limit) s) } in
    (m, (taken_within (limit_of limit) s r t.answer, judged (limit_of limit) s r t.answer))

-- and back
pub meets_bounded : {limit : std.Option ℕ} {s : List ℕ} {r : ReadResult} → Meets limit s r → Bounded r
meets_bounded {limit = limit} {s = s} m = m.carries ∙ read_bounds (limit_of limit) s ∙ ap bounds_by (sym m.answer)
