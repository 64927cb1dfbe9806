-- Demands 1 and 3 for `packet::read`, on one page: of every answer r that meets its contract. Each theorem of `reading` is cited.
-- Assumes nothing.
use Rattle.std.specs.Prelude.{Option, Some, None, Ok, Err}
use mathlib.Core.Path.{◌≡◌, refl, sym, ap, ◌∙◌}
use mathlib.Core.Bool.{true}
use mathlib.Core.Logic.{◌↔◌, ◌⊎◌, inl, inr, ⊎_elim}
use mathlib.Core.List.{List, [], ◌∷◌, ◌++◌}
use Prim.Native.Nat.{ℕ, ◌≤◌}
use lib.ListN.{length}
use Rattle.grammar.specs.Choice.{is_in}
use Rattle.grammar.specs.Number.{Spells}
use Rattle.grammar.specs.Sentence.{Packet, Frame, Sentence, ShortSentence}
use Rattle.reading.specs.Refusal.{Refusal, nr, Answer, accepted, refused, refused_as}
use Rattle.reading.specs.Reader.{Fit, got, bad}
use Rattle.reading.specs.Read.{read_of}
use Rattle.reading.specs.Place.{as_places, Placed, on_got, say, say_answer, Items}
use Rattle.reading.specs.Bounds.{bounds_of, bounds_in, bounds_by}
use Rattle.reading.specs.Rows.{Above, insufficient, malformed, exceeded, invalid, required, notCarried, FramingGiven, Breaks, lacks}
use Rattle.reading.specs.Demand.{Begins, Taken}
use Rattle.reading.proofs.Reading.{bad_got, got_inj}
use Rattle.reading.proofs.Demand.{no_accept}
use Rattle.reading.proofs.Places.{placed_refused}
use Rattle.reading.proofs.Rows.{row_1, row_2, row_3, row_4, row_5, row_6, field_rows, row_2_inside}
use Rattle.reading.proofs.Theorems as reading
use Rattle.records.specs.AsNumbers.{told_error, row_of, values_of, limit_of}
use Rattle.records.specs.Said.{told_packet}
use Rattle.records.specs.Answered.{told, carried, ReadResult}
use Rattle.records.proofs.Answered.{read_injective, refusal_bounded}
use Rattle.records.specs.declared.error.Error.{Error}
use Rattle.records.specs.declared.packet_record.Packet as code
use Rattle.records.specs.declared.span.Bounds.{Bounds}
use Rattle.packet.specs.PacketRead.{Meets, taken_in, Says, Judged}
use Rattle.packet.proofs.Laws as packet

-- first one, then the other
both : {A B C : Type 0} → A ↔ B → B ↔ C → A ↔ C
both f g = (λ a. g.0 (f.0 a), λ c. f.1 (g.1 c))

-- a refusal and the bytes that it takes
row_of_lem : (k : Refusal) (t : ℕ) → refused_as {A = Placed} k t ≡ refused (row_of k) (values_of k) t
row_of_lem (nr k vs) t = refl

numbered : (k : Refusal) → nr (row_of k) (values_of k) ≡ k
numbered (nr k vs) = refl

-- ---- demand 1: every stream has one answer, and it is pinned down without the reader

module _ (limit : Option ℕ) (s : List ℕ) (r : ReadResult) (m : Meets limit s r) where
  -- what the answer says is what the definition answers
  says_read : say_answer s (told r) ≡ got (read_of (limit_of limit) s)
  says_read = packet.says_read (limit_of limit) s r m.answer

  says : (a : Answer Packet) → Says s r a ↔ (read_of (limit_of limit) s ≡ a)
  says a = (λ e. got_inj (sym says_read ∙ e), λ e. says_read ∙ ap got e)

  -- inputs admit one answer only, with every number and place in it, P7's two numbers included
  pub one_answer : (r' : ReadResult) → Meets limit s r' → r ≡ r'
  one_answer r' m' = read_injective (packet.meets_bounded m) (packet.meets_bounded m') (m.answer ∙ sym m'.answer)

  -- the answer says something: no place in it fails to be read
  pub says_something : (a : Answer Packet) × Says s r a
  says_something = (read_of (limit_of limit) s, says_read)

  -- and what it says is the verdict on the stream: a sentence, or the first fault
  pub verdict : Judged (limit_of limit) s r
  verdict = packet.judged (limit_of limit) s r m.answer

  -- no more bytes are taken than the stream has
  pub taken_within : taken_in (told r) ≤ length s
  taken_within = packet.taken_within (limit_of limit) s r m.answer

  -- ---- each refusal is given exactly when its row says, with its values and the bytes taken

  refused_as_lem : (e : Error) (t : ℕ) → (r ≡ Err (e, t)) ↔ (read_of (limit_of limit) s ≡ refused (row_of (told_error e)) (values_of (told_error e)) t)
  refused_as_lem e t =
      let k = told_error e in
      let p = placed_refused (limit_of limit) s (row_of k) (values_of k) t in
      (λ i. p.0 (sym m.answer ∙ ap told i ∙ row_of_lem k t), λ i. read_injective (packet.meets_bounded m) (refusal_bounded e t) (m.answer ∙ p.1 i ∙ sym (row_of_lem k t)))

  -- 1
  pub insufficient_bytes : (n t : ℕ) → (r ≡ Err (Error.InsufficientBytes n, t)) ↔ FramingGiven (limit_of limit) insufficient s (n ∷ []) t
  insufficient_bytes n t = both (refused_as_lem (Error.InsufficientBytes n) t) (row_1 (limit_of limit) s (n ∷ []) t)

  -- 2, of the frame's own length, and inside a frame
  pub malformed_length : (r ≡ Err (Error.MalformedRemainingLength, 0)) ↔ FramingGiven (limit_of limit) malformed s [] 0
  malformed_length = both (refused_as_lem Error.MalformedRemainingLength 0) (row_2 (limit_of limit) s [])

  pub malformed_inside : (t : ℕ) → (t ≡ 0 → ⊥) → (r ≡ Err (Error.MalformedRemainingLength, t)) ↔ Breaks (limit_of limit) s (nr 2 []) t
  malformed_inside t h = both (refused_as_lem Error.MalformedRemainingLength t) (row_2_inside (limit_of limit) s [] t h)

  -- 3
  pub limit_exceeded : (F n t : ℕ) → (r ≡ Err (Error.PayloadSizeLimitExceeded F n, t)) ↔ FramingGiven (limit_of limit) exceeded s (F ∷ n ∷ []) t
  limit_exceeded F n t = both (refused_as_lem (Error.PayloadSizeLimitExceeded F n) t) (row_3 (limit_of limit) s (F ∷ n ∷ []) t)

  -- 4, 5 and 6
  pub invalid_type : (k t : ℕ) → (r ≡ Err (Error.InvalidPacketType k, t)) ↔ FramingGiven (limit_of limit) invalid s (k ∷ []) t
  invalid_type k t = both (refused_as_lem (Error.InvalidPacketType k) t) (row_4 (limit_of limit) s (k ∷ []) t)

  pub payload_required : (t : ℕ) → (r ≡ Err (Error.PayloadRequired, t)) ↔ FramingGiven (limit_of limit) required s [] t
  payload_required t = both (refused_as_lem Error.PayloadRequired t) (row_5 (limit_of limit) s [] t)

  pub kind_not_carried : (k t : ℕ) → (r ≡ Err (Error.KindNotCarried k, t)) ↔ FramingGiven (limit_of limit) notCarried s (k ∷ []) t
  kind_not_carried k t = both (refused_as_lem (Error.KindNotCarried k) t) (row_6 (limit_of limit) s (k ∷ []) t)

  -- 7 to 15, 22 and 23: the fields break with it, first from the left
  pub fields_break : (e : Error) (t : ℕ) → is_in (row_of (told_error e)) (7 ∷ 8 ∷ 9 ∷ 10 ∷ 11 ∷ 12 ∷ 13 ∷ 14 ∷ 15 ∷ 22 ∷ 23 ∷ []) ≡ true
      → (r ≡ Err (e, t)) ↔ Breaks (limit_of limit) s (told_error e) t
  fields_break e t h =
      let k = told_error e in
      rw (numbered k) at (both (refused_as_lem e t) (field_rows (limit_of limit) s (values_of k) (row_of k) t h))

  -- 02, P9: 22, "a single-valued property met a second time"
  pub duplicate_property : (i t : ℕ) → (r ≡ Err (Error.DuplicateProperty i, t)) ↔ Breaks (limit_of limit) s (nr 22 (i ∷ [])) t
  duplicate_property i t = fields_break (Error.DuplicateProperty i) t refl

  -- 02, P9: 23, "Property 11 with value 0"
  pub subscription_id_zero : (t : ℕ) → (r ≡ Err (Error.SubscriptionIdZero, t)) ↔ Breaks (limit_of limit) s (nr 23 []) t
  subscription_id_zero t = fields_break Error.SubscriptionIdZero t refl

  -- no other refusal is given; 0 bytes are taken, or the frame
  pub takes : (e : Error) (t : ℕ) → r ≡ Err (e, t) → Taken (limit_of limit) s (row_of (told_error e)) t
  takes e t i = reading.takes (limit_of limit) s (values_of (told_error e)) (row_of (told_error e)) t ((refused_as_lem e t).0 i)

  -- ---- an accepted record, its places looked up

  -- a record p says a value v, and v is what the answer says
  pub record_says : (p : code.Packet) (b : Bounds) (n : ℕ) → r ≡ Ok (p, b, n) → (v : Packet) × (say s (told_packet p) ≡ got v) × Says s r (accepted v n)
  record_says p b n i = go (say s (told_packet p)) refl
    where
      go : (f : Fit Packet) → say s (told_packet p) ≡ f → (v : Packet) × (say s (told_packet p) ≡ got v) × Says s r (accepted v n)
      go (got v) e = (v, e, ap (λ (q : ReadResult). say_answer s (told q)) i ∙ ap (on_got (λ (w : Packet). accepted w n)) e)
      go (bad k) e = absurd (bad_got (sym (ap (λ (q : ReadResult). say_answer s (told q)) i ∙ ap (on_got (λ (w : Packet). accepted w n)) e) ∙ says_read))

  -- and back: what says an accepted value is a record
  pub says_record : (v : Packet) (n : ℕ) → Says s r (accepted v n) → (p : code.Packet) × (b : Bounds) × (r ≡ Ok (p, b, n)) × (say s (told_packet p) ≡ got v)
  says_record v n = go r refl
    where
      held : (p : code.Packet) (b : Bounds) (n' : ℕ) → r ≡ Ok (p, b, n') → (f : Fit Packet) → say s (told_packet p) ≡ f → on_got (λ (w : Packet). accepted w n') f ≡ got (accepted v n)
          → (q : code.Packet) × (b : Bounds) × (r ≡ Ok (q, b, n)) × (say s (told_packet q) ≡ got v)
      held p b n' i (got w) e j =
          let h : accepted w n' ≡ accepted v n = got_inj j in
          let u : n' ≡ n = cc in
          let x : w ≡ v = cc in
          (p, b, i ∙ ap (λ (k : ℕ). Ok (p, b, k)) u, e ∙ ap got x)
      held p b n' i (bad k) e j = absurd (bad_got j)

      go : (q : ReadResult) → r ≡ q → say_answer s (told q) ≡ got (accepted v n) → (p : code.Packet) × (b : Bounds) × (r ≡ Ok (p, b, n)) × (say s (told_packet p) ≡ got v)
      go (Ok (p, b, n')) i e = held p b n' i (say s (told_packet p)) refl e
      go (Err (k, t)) i e = absurd (no_accept (got_inj (rw (row_of_lem (told_error k) t) at e)))

  -- the items of its lists, n from 0, are those of the value, and then 21
  pub items : (p : code.Packet) (b : Bounds) (n : ℕ) → r ≡ Ok (p, b, n) → (w : Packet) × Says s r (accepted w n) × Items s (told_packet p) w
  items p b n i =
      let (w, e, t) = reading.items (limit_of limit) s (told_packet p) n (sym m.answer ∙ ap told i) in
      (w, (says (accepted w n)).1 e, t)

  -- 02, P7: "Every record read shall also carry where its properties start, after the block's length, and end, within the frame"
  pub bounds : (p : code.Packet) (b : Bounds) (n : ℕ) → r ≡ Ok (p, b, n) → bounds_of (limit_of limit) s ≡ got (b.start, b.end)
  bounds p b n i = sym m.carries ∙ ap carried i

  -- 02, P7: "When absent they are equal": they are where the record's own block stands, or both the place where what follows it begins
  pub bounds_said : (p : code.Packet) (b : Bounds) (n : ℕ) → r ≡ Ok (p, b, n) → (b.start, b.end) ≡ bounds_in (told_packet p) n
  bounds_said p b n i = got_inj (ap carried (sym i) ∙ packet.meets_bounded m ∙ ap (λ (q : ReadResult). bounds_by (told q)) i)

-- ---- demand 3

module _ (s : List ℕ) (r : ReadResult) (m : Meets None s r) where
  -- "With no limit, a read succeeds exactly when the stream begins with a sentence": v is what it says, n its length
  pub succeeds : (v : Packet) (n : ℕ) → Says s r (accepted v n) ↔ Begins Sentence s v n
  succeeds v n = both (says None s r m (accepted v n)) (reading.succeeds s v n)

  -- a sentence is answered with a record that says it, and its length
  pub sentence_read : (v : Packet) (n : ℕ) → Begins Sentence s v n → (p : code.Packet) × (b : Bounds) × (r ≡ Ok (p, b, n)) × (say s (told_packet p) ≡ got v)
  sentence_read v n b = says_record None s r m v n ((succeeds v n).1 b)

  -- a record is given only for a sentence that it says
  pub read_sentence : (p : code.Packet) (b : Bounds) (n : ℕ) → r ≡ Ok (p, b, n) → (v : Packet) × (say s (told_packet p) ≡ got v) × Begins Sentence s v n
  read_sentence p b n i =
      let (v, e, w) = record_says None s r m p b n i in
      (v, e, (succeeds v n).0 w)

  -- "record and taken count are the only ones the grammar allows"
  pub only_one : (p : code.Packet) (b : Bounds) (n : ℕ) → r ≡ Ok (p, b, n) → (v : Packet) (n' : ℕ) → Begins Sentence s v n' → (say s (told_packet p) ≡ got v) × (n ≡ n')
  only_one p b n i v n' t =
      let (w, e, c) = read_sentence p b n i in
      let (j, u) = reading.only_one s w v n n' c t in
      (e ∙ ap got j, u)

-- "each strict prefix of a sentence lacks bytes": just so many as 01 says
pub prefix : (v : Packet) (f u w : List ℕ) (y : ℕ) (r : ReadResult) → Sentence v f → f ≡ u ++ (y ∷ w) → Meets None u r → r ≡ Err (Error.InsufficientBytes (lacks u (length f)), 0)
prefix v f u w y r g e m = (refused_as_lem None u r m (Error.InsufficientBytes (lacks u (length f))) 0).1 (reading.prefix v f u w y g e)

-- "bytes after it alter nothing": not one number or place of the answer, of any whole frame, accepted or refused, under any limit
pub suffix : (limit : Option ℕ) (z : ℕ × List ℕ) (c t t' : List ℕ) (r r' : ReadResult) → Frame Spells z c → Meets limit (c ++ t) r → Meets limit (c ++ t') r' → r ≡ r'
suffix limit z c t t' r r' f m m' =
    read_injective (packet.meets_bounded m) (packet.meets_bounded m') (m.answer ∙ reading.after_frame as_places (limit_of limit) z c t t' f ∙ sym m'.answer)

-- "A limit adds the size refusal alone": F is above the limit and the answer is 3 with nothing taken, or it is the answer with no limit
pub limited : (n : ℕ) (s : List ℕ) (r r₀ : ReadResult) → Meets (Some n) s r → Meets None s r₀
    → ((F : ℕ) × Above s F n × (r ≡ Err (Error.PayloadSizeLimitExceeded F n, 0))) ⊎ (((F : ℕ) → Above s F n → ⊥) × (r ≡ r₀))
limited n s r r₀ m m₀ =
    ⊎_elim
    (λ (F, a, e). inl (F, a, read_injective (packet.meets_bounded m) (refusal_bounded (Error.PayloadSizeLimitExceeded F n) 0) (m.answer ∙ e)))
    (λ (a, e). inr (a, read_injective (packet.meets_bounded m) (packet.meets_bounded m₀) (m.answer ∙ e ∙ sym m₀.answer))) (reading.limited as_places n s)

-- so under a limit a read succeeds exactly when the stream begins with a sentence of at most so many bytes
pub succeeds_within : (n : ℕ) (s : List ℕ) (r : ReadResult) → Meets (Some n) s r → (v : Packet) (k : ℕ) → Says s r (accepted v k) ↔ Begins (ShortSentence n) s v k
succeeds_within n s r m v k = both (says (Some n) s r m (accepted v k)) (reading.succeeds_within n s v k)
