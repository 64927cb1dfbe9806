-- Answers: each comes back from what it tells. So an input, whose answer is told by a definition, admits one answer only. Assumes nothing.
use Rattle.std.specs.Prelude.{Option, Some, None, Result, Ok, Err}
use mathlib.Core.Path.{◌≡◌, refl, sym, ap, ◌∙◌}
use Prim.Native.Nat.{ℕ}
use Rattle.grammar.specs.Record.{Val, num, str, duo}
use Rattle.grammar.specs.Record as record_of
use Rattle.reading.specs.Refusal.{Refusal, nr, Answer, accepted, refused, refused_as}
use Rattle.reading.specs.Reader.{Fit, got, bad}
use Rattle.reading.specs.Place.{Placed}
use Rattle.reading.specs.Place as place
use Rattle.reading.specs.Bounds.{bounds_by}
use Rattle.records.specs.AsNumbers.{told_error, back_span}
use Rattle.records.specs.Answered.{told, carried, Bounded, told_size, told_user, told_identifier, told_filter_item, told_reason_item, told_topic_item, told_got_rule, ReadResult}
use Rattle.records.proofs.Laws.{injective_by}
use Rattle.records.proofs.AsNumbers.{back_error, back_error_lem, back_fit, back_rule, back_rule_lem, back_span_lem}
use Rattle.records.proofs.Said.{back_filter, back_filter_lem, back_packet, back_packet_lem}
use Rattle.records.specs.declared.error.Error.{Error}
use Rattle.records.specs.declared.span.Span.{Span}
use Rattle.records.specs.declared.subscribe_record.Filter.{Filter}
use Rattle.records.specs.declared.subscribe_record.RetainForwardRule.{RetainForwardRule}

-- ---- reading

-- the two numbers, or 0 and 0 where there are none
abbrev pub numbers_in : Fit (ℕ × ℕ) → ℕ × ℕ
numbers_in (got z) = z
numbers_in (bad k) = (0, 0)

pub back_read : Answer Placed × Fit (ℕ × ℕ) → ReadResult
back_read (accepted p n, f) = Ok (back_packet p, record { start = (numbers_in f).0; end = (numbers_in f).1 }, n)
back_read (refused k vs n, f) = Err (back_error (nr k vs), n)

back_taken : (k : Refusal) (n : ℕ) (f : Fit (ℕ × ℕ)) → back_read (refused_as k n, f) ≡ Err (back_error k, n)
unfolding back_read
back_taken (nr k vs) n f = refl

pub back_read_lem : (r : ReadResult) → back_read (told r, carried r) ≡ r
unfolding back_read
back_read_lem (Ok (p, b, n)) = ap (λ q. Ok (q, b, n)) (back_packet_lem p)
back_read_lem (Err (e, n)) = back_taken (told_error e) n (bad (told_error e)) ∙ ap (λ k. Err (k, n)) (back_error_lem e)

-- ---- sizes

abbrev pub back_size : Fit ℕ → Result ℕ Error
back_size = back_fit Ok Err

pub back_size_lem : (r : Result ℕ Error) → back_size (told_size r) ≡ r
back_size_lem (Ok n) = refl
back_size_lem (Err e) = ap Err (back_error_lem e)

-- ---- items

-- the pair of a value
abbrev pair_in : Val place.Span → Option (Span × Span)
pair_in (num n) = None
pair_in (str p) = None
pair_in (duo k v) = Some (back_span k, back_span v)

pub back_user : Fit (Val place.Span) → Option (Span × Span)
back_user (got v) = pair_in v
back_user (bad k) = None

pub back_user_lem : (r : Option (Span × Span)) → back_user (told_user r) ≡ r
unfolding back_user
back_user_lem (Some (k, v)) = simp back_span_lem
back_user_lem None = refl

-- the number of a value
abbrev identifier_in : Val place.Span → Option ℕ
identifier_in (num n) = Some n
identifier_in (str p) = None
identifier_in (duo k v) = None

pub back_identifier : Fit (Val place.Span) → Option ℕ
back_identifier (got v) = identifier_in v
back_identifier (bad k) = None

pub back_identifier_lem : (r : Option ℕ) → back_identifier (told_identifier r) ≡ r
unfolding back_identifier
back_identifier_lem (Some n) = refl
back_identifier_lem None = refl

pub back_filter_item : Fit (record_of.Filter place.Span) → Option Filter
back_filter_item (got f) = Some (back_filter f)
back_filter_item (bad k) = None

pub back_filter_item_lem : (r : Option Filter) → back_filter_item (told_filter_item r) ≡ r
unfolding back_filter_item
back_filter_item_lem (Some f) = ap Some (back_filter_lem f)
back_filter_item_lem None = refl

abbrev pub back_reason_item : Fit ℕ → Option ℕ
back_reason_item (got c) = Some c
back_reason_item (bad k) = None

pub back_reason_item_lem : (r : Option ℕ) → back_reason_item (told_reason_item r) ≡ r
back_reason_item_lem (Some c) = refl
back_reason_item_lem None = refl

abbrev pub back_topic_item : Fit place.Span → Option Span
back_topic_item (got p) = Some (back_span p)
back_topic_item (bad k) = None

pub back_topic_item_lem : (r : Option Span) → back_topic_item (told_topic_item r) ≡ r
back_topic_item_lem (Some p) = ap Some (back_span_lem p)
back_topic_item_lem None = refl

-- ---- forward rules

abbrev pub back_got_rule : Fit ℕ → Result RetainForwardRule Error
back_got_rule = back_fit (λ n. Ok (back_rule n)) Err

pub back_got_rule_lem : (r : Result RetainForwardRule Error) → back_got_rule (told_got_rule r) ≡ r
back_got_rule_lem (Ok a) = ap Ok (back_rule_lem a)
back_got_rule_lem (Err e) = ap Err (back_error_lem e)

-- ---- one answer only

-- the two numbers of 02's P7 included
pub read_injective : {a b : ReadResult} → Bounded a → Bounded b → told a ≡ told b → a ≡ b
read_injective {a = a} {b = b} c d e =
    let f : carried a ≡ carried b = c ∙ ap bounds_by e ∙ sym d in
    injective_by (λ r. (told r, carried r)) back_read back_read_lem (rw (e, f))

-- a refusal has none of them
pub refusal_bounded : (e : Error) (n : ℕ) → Bounded (Err (e, n))
refusal_bounded e n = go (told_error e)
  where
    go : (k : Refusal) → bad k ≡ bounds_by (refused_as k n)
    go (nr k vs) = refl

pub size_injective : {a b : Result ℕ Error} → told_size a ≡ told_size b → a ≡ b
size_injective = injective_by told_size back_size back_size_lem
