-- The answer of the filter table comes back from what it tells: the reader's refusals have other numbers than 37 and 38. So inputs admit one answer only, and
-- one table. Assumes nothing.
use Rattle.std.specs.Prelude.{Result, Ok, Err}
use mathlib.Core.Path.{◌≡◌, refl, sym, ap, ◌∙◌}
use mathlib.Core.Bool.{cond}
use mathlib.Core.List.{List}
use Prim.Native.Nat.{ℕ}
use lib.Dec.{eqb}
use lib.ListN.{get_or}
use Rattle.reading.specs.Refusal.{Refusal, nr}
use Rattle.reading.specs.Reader.{Fit, got, bad}
use Rattle.records.specs.AsNumbers.{told_error}
use Rattle.records.proofs.Laws.{injective_by}
use Rattle.records.proofs.AsNumbers.{back_error, back_error_lem}
use Rattle.records.specs.declared.error.Error.{Error}
use Rattle.filter_table.specs.Table.{told_table, Fills, Planned}
use Rattle.filter_table.specs.declared.FilterEntry.{FilterEntry}
use Rattle.filter_table.specs.declared.FilterTableError.{FilterTableError}
use Rattle.filter_table.specs.declared.Plan.{Plan}
use Rattle.filter_table.specs.declared.FilterTableError.TheVariants.{FilterTableFull, NotSubscribe, Refused}

-- by its number: 37, 38, or one of the reader's
abbrev back_refused : Refusal → FilterTableError
back_refused (nr k vs) = cond (eqb k 37) (FilterTableFull (get_or vs 0 0)) (cond (eqb k 38) NotSubscribe (Refused (back_error (nr k vs))))

abbrev back_table : Fit ℕ → Result ℕ FilterTableError
back_table (got n) = Ok n
back_table (bad k) = Err (back_refused k)

-- none of the reader's refusals has either number
back_refused_lem : (e : Error) → back_refused (told_error e) ≡ Refused (back_error (told_error e))
back_refused_lem (Error.InsufficientBytes n) = refl
back_refused_lem Error.MalformedRemainingLength = refl
back_refused_lem (Error.PayloadSizeLimitExceeded r m) = refl
back_refused_lem (Error.InvalidPacketType k) = refl
back_refused_lem Error.PayloadRequired = refl
back_refused_lem (Error.KindNotCarried k) = refl
back_refused_lem Error.MalformedPacket = refl
back_refused_lem (Error.BoundaryCrossed n) = refl
back_refused_lem Error.TopicNotUtf8 = refl
back_refused_lem (Error.InvalidPropertyType k) = refl
back_refused_lem (Error.InvalidQoS q) = refl
back_refused_lem Error.PacketIdZero = refl
back_refused_lem Error.EmptySubscription = refl
back_refused_lem (Error.InvalidRetainForwardRule r) = refl
back_refused_lem (Error.InvalidReason k) = refl
back_refused_lem (Error.OutgoingPacketTooLarge n m) = refl
back_refused_lem Error.PayloadTooLong = refl
back_refused_lem (Error.StringTooLong n) = refl
back_refused_lem (Error.NoRoom n) = refl
back_refused_lem Error.ListMismatch = refl
back_refused_lem Error.NoItem = refl
back_refused_lem (Error.DuplicateProperty k) = refl
back_refused_lem Error.SubscriptionIdZero = refl

back_table_lem : (r : Result ℕ FilterTableError) → back_table (told_table r) ≡ r
back_table_lem (Ok n) = refl
back_table_lem (Err (FilterTableFull n)) = refl
back_table_lem (Err NotSubscribe) = refl
back_table_lem (Err (Refused e)) = ap Err (back_refused_lem e ∙ ap Refused (back_error_lem e))

pub table_injective : {a b : Result ℕ FilterTableError} → told_table a ≡ told_table b → a ≡ b
table_injective = injective_by told_table back_table back_table_lem

-- demand 1: a frame and a table admit one answer, and one table afterwards
pub fills_one : {s : List ℕ} {before a b : List FilterEntry} {r q : Result ℕ FilterTableError} → Fills s before r a → Fills s before q b → (r ≡ q) × (a ≡ b)
fills_one f g = (table_injective (f.answer ∙ sym g.answer), f.table ∙ sym g.table)

-- demand 1: a frame and a number of places admit one plan
pub planned_one : {s : List ℕ} {places : ℕ} {p q : Plan} → Planned s places p → Planned s places q → p ≡ q
planned_one {p = p} {q = q} f g =
    plan_same p q (table_injective (f.plan.answer ∙ sym g.plan.answer)) (f.stands ∙ sym g.stands) (f.taken ∙ sym g.taken)
  where
    plan_same : (p q : Plan) → p.answer ≡ q.answer → ◌≡◌ {A = ℕ × (ℕ × ℕ)} (p.at, (p.end, p.count)) (q.at, (q.end, q.count)) → p.taken ≡ q.taken → p ≡ q
    plan_same p q a b c =
        let s : p.at ≡ q.at = ap (λ (z : ℕ × (ℕ × ℕ)). z.0) b in
        let e : p.end ≡ q.end = ap (λ (z : ℕ × (ℕ × ℕ)). z.1.0) b in
        let n : p.count ≡ q.count = ap (λ (z : ℕ × (ℕ × ℕ)). z.1.1) b in
        let same : ◌≡◌ {A = Plan} (record { answer = p.answer; at = p.at; end = p.end; count = p.count; taken = p.taken }) (record { answer = q.answer; at = q.at; end = q.end; count = q.count; taken = q.taken }) = rw (a, s, e, n, c) in
        same
