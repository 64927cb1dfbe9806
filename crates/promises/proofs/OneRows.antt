-- What `kind_of` and `property` promise is 01's answer, in its number and values, and the telling leaves no choice of the case. Assumes nothing.
use Rattle.std.specs.Prelude as std
use Rattle.std.specs.Prelude.{Some, None}
use mathlib.Core.Path.{◌≡◌, refl, ap, ◌∙◌}
use mathlib.Core.Bool.{Bool, false, not}
use mathlib.Core.Option.{Option, none, some}
use mathlib.Core.List.{List, [], ◌∷◌}
use Prim.Native.Nat.{ℕ}
use lib.Dec.{eqb}
use Rattle.grammar.specs.Tables.{Form, Row, form_at, Layout}
use Rattle.reading.specs.Refusal.{nr}
use Rattle.reading.specs.Reader.{Fit, got, bad, ◌>>=◌, ◌>>◌, guard}
use Rattle.tables.specs.Property.{told_form}
use Rattle.tables.specs.declared.property.PropertyForm.{PropertyForm}
use Rattle.kinds.specs.Kinds.{told_kind, kind_row}
use Rattle.kinds.specs.declared.Kind.{Kind}
use Rattle.promises.specs.OneResult.{OneResult}
use Rattle.promises.specs.OneRows.{or_row, kind_told, kind_answer, form_told, form_answer}
use Rattle.promises.proofs.OneLaws.{one_by}
use Rattle.promises.proofs.OneLeaves.{back_form, back_form_lem, back_kind, back_kind_lem}

-- ---- kinds

-- the answer of a row of the table
abbrev row_answer : ℕ × Bool × Option Layout → Fit (ℕ × Layout)
row_answer z = guard (not z.1) (nr 4 (z.0 ∷ [])) >> (or_row (nr 6 (z.0 ∷ [])) z.2 >>= λ l. got (z.0, l))

kind_row_lem : (r : Kind) → kind_told r ≡ row_answer (told_kind r)
kind_row_lem Kind.Publish = refl
kind_row_lem (Kind.Ack k) = refl
kind_row_lem Kind.Subscribe = refl
kind_row_lem (Kind.Reply k) = refl
kind_row_lem Kind.Unsubscribe = refl
kind_row_lem Kind.PingReq = refl
kind_row_lem Kind.PingResp = refl
kind_row_lem (Kind.Reserved k) = refl
kind_row_lem (Kind.NotCarried k) = refl

-- of every answer that meets the contract of `kind_of`: 01's rows 4 and 6, or the kind
pub kind_answered : (r : Kind) (k : ℕ) → told_kind r ≡ kind_row k → kind_told r ≡ kind_answer k
kind_answered r k e = kind_row_lem r ∙ ap row_answer e

first : List ℕ → ℕ
first [] = 0
first (v ∷ vs) = v

abbrev row_of_kind : Fit (ℕ × Layout) → ℕ × Bool × Option Layout
row_of_kind (got z) = (z.0, false, some z.1)
row_of_kind (bad (nr k vs)) = (first vs, eqb k 4, none)

kind_back : (r : Kind) → row_of_kind (kind_told r) ≡ told_kind r
unfolding first
kind_back Kind.Publish = refl
kind_back (Kind.Ack k) = refl
kind_back Kind.Subscribe = refl
kind_back (Kind.Reply k) = refl
kind_back Kind.Unsubscribe = refl
kind_back Kind.PingReq = refl
kind_back Kind.PingResp = refl
kind_back (Kind.Reserved k) = refl
kind_back (Kind.NotCarried k) = refl

pub kind_told_same : OneResult kind_told
kind_told_same = one_by kind_told (λ z. back_kind (row_of_kind z)) (λ r. ap back_kind (kind_back r) ∙ back_kind_lem r)

-- ---- properties

form_row : (i : ℕ) (r : std.Option PropertyForm) → form_told i r ≡ or_row (nr 10 (i ∷ [])) (told_form r)
form_row i (Some PropertyForm.U8) = refl
form_row i (Some PropertyForm.U16) = refl
form_row i (Some PropertyForm.U32) = refl
form_row i (Some PropertyForm.Number) = refl
form_row i (Some PropertyForm.Text) = refl
form_row i (Some PropertyForm.Bytes) = refl
form_row i (Some PropertyForm.Pair) = refl
form_row i None = refl

-- of every answer that meets the contract of `property`: 01's row 10, or the form
pub form_answered : (r : std.Option PropertyForm) (row : Row) (i : ℕ) → told_form r ≡ form_at row i → form_told i r ≡ form_answer row i
form_answered r row i e = form_row i r ∙ ap (or_row (nr 10 (i ∷ []))) e

abbrev if_got : Fit Form → Option Form
if_got (got f) = some f
if_got (bad k) = none

form_back : (i : ℕ) (r : std.Option PropertyForm) → if_got (form_told i r) ≡ told_form r
form_back i (Some PropertyForm.U8) = refl
form_back i (Some PropertyForm.U16) = refl
form_back i (Some PropertyForm.U32) = refl
form_back i (Some PropertyForm.Number) = refl
form_back i (Some PropertyForm.Text) = refl
form_back i (Some PropertyForm.Bytes) = refl
form_back i (Some PropertyForm.Pair) = refl
form_back i None = refl

pub form_told_same : (i : ℕ) → OneResult (form_told i)
form_told_same i = one_by (form_told i) (λ z. back_form (if_got z)) (λ r. ap back_form (form_back i r) ∙ back_form_lem r)
