-- What leads back from what is told leaves no choice of an answer. Assumes nothing.
use mathlib.Core.Path.{◌≡◌, sym, ap, ◌∙◌}
use Rattle.std.specs.Prelude.{Result, Ok, Err}
use Rattle.records.specs.AsNumbers.{told_by}
use Rattle.records.proofs.Laws.{injective_by}
use Rattle.records.proofs.AsNumbers.{back_error_lem, back_fit}
use Rattle.records.specs.declared.error.Error.{Error}
use Rattle.promises.specs.OneResult.{OneResult}

pub one_by : {A B : Type 0} (told : A → B) (back : B → A) → ((a : A) → back (told a) ≡ a) → OneResult told
one_by told back from d a b i j = injective_by told back from (i ∙ sym j)

-- an answer that is a value or a refusal: what leads back from what f tells of a value leads back from the answer
pub back_told_lem : {T B : Type 0} (f : T → B) (back : B → Result T Error) → ((x : T) → back (f x) ≡ Ok x) → (r : Result T Error) → back_fit back Err (told_by f r) ≡ r
back_told_lem f back from (Ok x) = from x
back_told_lem f back from (Err e) = ap Err (back_error_lem e)

pub one_told : {T B : Type 0} (f : T → B) (back : B → Result T Error) → ((x : T) → back (f x) ≡ Ok x) → OneResult (told_by f)
one_told f back from = one_by (told_by f) (back_fit back Err) (back_told_lem f back from)
