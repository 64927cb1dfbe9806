-- What leads back from a function's result leaves no choice of its argument; what leaves by a `?` tells the refusal that was met. Assumes nothing.
use mathlib.Core.Path.{◌≡◌, sym, ap, ◌∙◌}
use Rattle.std.specs.Prelude.{Result, Err, IsErrAnd}
use Rattle.std.proofs.lemmas.Result.{err_from_is_err_and}
use Rattle.reading.specs.Reader.{Fit, bad}
use Rattle.records.specs.AsNumbers.{told_error, told_by}
use Rattle.records.specs.declared.error.Error.{Error}

pub injective_by : {A B : Type 0} (f : A → B) (back : B → A) → ((a : A) → back (f a) ≡ a) → {a b : A} → f a ≡ f b → a ≡ b
injective_by f back from {a} {b} e = sym (from a) ∙ ap back e ∙ from b

-- the refusal e leaves by a `?`, as the answer r ..
pub err_is : {T : Type 0} (r : Result T Error) (e : Error) → IsErrAnd r (λ y. y ≡ e) → r ≡ Err e
err_is r e i = let p = err_from_is_err_and r i in p.1 ∙ ap Err p.2

-- .. which tells what e tells
pub handed_on : {T B : Type 0} (f : T → B) (r : Result T Error) (e : Error) {x : Fit B} → IsErrAnd r (λ y. y ≡ e) → bad (told_error e) ≡ x → told_by f r ≡ x
handed_on f r e i h = ap (told_by f) (err_is r e i) ∙ h
