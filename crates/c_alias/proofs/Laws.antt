-- An alias that C hands over behind a flag is told as the two numbers say; what is told of an answer has its number. Assumes nothing.
use mathlib.Core.Path.{◌≡◌, refl, ap, ◌∙◌}
use mathlib.Core.Bool.{Bool, true, false, cond}
use Prim.Native.Nat.{ℕ}
use Rattle.std.specs.Prelude as std
use Rattle.std.specs.Prelude.{Some, None, Result, Ok, Err}
use Rattle.std.proofs.Math.Option.{none, some}
use Rattle.records.specs.AsNumbers.{number_if}
use Rattle.alias.specs.AliasAnswer.{told_alias, alias_by}
use Rattle.alias.specs.declared.AliasError.{AliasError}
use Rattle.c_layout.specs.Value.{fit_number}
use Rattle.c_layout.proofs.Laws.{bad_number}
use Rattle.c_arguments.specs.Given.{is_on, given, maybe}
use Rattle.c_alias.specs.Force.{answered_number}

if_on : (b : Bool) (n : ℕ) → number_if (cond b (Some n) None) ≡ cond b (some n) none
if_on true n = refl
if_on false n = refl

pub given_told : (on n : ℕ) {o : std.Option ℕ} → o ≡ given on n → number_if o ≡ maybe on n
given_told on n e = ap number_if e ∙ if_on (is_on on) n

pub number_told : {T B : Type 0} (f : T → B) (r : Result T AliasError) → answered_number r ≡ fit_number (alias_by f r)
number_told f (Ok x) = refl
number_told {B = B} f (Err e) = bad_number B (told_alias e)
