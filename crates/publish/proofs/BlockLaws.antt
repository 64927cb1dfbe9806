-- A loop over the block of a Publish, past its lists; and the values that it was given. Assumes nothing.
use mathlib.Core.Path.{◌≡◌, refl, ◌∙◌}
use mathlib.Core.Bool.{Bool, true, false}
use mathlib.Core.List.{List}
use Prim.Native.Nat.{ℕ, ◌<◌}
use native.Mathlib.Omega.{arith}
use lib.ListN.{length, get_or}
use Rattle.reading.specs.Reader.{Fit}
use Rattle.property_value.specs.OneProperty.{publish_lists, PropertyPassed}
use Rattle.properties.specs.Block.{publish_record}
use Rattle.properties.proofs.Laws.Fold.{Filling, over_ahead, loop_over}
use Rattle.std.specs.Bool.{then_some}
use Rattle.grammar.specs.Record.{num, str}
use Rattle.records.specs.AsNumbers.{told_span, told_number_if, told_string}
use Rattle.records.specs.declared.span.Span.{Span}
use Rattle.publish.specs.Singles.{ListsPassed, given}

pub lists_none : (s : List ℕ) (at : ℕ) → ListsPassed s at at
lists_none s at = record { ahead = omega arith; rest = λ o σ t. refl }

-- one of them more
pub lists_next : {s : List ℕ} {from at r : ℕ} → ListsPassed s from at → at < length s → PropertyPassed publish_lists s at r → (r ≡ at → ⊥) → ListsPassed s from r
lists_next {s = s} {at = at} L h P ne = record {
  ahead = omega (arith, L.ahead, over_ahead P ne);
  rest = λ o σ t. L.rest o σ t ∙ loop_over P ne h o σ (t (get_or s at 0));
}

-- what a loop keeps, behind them
pub filling_lists : {s : List ℕ} {whole : Fit publish_record.Props} {o : publish_record.Props} {at r : ℕ} → Filling publish_record s whole o at → ListsPassed s at r → Filling publish_record s whole o r
filling_lists {o = o} f L = record { σ = f.σ; there = f.there; rest = f.rest ∙ L.rest o f.σ f.there }

-- a flag and its value, as an Option and as it is told
pub number_given : (on : Bool) (x : ℕ) → told_number_if (then_some on x) ≡ given on (num x)
number_given true x = refl
number_given false x = refl

pub string_given : (on : Bool) (p : Span) → told_string (then_some on p) ≡ given on (str (told_span p))
string_given true p = refl
string_given false p = refl
