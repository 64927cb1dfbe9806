-- What C is handed of a walk over user properties: bindings/c/ecchjulmina.h, enum ecch_next_user_layout. Assumes nothing.
use Rattle.std.specs.Prelude.{◌≡◌, List, [], ◌∷◌, ℕ}
use Rattle.std.proofs.Math.Option.{Option, none, some}
use Rattle.std.proofs.lemmas.List.Edits.{sets}
use Rattle.grammar.specs.Record.{Val, num, str, duo}
use Rattle.grammar.specs.Tables.{Row}
use Rattle.reading.specs.Reader.{Fit, got, bad}
use Rattle.reading.specs.Place.{Span, held_of, no_item}
use Rattle.c_layout.specs.Value.{fit_number}
use Rattle.walker.specs.Walk.{Next}

-- 02, P7: "yields user properties one after another", in the bytes before index `end`, in the row of a kind; header: "any other is 21"
abbrev pub Steps : Option Row → List ℕ → ℕ → ℕ → Fit (Val Span) → ℕ → Type 0
Steps none s end at o m = (o ≡ bad no_item) × (m ≡ at)
Steps (some row) s end at o m = Next row (held_of s (record { start = 0; len = end })) at o m

-- ecch_next_user_layout: the index after it, or where the walk stands; the places of key and value
abbrev pub step_numbers : ℕ → Fit (Val Span) → List ℕ
step_numbers m (got (num n)) = m ∷ 0 ∷ 0 ∷ 0 ∷ 0 ∷ []
step_numbers m (got (str p)) = m ∷ 0 ∷ 0 ∷ 0 ∷ 0 ∷ []
step_numbers m (got (duo k v)) = m ∷ k.start ∷ k.len ∷ v.start ∷ v.len ∷ []
step_numbers m (bad k) = m ∷ 0 ∷ 0 ∷ 0 ∷ 0 ∷ []

-- the contract of `ecch_next_user`: what comes next, o, and where the walk stands then, m, of which there is one (**next_one**, walker), are returned and stored
pub record Stored (row : Option Row) (s : List ℕ) (end at number : ℕ) (before after : List ℕ) : Type 0 where
  pub o : Fit (Val Span)
  pub m : ℕ
  pub steps : Steps row s end at o m
  pub returned : number ≡ fit_number o
  pub stored : after ≡ sets before 0 (step_numbers m o)
