-- Inputs admit one answer only: each answer comes back from what it tells, and two parts that are said alike are the same address and bytes.
-- Assumes nothing.
use Rattle.std.specs.Prelude.{Result, Ok, Err}
use mathlib.Core.Path.{◌≡◌, refl, sym, ap, ◌∙◌}
use mathlib.Core.Option.{Option, none, some}
use mathlib.Core.List.{List, [], ◌∷◌}
use Prim.Native.Nat.{ℕ}
use denote.Ref.{Bor}
use Rattle.grammar.specs.Choice.{lookup}
use Rattle.reading.specs.Refusal.{Refusal, nr}
use Rattle.reading.specs.Reader.{Fit, got, bad}
use Rattle.records.specs.AsNumbers.{back_span}
use Rattle.records.proofs.Laws.{injective_by}
use Rattle.wire.proofs.Laws.{part_at_same}
use Rattle.alias.specs.Alias.{Lies, in_packet, in_table}
use Rattle.alias.specs.AliasAnswer.{told_alias, alias_by, told_judged, told_lies, told_placed, PartIn}
use Rattle.alias.specs.declared.AliasError.{AliasError}
use Rattle.alias.specs.declared.Placed.{Placed}

-- the refusal of each number
rows : List (ℕ × AliasError)
rows =
    (24, AliasError.AliasTableBad)
    ∷ (25, AliasError.AliasInvalid)
    ∷ (26, AliasError.TopicMissing)
    ∷ (27, AliasError.AliasUnknown)
    ∷ []

abbrev or_last : Option AliasError → AliasError
or_last none = AliasError.AliasNoRoom
or_last (some e) = e

abbrev back_alias : Refusal → AliasError
back_alias (nr n vs) = or_last (lookup rows n)

back_alias_lem : (e : AliasError) → back_alias (told_alias e) ≡ e
unfolding rows
back_alias_lem AliasError.AliasTableBad = refl
back_alias_lem AliasError.AliasInvalid = refl
back_alias_lem AliasError.TopicMissing = refl
back_alias_lem AliasError.AliasUnknown = refl
back_alias_lem AliasError.AliasNoRoom = refl

-- two refusals with one number are the same
pub alias_same : {e d : AliasError} → told_alias e ≡ told_alias d → e ≡ d
alias_same = injective_by told_alias back_alias back_alias_lem

-- what an answer tells leads back to it, if what its value tells does
module _ {T B : Type 0} (f : T → B) (back : B → T) (from : (x : T) → back (f x) ≡ x) where
  abbrev back_by : Fit B → Result T AliasError
  back_by (got y) = Ok (back y)
  back_by (bad k) = Err (back_alias k)

  back_by_lem : (r : Result T AliasError) → back_by (alias_by f r) ≡ r
  back_by_lem (Ok x) = ap Ok (from x)
  back_by_lem (Err e) = ap Err (back_alias_lem e)

  answer_same : (d : Fit B) (r q : Result T AliasError) → alias_by f r ≡ d → alias_by f q ≡ d → r ≡ q
  answer_same d r q e g = injective_by (alias_by f) back_by back_by_lem (e ∙ sym g)

-- demand 1, of `judge`, `learn_topic` and `learn`
pub judged_same : (d : Fit (Unit {0})) (r q : Result (Unit {0}) AliasError) → told_judged r ≡ d → told_judged q ≡ d → r ≡ q
judged_same = answer_same (λ u. u) (λ u. u) (λ u. refl)

abbrev back_lies : Lies → Placed
back_lies (in_packet p) = Placed.InPacket (back_span p)
back_lies (in_table p) = Placed.InTable (back_span p)

back_lies_lem : (p : Placed) → back_lies (told_lies p) ≡ p
back_lies_lem (Placed.InPacket p) = refl
back_lies_lem (Placed.InTable p) = refl

-- demand 1, of `place_in_force`
pub placed_same : (d : Fit Lies) (r q : Result Placed AliasError) → told_placed r ≡ d → told_placed q ≡ d → r ≡ q
placed_same = answer_same told_lies back_lies back_lies_lem

-- demand 1, of `topic_in_force`
pub part_in_same : (s t r q : Bor (List ℕ)) (w : Fit Lies) → PartIn s t w r → PartIn s t w q → (r.ref_ptr ≡ q.ref_ptr) × (r.now ≡ q.now)
part_in_same s t r q (got (in_packet p)) a b = part_at_same a b
part_in_same s t r q (got (in_table p)) a b = part_at_same a b
part_in_same s t r q (bad k) a b = part_at_same a b
