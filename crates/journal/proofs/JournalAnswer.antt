-- What answers tell leads back to them: a contract leaves no choice of an answer.
-- Assumes nothing.
use mathlib.Core.Path.{◌≡◌, refl, sym, ap, ap₂, ◌∙◌}
use mathlib.Core.Bool.{cond}
use mathlib.Core.List.{List}
use Prim.Native.Nat.{ℕ}
use lib.Dec.{eqb}
use Rattle.std.specs.Prelude.{Result, Ok, Err}
use Rattle.reading.specs.Refusal.{nr}
use Rattle.records.proofs.Laws.{injective_by}
use Rattle.inflight.specs.TableAnswer.{waits_of}
use Rattle.inflight.specs.declared.InFlight.{InFlight}
use Rattle.inflight.proofs.TableAnswer.{table_same}
use Rattle.journal.specs.Area.{Says, started, saved, recovered, refused}
use Rattle.journal.specs.JournalAnswer.{start_of, save_of, found_of, FreshUnless, Recovers, Looks}
use Rattle.journal.specs.declared.BadArea.{BadArea}
use Rattle.journal.specs.declared.SaveError.{SaveError}
use Rattle.journal.specs.declared.FindError.{FindError}
use Rattle.journal.specs.declared.Stored.{Stored}
use Rattle.journal.specs.declared.Recovered.{Recovered}

back_start : Says → Result (Unit {0}) BadArea
back_start started = Ok tt
back_start (saved n i) = Err record {}
back_start (recovered n t) = Err record {}
back_start (refused k) = Err record {}

back_start_lem : (r : Result (Unit {0}) BadArea) → back_start (start_of r) ≡ r
unfolding back_start
back_start_lem (Ok u) = refl
back_start_lem (Err e) = refl

pub started_same : {a b : Result (Unit {0}) BadArea} → start_of a ≡ start_of b → a ≡ b
started_same = injective_by start_of back_start back_start_lem

back_save : Says → Result Stored SaveError
back_save started = Err SaveError.BadArea
back_save (saved n i) = Ok record { number = n; block = i }
back_save (recovered n t) = Err SaveError.BadArea
back_save (refused (nr k vs)) = Err (cond (eqb k 32) SaveError.BadArea SaveError.JournalEnded)

back_save_lem : (r : Result Stored SaveError) → back_save (save_of r) ≡ r
unfolding back_save
back_save_lem (Ok s) = refl
back_save_lem (Err SaveError.BadArea) = refl
back_save_lem (Err SaveError.JournalEnded) = refl

pub saved_same : {a b : Result Stored SaveError} → save_of a ≡ save_of b → a ≡ b
saved_same = injective_by save_of back_save back_save_lem

back_found : Says → Result ℕ FindError
back_found started = Err FindError.BadArea
back_found (saved n i) = Err FindError.BadArea
back_found (recovered n t) = Ok n
back_found (refused (nr k vs)) = Err (cond (eqb k 32) FindError.BadArea FindError.JournalEmpty)

back_found_lem : (f : Result ℕ FindError) (t : List ℕ) → back_found (found_of f t) ≡ f
unfolding back_found
back_found_lem (Ok n) t = refl
back_found_lem (Err FindError.BadArea) t = refl
back_found_lem (Err FindError.JournalEmpty) t = refl

same_table : (f : Result ℕ FindError) (t u : List ℕ) → found_of f t ≡ found_of f u → FreshUnless f t → FreshUnless f u → t ≡ u
same_table (Ok n) t u e g h = cc
same_table (Err f) t u e g h = g ∙ sym h

told_same : (s : Says) (f g : Result ℕ FindError) (t u : InFlight) → found_of f (waits_of t) ≡ s → FreshUnless f (waits_of t) → found_of g (waits_of u) ≡ s → FreshUnless g (waits_of u)
    → (f ≡ g) × (t ≡ u)
told_same s f g t u p x q y = (e, table_same (same_table f (waits_of t) (waits_of u) (p ∙ sym q ∙ ap (λ (h : Result ℕ FindError). found_of h (waits_of u)) (sym e)) x (rw e y)))
  where
    e : f ≡ g
    e = sym (back_found_lem f (waits_of t)) ∙ ap back_found (p ∙ sym q) ∙ back_found_lem g (waits_of u)

both : {f g : Result ℕ FindError} {t u : InFlight} → (f ≡ g) × (t ≡ u) → ◌≡◌ {A = Recovered} record { found = f; table = t } record { found = g; table = u }
both p = ap₂ (λ (f : Result ℕ FindError) (t : InFlight). record { found = f; table = t }) p.0 p.1

pub recovered_same : (a : List ℕ) (x y : Recovered) → Recovers a x → Recovers a y → x ≡ y
recovered_same a x y p q = both (told_same _ x.found y.found x.table y.table p.says p.fresh q.says q.fresh)

pub looked_same : (a : List ℕ) (i : ℕ) (x y : Recovered) → Looks a i x → Looks a i y → x ≡ y
looked_same a i x y p q = both (told_same _ x.found y.found x.table y.table p.says p.fresh q.says q.fresh)
