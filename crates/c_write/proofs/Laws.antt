-- What is returned, stored and written of an answer that is told in two ways. Assumes nothing.
use mathlib.Core.Path.{◌≡◌, sym, ap, ◌∙◌}
use mathlib.Core.Option.{Option}
use mathlib.Core.List.{List}
use Prim.Native.Nat.{ℕ}
use lib.ListN.{length}
use lib.Seq.{sets}
use Rattle.reading.specs.Reader.{Fit}
use Rattle.writing.specs.Handed.{Handed}
use Rattle.writing.specs.Write.{Written, answer_of, out_of, answered_behind, out_behind, WrittenBehind}
use Rattle.c_layout.specs.Value.{fit_number}
use Rattle.c_layout.specs.Answer.{answer_numbers}

-- what is returned, and the array before and after
abbrev Stored : ℕ → List ℕ → List ℕ → Fit ℕ → Type 0
Stored r before after t = (r ≡ fit_number t) × (after ≡ sets before 0 (answer_numbers t))

pub answered_by : (array : List ℕ) {r : ℕ} {stored : List ℕ} {t t' : Fit ℕ} → Stored r array stored t → t ≡ t' → Stored r array stored t'
answered_by array s e = (s.0 ∙ ap (fit_number {A = ℕ}) e, s.1 ∙ ap (λ (t : Fit ℕ). sets array 0 (answer_numbers t)) e)

-- the same with the output beside it
with_output : (array : List ℕ) {r : ℕ} {stored : List ℕ} {t t' : Fit ℕ} {A : Type 0} → Stored r array stored t → t ≡ t' → A → (r ≡ fit_number t') × (A × (stored ≡ sets array 0 (answer_numbers t')))
with_output array s e w = let a = answered_by array s e in (a.0, (w, a.1))

-- of a write, under equal limits and of equal hand-overs
pub written_by : (array before : List ℕ) {limit limit' : Option ℕ} {h h' : Handed} {r : ℕ} {stored after : List ℕ} {t : Fit ℕ} → Stored r array stored t → limit ≡ limit' → h ≡ h' → Written limit h before after t → (r ≡ fit_number (answer_of limit' (length before) h')) × ((after ≡ out_of limit' before h') × (stored ≡ sets array 0 (answer_numbers (answer_of limit' (length before) h'))))
written_by array before s e f w = rw (sym e, sym f) (with_output array s w.answer w.output)

-- the same where a number may be refused before all else
pub behind_by : (array before : List ℕ) {limit limit' : Option ℕ} {h h' : Fit Handed} {r : ℕ} {stored after : List ℕ} {t : Fit ℕ} → Stored r array stored t → limit ≡ limit' → h ≡ h' → WrittenBehind limit h before after t → (r ≡ fit_number (answered_behind h' limit' before)) × ((after ≡ out_behind h' limit' before) × (stored ≡ sets array 0 (answer_numbers (answered_behind h' limit' before))))
behind_by array before s e f w = rw (sym e, sym f) (with_output array s w.answer w.output)
