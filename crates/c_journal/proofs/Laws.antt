-- The ways that a call of C can end.
-- Assumes nothing.
use mathlib.Core.Path.{◌≡◌, refl, ap, ◌∙◌}
use mathlib.Core.Bool.{Bool, true, false, cond}
use mathlib.Core.List.{List, [], ◌∷◌}
use Prim.Native.Nat.{ℕ, ◌<◌, ◌≤◌}
use lib.Seq.{sets}
use borrow.Author.Tests.{ne_eqb, lt-ltb, le-ltb}
use Rattle.inflight.specs.Rules.{limit, is_table}
use Rattle.inflight.specs.TableAnswer.{waits_of}
use Rattle.std.specs.Prelude.{Result, Ok, Err}
use Rattle.std.specs.Result.{IsErrAnd, result_unwrap_or}
use Rattle.std.proofs.lemmas.Result.{err_from_is_err_and}
use Rattle.reading.specs.Refusal.{nr}
use Rattle.c_journal.specs.declared.SaveRefused.{SaveRefused}
use Rattle.journal.specs.Area.{whole, save, recover, Says, bad_area, refused, Left, left}
use Rattle.journal.specs.JournalAnswer.{save_of, found_of, FreshUnless, Recovers}
use Rattle.journal.specs.declared.SaveError.{SaveError}
use Rattle.journal.specs.declared.FindError.{FindError}
use Rattle.journal.specs.declared.Stored.{Stored}
use Rattle.journal.specs.declared.Recovered.{Recovered}
use Rattle.c_journal.specs.Given.{number_of, first_of, block_of, table_of, says_of, save_given, room_number, Ends}

-- the area and what was said are those of a call
pub ends_by : {a : List ℕ} {s : Says} {l : Left} {n : ℕ} → left a s ≡ l → n ≡ number_of s → Ends l n a
ends_by e p = record { returned = p ∙ ap (λ (x : Left). number_of x.says) e; area = ap (λ (x : Left). x.area) e }

-- a save of lent bytes
pub save_area : (b a : List ℕ) → whole a ≡ false → left a bad_area ≡ save_given b a
unfolding save_given save
save_area b a w = go (is_table b)
  where
    go : (x : Bool) → left a bad_area ≡ cond x (save limit b a) (cond (whole a) (left a (refused (nr 39 []))) (left a bad_area))
    go true = rw w
    go false = rw w

pub save_table : (b a : List ℕ) → whole a ≡ true → is_table b ≡ false → left a (refused (nr 39 [])) ≡ save_given b a
unfolding save_given
save_table b a w f = rw (f, w)

pub save_fine : (b a : List ℕ) {t : List ℕ} {l : Left} → is_table b ≡ true → t ≡ b → l ≡ save limit t a → l ≡ save_given b a
unfolding save_given
save_fine b a f e g = rw f (g ∙ ap (λ (u : List ℕ). save limit u a) e)

-- what was refused, by an error handed on
pub journal_says : (r : Result Stored SaveRefused) (e : SaveError) → IsErrAnd r (λ x. x ≡ SaveRefused.Journal e) → says_of r ≡ save_of (Err e)
journal_says r e p = let q = err_from_is_err_and r p in rw (q.1, q.2)

pub table_says : (r : Result Stored SaveRefused) → IsErrAnd r (λ x. x ≡ SaveRefused.BadTable) → says_of r ≡ refused (nr 39 [])
table_says r p = let q = err_from_is_err_and r p in rw (q.1, q.2)

table_told : (f : Result ℕ FindError) (t : List ℕ) → FreshUnless f t → t ≡ table_of (found_of f t)
table_told (Ok n) t h = refl
table_told (Err FindError.BadArea) t h = h
table_told (Err FindError.JournalEmpty) t h = h

pub recovered_table : {a : List ℕ} (r : Recovered) → Recovers a r → waits_of r.table ≡ table_of (recover limit a)
recovered_table r p = table_told r.found (waits_of r.table) p.fresh ∙ ap table_of p.says

pub room_bad : (n m : ℕ) → n ≡ 32 → 32 ≡ room_number n m
unfolding room_number
room_bad n m e = rw e

pub room_short : (n m : ℕ) → (n ≡ 32 → ⊥) → m < limit → 39 ≡ room_number n m
unfolding room_number
room_short n m e h = rw (ne_eqb n 32 e, lt-ltb m limit h)

pub room_fine : (n m : ℕ) → (n ≡ 32 → ⊥) → limit ≤ m → n ≡ room_number n m
unfolding room_number
room_fine n m e h = rw (ne_eqb n 32 e, le-ltb m limit h)

-- what is returned does not hang on the table
pub number_any : (f : Result ℕ FindError) (t : List ℕ) → number_of (found_of f []) ≡ number_of (found_of f t)
number_any (Ok n) t = refl
number_any (Err FindError.BadArea) t = refl
number_any (Err FindError.JournalEmpty) t = refl

pub first_found : (f : Result ℕ FindError) (t : List ℕ) → result_unwrap_or f 0 ≡ first_of (found_of f t)
first_found (Ok n) t = refl
first_found (Err FindError.BadArea) t = refl
first_found (Err FindError.JournalEmpty) t = refl

-- what a save stores
pub stored_by : {a : List ℕ} {s : Says} {l : Left} (out : List ℕ) → left a s ≡ l → sets out 0 (first_of s ∷ block_of s ∷ []) ≡ sets out 0 (first_of l.says ∷ block_of l.says ∷ [])
stored_by out e = ap (λ (x : Left). sets out 0 (first_of x.says ∷ block_of x.says ∷ [])) e
