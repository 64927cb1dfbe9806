-- Bytes laid where there is room for them: sixteen by eights, and parts one behind the other. Assumes nothing.
use mathlib.Core.Path.{◌≡◌, refl, sym, ap, ◌∙◌}
use mathlib.Core.List.{List, [], ◌∷◌, ◌++◌}
use Prim.Native.Nat.{ℕ, ◌+◌, ◌≤◌}
use native.Mathlib.Omega.{arith}
use lib.ListN.{length, take, drop, length-append, length-drop}
use lib.Seq.{sets, length-sets, drop-drop}
use Rattle.grammar.specs.Octets.{Each}
use Rattle.std.specs.Prelude.{Option}
use Rattle.grammar.specs.Tables.{Form, number}
use Rattle.writing.specs.Handed.{several}
use Rattle.writing.specs.Spell.{short, row_bytes}
use Rattle.writing.specs.Size.{most}
use Rattle.writing.specs.Refuse.{Fine}
use Rattle.write_runs.specs.Given.{given_by, given_one}
use Rattle.write_runs.proofs.Laws.Given.{given_self}
use Rattle.write_bytes.proofs.Laws.{sets_append, put_more}
use Rattle.write_lengths.specs.Fitting.{fit_short}
use Rattle.write_lengths.proofs.Fits.{short_fits}
use Rattle.write_properties.specs.Put.{Put}
use Rattle.write_properties.specs.Fitting.{fit_row}
use Rattle.write_properties.proofs.Fits.{several_fit}
use Rattle.publish_write.specs.Laid.{Laid, Room}

-- sixteen by eights
module _ (s : List ℕ) (i : ℕ) (h : i + 16 ≤ length s) (l l₁ l₂ : List ℕ) (at : ℕ) where
  pub sixteen : l₁ ≡ sets l at (take 8 (drop i s)) → l₂ ≡ sets l₁ (at + 8) (take 8 (drop (i + 8) s)) → l₂ ≡ sets l at (take 16 (drop i s))
  sixteen e f =
      put_more l l₁ l₂ (drop i s) at 8 (omega (arith, length-drop i s)) e 8
      (f ∙ ap (λ (k : List ℕ). sets l₁ (at + 8) (take 8 k)) (sym (drop-drop 8 i s)))

-- ---- parts one behind the other

pub put_laid : {l l₁ xs : List ℕ} {at n : ℕ} → Put l at xs l₁ n → Laid l at xs l₁ (at + n)
put_laid p = record { stores = p.stores; place = rw p.count }

-- a number that may be absent
pub one_laid : (id : ℕ) (f : Form) (v : Option ℕ) {l l₁ : List ℕ} {at n : ℕ} → Put l at (row_bytes (id, f) (given_by (λ (n : ℕ). n) v)) l₁ n → Laid l at (row_bytes (id, f) (given_one v)) l₁ (at + n)
one_laid id f v p = put_laid (rw (given_self v) at p)

pub none_laid : (l : List ℕ) (at : ℕ) → Laid l at [] l at
none_laid l at = record { stores = refl; place = omega arith }

module _ {l l₁ l₂ xs : List ℕ} {at m : ℕ} (p : Laid l at xs l₁ m) where
  pub laid_last : (ys : List ℕ) → l₂ ≡ sets l₁ m ys → l₂ ≡ sets l at (xs ++ ys)
  laid_last ys e = e ∙ rw (p.stores, p.place, sets_append xs ys l at)

  pub laid_then : {ys : List ℕ} {k : ℕ} → Laid l₁ m ys l₂ k → Laid l at (xs ++ ys) l₂ k
  laid_then {ys} {k} q = record { stores = laid_last ys q.stores; place = omega (arith, p.place, q.place, length-append xs ys) }

-- a list that is stored as it stands
pub store_laid : (xs l l₁ : List ℕ) (at : ℕ) → l₁ ≡ sets l at xs → Laid l at xs l₁ (at + length xs)
store_laid xs l l₁ at e = record { stores = e; place = refl }

stored_laid : (xs l l₁ : List ℕ) (at n : ℕ) → l₁ ≡ sets l at xs → n ≡ length xs → Laid l at xs l₁ (at + n)
stored_laid xs l l₁ at n e f = record { stores = e; place = rw f }

-- a length that can be written
pub length_laid : (n : ℕ) → n ≤ most → {l l₁ : List ℕ} {at k : ℕ} → (l₁ ≡ sets l at (fit_short n)) × (k ≡ length (fit_short n)) → Laid l at (short n) l₁ (at + k)
length_laid n h {l} {l₁} {at} {k} (e, f) = let i = short_fits n h in stored_laid (short n) l l₁ at k (rw i at e) (rw i at f)

-- subscription identifiers that can be
pub ids_laid : (ids : List ℕ) → Each Fine ids → {l l₁ : List ℕ} {at n : ℕ} → Put l at (fit_row (11, number) (several ids)) l₁ n → Laid l at (row_bytes (11, number) (several ids)) l₁ (at + n)
ids_laid ids f p = put_laid (rw (several_fit 11 ids f) at p)

-- room for both is room for the first, and for the second behind it
pub room_first : (l xs ys : List ℕ) (at : ℕ) → Room l at (xs ++ ys) → Room l at xs
room_first l xs ys at h = record { fits = omega (arith, h.fits, length-append xs ys) }

pub room_rest : {l l₁ xs : List ℕ} {at m : ℕ} → Laid l at xs l₁ m → (ys : List ℕ) → Room l at (xs ++ ys) → Room l₁ m ys
room_rest {l} {l₁} {xs} {at} p ys h =
    let s : length l₁ ≡ length l = ap length p.stores ∙ length-sets l at xs in
    record { fits = omega (arith, h.fits, s, p.place, length-append xs ys) }

-- a store takes no room away
pub room_same : (l l₁ xs ys : List ℕ) (at p : ℕ) → l₁ ≡ sets l at xs → Room l p ys → Room l₁ p ys
room_same l l₁ xs ys at p e h = record { fits = omega (arith, h.fits, ap length e ∙ length-sets l at xs) }

-- a byte, and what stands behind it
pub first_laid : (x y : ℕ) (ys l l₁ l₂ : List ℕ) → y ≡ x → l₁ ≡ sets l 0 (y ∷ []) → l₂ ≡ sets l₁ 1 ys → l₂ ≡ sets l 0 (x ∷ ys)
first_laid x y ys l l₁ l₂ e f g = g ∙ rw (f, e)
