-- Puts one behind the other: what is put behind bytes that were put is one put of both, also where the index behind them is past the end.
-- Assumes nothing.
use mathlib.Core.Path.{◌≡◌, refl, sym, ap, ◌∙◌}
use mathlib.Core.Bool.{true}
use mathlib.Core.Logic.{◌⊎◌, inl, inr}
use mathlib.Core.Option.{some}
use mathlib.Core.List.{List, [], ◌∷◌, ◌++◌, append-nil}
use Prim.Native.Nat.{ℕ, ◌+◌, ◌≤◌, ◌<◌, min}
use native.Mathlib.Omega.{arith}
use lib.ListN.{length, length-append}
use lib.Seq.{sets, length-sets}
use Rattle.grammar.specs.Tables.{Form, number}
use Rattle.writing.specs.Handed.{one}
use Rattle.writing.specs.Spell.{wide, numeral, value, row_bytes}
use Rattle.writing.proofs.Tests.{le_or}
use Rattle.write_bytes.proofs.Laws.{sets_append, sets_out}
use Rattle.writing.proofs.Says.{length_wide}
use Rattle.write_runs.specs.Given.{given_lent}
use Rattle.write_lengths.specs.Fitting.{fit_short}
use Rattle.write_strings.specs.Fitting.{fit_string}
use Rattle.write_properties.specs.Put.{Put}
use Rattle.write_properties.specs.Behind.{Behind}
use Rattle.write_properties.specs.Fitting.{fit_numeral, fit_value, fit_row}

-- an index past the end is as good as the end
pub sets_min : (l xs : List ℕ) (k : ℕ) → sets l (min k (length l)) xs ≡ sets l k xs
sets_min l xs k = go (le_or k (length l))
  where
    go : (k ≤ length l) ⊎ (length l < k) → sets l (min k (length l)) xs ≡ sets l k xs
    go (inl h) = let e : min k (length l) ≡ k = omega arith in rw e
    go (inr h) = sym (sets_out xs l (min k (length l)) (omega arith)) ∙ sets_out xs l k (omega arith)

pub put_none : (l : List ℕ) (at : ℕ) → Put l at [] l 0
put_none l at = record { stores = refl; count = refl }

module _ (l l₁ l₂ xs ys : List ℕ) (at m : ℕ) (e : l₁ ≡ sets l at xs) (n : m ≡ min (at + length xs) (length l₁)) (f : l₂ ≡ sets l₁ m ys) where
  pub sets_next : l₂ ≡ sets l at (xs ++ ys)
  sets_next = f ∙ rw (n, sets_min l₁ ys (at + length xs), e, sets_append xs ys l at)

-- stored, or put, and the index behind it
pub store_next : (xs : List ℕ) {l l₁ : List ℕ} {at n m : ℕ} → l₁ ≡ sets l at xs → n ≡ length xs → m ≡ min (at + n) (length l₁) → Behind l at xs l₁ m
store_next xs e f g = record { stores = e; place = g ∙ rw f }

pub put_next : {l l₁ xs : List ℕ} {at n m : ℕ} → Put l at xs l₁ n → m ≡ min (at + n) (length l₁) → Behind l at xs l₁ m
put_next {xs = xs} p g = store_next xs p.stores p.count g

-- and then what is stored there
module _ {l l₁ l₂ xs : List ℕ} {at m : ℕ} (p : Behind l at xs l₁ m) where
  pub next_last : (ys : List ℕ) → l₂ ≡ sets l₁ m ys → l₂ ≡ sets l at (xs ++ ys)
  next_last ys e = sets_next l l₁ l₂ xs ys at m p.stores p.place e

  pub next_then : {ys : List ℕ} {k : ℕ} → Behind l₁ m ys l₂ k → Behind l at (xs ++ ys) l₂ k
  next_then {ys} {k} q =
      let s : length l₂ ≡ length l₁ = ap length q.stores ∙ length-sets l₁ m ys in
      record { stores = next_last ys q.stores; place = omega (arith, s, p.place, q.place, length-append xs ys) }

-- ---- the rest of a list is left to put

-- of the bytes `whole`, which are to stand from `at` on, n are put, and `rest` is left
pub record Putting (before : List ℕ) (at : ℕ) (whole out : List ℕ) (n : ℕ) (rest : List ℕ) : Type 0 where
  pub same : length out ≡ length before
  pub stores : sets before at whole ≡ sets out (at + n) rest
  pub count : length whole ≡ n + length rest

pub none_put : (before : List ℕ) (at : ℕ) (whole : List ℕ) → Putting before at whole before 0 whole
none_put before at whole =
    let e : at + 0 ≡ at = omega arith in
    record { same = refl; stores = rw e; count = omega arith }

module _ {before whole out rest : List ℕ} {at n : ℕ} (p : Putting before at whole out n rest) where
  pub put_more : (xs ys : List ℕ) → rest ≡ xs ++ ys → (to : ℕ) → to ≡ min (at + n) (length out) → (out' : List ℕ) (k : ℕ) → Put out to xs out' k → Putting before at whole out' (n + k) ys
  put_more xs ys e to m out' k q =
      let s : out' ≡ sets out (at + n) xs = q.stores ∙ rw (m, sets_min out xs (at + n)) in
      let a : at + n + length xs ≡ at + (n + k) = omega (arith, q.count) in
      record {
        same = ap length s ∙ length-sets out (at + n) xs ∙ p.same;
        stores = p.stores ∙ rw (e, sets_append xs ys out (at + n), s, a);
        count = omega (arith, p.count, q.count, ap length e ∙ length-append xs ys);
      }

  pub all_put : rest ≡ [] → Put before at whole out n
  all_put e = record { stores = sym (p.stores ∙ rw e); count = sym (p.count ∙ rw e (omega arith)) }

-- ---- rows

-- an identifier byte, and a value behind it
pub put_row : (l l₁ l₂ xs : List ℕ) (at id m k : ℕ) → Behind l at (id ∷ []) l₁ m → l₂ ≡ sets l₁ m xs → k ≡ 1 + length xs → Put l at (id ∷ xs) l₂ k
put_row l l₁ l₂ xs at id m k p f c = record { stores = sets_next l l₁ l₂ (id ∷ []) xs at m p.stores p.place f; count = omega arith }

module _ (id : ℕ) (f : Form) where
  one_row : (n : ℕ) → row_bytes (id, f) (one (some n)) ≡ id ∷ numeral f n
  unfolding value
  one_row n = ap (λ (l : List ℕ). id ∷ l) (append-nil (numeral f n))

  number_row : (n : ℕ) → fit_row (id, f) (one (some n)) ≡ id ∷ fit_numeral f n
  unfolding fit_value
  number_row n = ap (λ (l : List ℕ). id ∷ l) (append-nil (fit_numeral f n))

  lent_row : (s : List ℕ) → fit_row (id, f) (given_lent true s) ≡ id ∷ fit_string s
  unfolding fit_value
  lent_row s = ap (λ (l : List ℕ). id ∷ l) (append-nil (fit_string s))

-- a number of w bytes
pub put_wide : (id : ℕ) (f : Form) (w n : ℕ) → numeral f n ≡ wide w n → (l l₁ l₂ : List ℕ) (at m : ℕ)
    → Behind l at (id ∷ []) l₁ m → l₂ ≡ sets l₁ m (wide w n) → Put l at (row_bytes (id, f) (one (some n))) l₂ (1 + w)
put_wide id f w n e l l₁ l₂ at m p q = rw (one_row id f n, e) (put_row l l₁ l₂ (wide w n) at id m (1 + w) p q (rw (length_wide w n)))

-- a variable length number
pub put_short : (id n : ℕ) (l l₂ : List ℕ) (at k : ℕ) → Put l at (id ∷ fit_short n) l₂ k → Put l at (fit_row (id, number) (one (some n))) l₂ k
unfolding fit_numeral
put_short id n l l₂ at k p = rw (number_row id number n) p

-- a string
pub put_string : (id : ℕ) (f : Form) (s l l₁ l₂ : List ℕ) (at m k : ℕ)
    → Behind l at (id ∷ []) l₁ m → (l₂ ≡ sets l₁ m (fit_string s)) × (k ≡ length (fit_string s)) → Put l at (fit_row (id, f) (given_lent true s)) l₂ (1 + k)
put_string id f s l l₁ l₂ at m k p (q, e) = rw (lent_row id f s) (put_row l l₁ l₂ (fit_string s) at id m (1 + k) p q (rw e))
