-- Pairs and identifiers one behind the other. Assumes nothing.
use mathlib.Core.Path.{◌≡◌, refl, sym, ap, ◌∙◌}
use mathlib.Core.Logic.{◌⊎◌, inl, inr}
use mathlib.Core.List.{List, [], ◌∷◌, ◌++◌, append-nil}
use Prim.Native.Nat.{ℕ, ◌+◌, ◌-◌, ◌≤◌, ◌<◌, min}
use native.Mathlib.Omega.{arith}
use native.Mathlib.Numerals.{add-one}
use lib.ListN.{length, take, drop, get_or, length-append, length-take, length-drop, drop_of_length-le}
use lib.Seq.{sets, length-sets, drop-cons}
use Rattle.grammar.specs.Tables.{number, pair}
use Rattle.writing.specs.Handed.{Run, pairs, several}
use Rattle.writing.proofs.Tests.{le_or}
use Rattle.writing.proofs.ForCode.{run_from, string_at, strings_done}
use Rattle.write_runs.proofs.Laws.Run.{strings_cut}
use Rattle.write_lengths.specs.Fitting.{fit_short}
use Rattle.write_strings.specs.Fitting.{fit_string}
use Rattle.write_strings.proofs.Fits.{string_most}
use Rattle.write_properties.specs.Put.{Put}
use Rattle.write_properties.specs.Behind.{Behind}
use Rattle.write_properties.specs.Fitting.{fit_numeral, fit_value, fit_row}
use Rattle.write_properties.proofs.Laws.{sets_next, Putting, put_more, all_put}

-- ---- pairs

module _ (key val : List ℕ) where
  -- a pair is no longer than its strings and five bytes
  pub pair_count : (l : List ℕ) (at : ℕ) (l₁ : List ℕ) (k : ℕ) → Put l at (38 ∷ (fit_string key ++ fit_string val)) l₁ k → k ≤ 5 + length key + length val
  pair_count l at l₁ k p = omega (arith, p.count, length-append (fit_string key) (fit_string val), string_most key, string_most val)

  pub put_both : (l l₁ l₂ l₃ : List ℕ) (at m q k v : ℕ) → Behind l at (38 ∷ []) l₁ m → (l₂ ≡ sets l₁ m (fit_string key)) × (k ≡ length (fit_string key))
      → q ≡ min (at + (1 + k)) (length l₂) → (l₃ ≡ sets l₂ q (fit_string val)) × (v ≡ length (fit_string val)) → Put l at (38 ∷ (fit_string key ++ fit_string val)) l₃ (1 + k + v)
  put_both l l₁ l₂ l₃ at m q k v p (f, c) o (g, d) =
      let s : 1 + k ≡ length (38 ∷ fit_string key) = omega (arith, c) in
      record {
        stores = sets_next l l₂ l₃ (38 ∷ fit_string key) (fit_string val) at q (sets_next l l₁ l₂ (38 ∷ []) (fit_string key) at m p.stores p.place f) (o ∙ rw s) g;
        count = omega (arith, c, d, length-append (fit_string key) (fit_string val));
      }

  -- no place is cut off where there is room for all
  pub put_whole : (l l₁ l₂ l₃ : List ℕ) (at m k v : ℕ) → Behind l at (38 ∷ []) l₁ m → (l₂ ≡ sets l₁ m (fit_string key)) × (k ≡ length (fit_string key))
      → at + (5 + length key + length val) ≤ length l → (l₃ ≡ sets l₂ (at + (1 + k)) (fit_string val)) × (v ≡ length (fit_string val)) → Put l at (38 ∷ (fit_string key ++ fit_string val)) l₃ (1 + k + v)
  put_whole l l₁ l₂ l₃ at m k v p f h g =
      let s : length l₂ ≡ length l = ap length f.0 ∙ length-sets l₁ m (fit_string key) ∙ ap length p.stores ∙ length-sets l at (38 ∷ []) in
      put_both l l₁ l₂ l₃ at m (at + (1 + k)) k v p f (omega (arith, s, f.1, string_most key)) g

module _ (r : Run) (i p mid q : ℕ) where
  pub pairs_cut : mid ≡ min (p + get_or r.lengths i 0) (length r.bytes) → q ≡ min (mid + get_or r.lengths (i + 1) 0) (length r.bytes) → i + 1 < length r.lengths
      → fit_row (38, pair) (pairs (run_from r i p)) ≡ (38 ∷ (fit_string (string_at r i p) ++ fit_string (string_at r (i + 1) mid))) ++ fit_row (38, pair) (pairs (run_from r (i + 2) q))
  unfolding fit_value
  pairs_cut e f h =
      let s : i + 1 + 1 ≡ i + 2 = omega arith in
      let l : i < length r.lengths = omega arith in
      rw (strings_cut r i p mid e l, strings_cut r (i + 1) mid q f h, s)

  -- a length that is left over has no pair
  pub pairs_done : length r.lengths ≤ i + 1 → fit_row (38, pair) (pairs (run_from r i p)) ≡ []
  pairs_done h = go (le_or (length r.lengths) i)
    where
      go : (length r.lengths ≤ i) ⊎ (i < length r.lengths) → fit_row (38, pair) (pairs (run_from r i p)) ≡ []
      go (inl l) = rw (strings_done r i p l)
      go (inr l) = rw (strings_cut r i p (min (p + get_or r.lengths i 0) (length r.bytes)) refl l, strings_done r (i + 1) (min (p + get_or r.lengths i 0) (length r.bytes)) h)

-- strings that are all in the run, from index p on
pub part_length : (s : List ℕ) (p k : ℕ) → p + k ≤ length s → (n : ℕ) → n ≡ k → length (take n (drop p s)) ≡ k
part_length s p k h n e = omega (arith, length-take n (drop p s), length-drop p s)

module _ (r : Run) (i p : ℕ) where
  abbrev mid : ℕ
  mid = p + get_or r.lengths i 0

  abbrev end : ℕ
  end = mid + get_or r.lengths (i + 1) 0

  pub pairs_whole : i + 1 < length r.lengths → end ≤ length r.bytes
      → fit_row (38, pair) (pairs (run_from r i p)) ≡ (38 ∷ (fit_string (take (mid - p) (drop p r.bytes)) ++ fit_string (take (end - mid) (drop mid r.bytes)))) ++ fit_row (38, pair) (pairs (run_from r (i + 2) end))
  pairs_whole h l =
      let k : mid - p ≡ get_or r.lengths i 0 = omega arith in
      let v : end - mid ≡ get_or r.lengths (i + 1) 0 = omega arith in
      pairs_cut r i p mid end (omega arith) (omega arith) h ∙ rw (k, v)

-- what is left is put as one
pub put_rest : {before whole out rest : List ℕ} {at n : ℕ} → Putting before at whole out n rest → at + n ≤ length out
    → (out' : List ℕ) (k : ℕ) → Put out (at + n) rest out' k → Put before at whole out' (n + k)
put_rest {rest = rest} p h out' k q = all_put (put_more p rest [] (sym (append-nil rest)) _ (omega arith) out' k q) refl

-- ---- identifiers

module _ (ns : List ℕ) (i : ℕ) where
  pub ids_more : i < length ns → fit_row (11, number) (several (drop i ns)) ≡ (11 ∷ fit_short (get_or ns i 0)) ++ fit_row (11, number) (several (drop (i + 1) ns))
  unfolding fit_value fit_numeral
  ids_more h = rw (drop-cons ns i 0 h, add-one i)

  pub ids_done : length ns ≤ i → fit_row (11, number) (several (drop i ns)) ≡ []
  ids_done h = rw (drop_of_length-le ns h)
