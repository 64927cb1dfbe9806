-- The array of numbers is the table of `filter_table` written number by number. Assumes nothing.
use mathlib.Core.Path.{◌≡◌, refl, sym, ap, ◌∙◌}
use mathlib.Core.List.{List, [], ◌∷◌, ◌++◌, append_assoc}
use Prim.Native.Nat.{ℕ, zero, suc, ◌+◌, ◌*◌, ◌≤◌, ◌<◌}
use native.Mathlib.Omega.{arith}
use lib.Dec.{leb}
use lib.ListN.{length, drop, length-append}
use lib.Seq.{sets, sets-eq}
use borrow.Author.Tests.{leb-true}
use Rattle.reading.specs.Reader.{Fit, got, bad}
use Rattle.reading.proofs.Reading.{from_bind, from_guard, from_got}
use Rattle.filter_table.specs.Table.{entries_of, table_of, table_after, filled_of}
use Rattle.filter_table.specs.declared.FilterEntry.{FilterEntry}
use Rattle.c_filters.specs.Numbers.{numbers_of, places_in, table_as}

numbers_length : (es : List FilterEntry) → length (numbers_of es) ≡ 3 * length es
numbers_length [] = refl
numbers_length (e ∷ es) = omega (arith, numbers_length es)

numbers_append : (es fs : List FilterEntry) → numbers_of (es ++ fs) ≡ numbers_of es ++ numbers_of fs
numbers_append [] fs = refl
numbers_append (e ∷ es) fs = ap (λ (l : List ℕ). e.start ∷ e.len ∷ e.options ∷ l) (numbers_append es fs)

-- what stands behind m entries of a table
numbers_drop : (m : ℕ) (es : List FilterEntry) (rest : List ℕ) → m ≤ length es → drop (3 * m) (numbers_of es ++ rest) ≡ numbers_of (drop m es) ++ rest
numbers_drop zero es rest h = refl
numbers_drop (suc m) [] rest h = absurd (omega (arith, h))
numbers_drop (suc m) (e ∷ es) rest h =
    let d : 3 * suc m ≡ suc (suc (suc (3 * m))) = omega arith in
    rw d (numbers_drop m es rest (omega (arith, h)))

-- no more entries are filled in than there are places
table_fits : (s : List ℕ) (places : ℕ) (es : List FilterEntry) → table_of s places ≡ got es → length es ≤ places
unfolding table_of
table_fits s places es e =
    from_bind {C = λ (z : List FilterEntry). length z ≤ places} (entries_of s) _ (λ fs j. from_guard (leb (length fs) places) _ _ (λ b. from_got (λ (z : List FilterEntry). length z ≤ places) fs (leb-true (length fs) places b))) es e

-- 02, P7: the array of numbers afterwards is the table afterwards, three numbers for an entry; one or two numbers behind the last whole entry stay
pub table_numbers : (s : List ℕ) (es : List FilterEntry) (rest : List ℕ) → length rest < 3 → table_as s (numbers_of es ++ rest) ≡ numbers_of (table_after (table_of s (length es)) es) ++ rest
unfolding table_as
table_numbers s es rest h =
    let l : length (numbers_of es ++ rest) ≡ 3 * length es + length rest = length-append (numbers_of es) rest ∙ ap (λ (k : ℕ). k + length rest) (numbers_length es) in
    let n : places_in (numbers_of es ++ rest) ≡ length es = omega (arith, l, h) in
    rw n (go (table_of s (length es)) refl)
  where
    go : (f : Fit (List FilterEntry)) → table_of s (length es) ≡ f → sets (numbers_of es ++ rest) 0 (numbers_of (filled_of f)) ≡ numbers_of (table_after f es) ++ rest
    go (bad k) i = refl
    go (got fs) i =
        let f = table_fits s (length es) fs i in
        let l : length (numbers_of es ++ rest) ≡ 3 * length es + length rest = length-append (numbers_of es) rest ∙ ap (λ (k : ℕ). k + length rest) (numbers_length es) in
        let d : 0 + length (numbers_of fs) ≡ 3 * length fs = omega (arith, numbers_length fs) in
        sets-eq (numbers_of fs) (numbers_of es ++ rest) 0 (omega (arith, numbers_length fs, l, f))
        ∙ ap (λ (k : ℕ). numbers_of fs ++ drop k (numbers_of es ++ rest)) d
        ∙ ap (λ (t : List ℕ). numbers_of fs ++ t) (numbers_drop (length fs) es rest f)
        ∙ sym (append_assoc (numbers_of fs) (numbers_of (drop (length fs) es)) rest)
        ∙ ap (λ (t : List ℕ). t ++ rest) (sym (numbers_append fs (drop (length fs) es)))

-- every array is such a table
pub table_cut : (t : List ℕ) → (es : List FilterEntry) × (rest : List ℕ) × (t ≡ numbers_of es ++ rest) × (length rest < 3)
table_cut [] = ([], [], refl, omega arith)
table_cut (a ∷ []) = ([], a ∷ [], refl, omega arith)
table_cut (a ∷ b ∷ []) = ([], a ∷ b ∷ [], refl, omega arith)
table_cut (a ∷ b ∷ c ∷ t) =
    let (es, rest, e, h) = table_cut t in
    (record { start = a; len = b; options = c } ∷ es, rest, ap (λ (l : List ℕ). a ∷ b ∷ c ∷ l) e, h)
