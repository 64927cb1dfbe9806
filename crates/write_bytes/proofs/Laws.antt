-- Stores one after the other, stores past the end, chunks that overlap, and bytes put as far as they fit. Assumes nothing.
use mathlib.Core.Path.{◌≡◌, refl, sym, ap, ◌∙◌}
use mathlib.Core.Bool.{Bool, true, false}
use mathlib.Core.List.{List, [], ◌∷◌, ◌++◌}
use Prim.Native.Nat.{ℕ, zero, suc, ◌+◌, ◌-◌, ◌≤◌, ◌<◌, min}
use native.Mathlib.Omega.{arith}
use native.Mathlib.Numerals.{add-one}
use lib.Dec.{leb}
use lib.ListN.{length, take, drop, get_or, set, length-set, take-append-drop, drop_of_length-le, length-drop}
use lib.Seq.{sets, set_out, length-sets, set-set, set_comm, drop-cons, drop-drop, drop_at, length-take-le, take_all, take-take, take-add}
use borrow.Author.Tests.{leb-true, leb-false}
use Rattle.std.proofs.lemmas.List.{append_assoc}
use Rattle.std.proofs.lemmas.List.Edits.{sets-eq}
use Rattle.write_bytes.specs.Further.{Further}

-- ---- stores

pub sets_append : (xs ys l : List ℕ) (at : ℕ) → sets l at (xs ++ ys) ≡ sets (sets l at xs) (at + length xs) ys
sets_append [] ys l at = let e : at + 0 ≡ at = omega arith in rw e
sets_append (x ∷ xs) ys l at = let e : at + suc (length xs) ≡ suc at + length xs = omega arith in rw e (sets_append xs ys (set l at x) (suc at))

-- two puts, one behind the other, are one
pub sets_then : (xs ys l l₁ l₂ : List ℕ) (at m : ℕ) → l₁ ≡ sets l at xs → m ≡ at + length xs → l₂ ≡ sets l₁ m ys → l₂ ≡ sets l at (xs ++ ys)
sets_then xs ys l l₁ l₂ at m e n e₂ = e₂ ∙ rw (e, n, sets_append xs ys l at)

-- nothing is stored past the end
pub sets_out : (xs l : List ℕ) (at : ℕ) → length l ≤ at → l ≡ sets l at xs
sets_out [] l at h = refl
sets_out (x ∷ xs) l at h = rw (set_out l at x h) (sets_out xs l (suc at) (omega arith))

-- ---- chunks that overlap

-- a store before others may as well come first
set_before : (ys l : List ℕ) (at p x : ℕ) → at < p → set (sets l p ys) at x ≡ sets (set l at x) p ys
set_before [] l at p x h = refl
set_before (y ∷ ys) l at p x h = set_before ys (set l p y) at (suc p) x (omega arith) ∙ ap (λ (k : List ℕ). sets k (suc p) ys) (set_comm l p at y x (λ e. omega arith))

-- to store again what stands there changes nothing
sets_again : (zs us l : List ℕ) (at : ℕ) → sets (sets l at (zs ++ us)) at zs ≡ sets l at (zs ++ us)
sets_again [] us l at = refl
sets_again (z ∷ zs) us l at =
    ap (λ (k : List ℕ). sets k (suc at) zs) (set_before (zs ++ us) (set l at z) at (suc at) z (omega arith) ∙ ap (λ (k : List ℕ). sets k (suc at) (zs ++ us)) (set-set l at z z))
    ∙ sets_again zs us (set l at z) (suc at)

-- the bytes from the k-th on, then the first w, which reach them
sets_overlap : (k w : ℕ) (xs l : List ℕ) (at : ℕ) → k ≤ w → w ≤ length xs → sets (sets l (at + k) (drop k xs)) at (take w xs) ≡ sets l at xs
sets_overlap zero w xs l at h g =
    let e : at + 0 ≡ at = omega arith in
    rw e (rw (take-append-drop w xs) at (sets_again (take w xs) (drop w xs) l at))
sets_overlap (suc k) zero xs l at h g = absurd (omega arith)
sets_overlap (suc k) (suc w) [] l at h g = absurd (omega arith)
sets_overlap (suc k) (suc w) (x ∷ xs) l at h g =
    let e : at + suc k ≡ suc at + k = omega arith in
    rw e (ap (λ (m : List ℕ). sets m (suc at) (take w xs)) (set_before (drop k xs) l at (suc at + k) x (omega arith)) ∙ sets_overlap k w xs (set l at x) (suc at) (omega arith) (omega arith))

module _ (s : List ℕ) (from n k w : ℕ) (e : k + w ≡ n) (h : from + n ≤ length s) where
  long : n ≤ length (drop from s)
  long = omega (arith, length-drop from s)

  -- the last w of n bytes
  last_part : take w (drop (from + k) s) ≡ drop k (take n (drop from s))
  last_part = sym (
      rw (← e) (
      ap (drop k) (take-add k w (drop from s))
      ∙ drop_at (take k (drop from s)) (take w (drop k (drop from s))) k (length-take-le k (drop from s) (omega (arith, long)))
      ∙ ap (take w) (drop-drop k from s)))

  -- the last w of n bytes, and then the first i, which reach them
  pub overlapped : (i : ℕ) → k ≤ i → i ≤ n → (l l₁ l₂ : List ℕ) (at : ℕ) → l₁ ≡ sets l (at + k) (take w (drop (from + k) s))
      → l₂ ≡ sets l₁ at (take i (drop from s)) → l₂ ≡ sets l at (take n (drop from s))
  overlapped i a b l l₁ l₂ at f g =
      g ∙ rw (f, last_part, ← take-take i n (drop from s) b)
      (sets_overlap k i (take n (drop from s)) l at a (omega (arith, length-take-le n (drop from s) long)))

-- ---- bytes

-- the next bytes of s, one by one
module _ (k : ℕ) (s : List ℕ) (i : ℕ) where
  pub taken_one : i + 1 ≤ length s → get_or s i 0 ∷ take k (drop (i + 1) s) ≡ take (suc k) (drop i s)
  taken_one h = rw (drop-cons s i 0 (omega arith), add-one i)

pub taken_two : (k : ℕ) (s : List ℕ) (i : ℕ) → i + 2 ≤ length s → get_or s i 0 ∷ get_or s (i + 1) 0 ∷ take k (drop (i + 2) s) ≡ take (suc (suc k)) (drop i s)
taken_two k s i h =
    let e : i + 1 + 1 ≡ i + 2 = omega arith in
    rw (sym (taken_one (suc k) s i (omega arith)), sym (taken_one k s (i + 1) (omega arith)), e)

pub taken_four : (k : ℕ) (s : List ℕ) (i : ℕ) → i + 4 ≤ length s
    → get_or s i 0 ∷ get_or s (i + 1) 0 ∷ get_or s (i + 2) 0 ∷ get_or s (i + 3) 0 ∷ take k (drop (i + 4) s) ≡ take (suc (suc (suc (suc k)))) (drop i s)
taken_four k s i h =
    let e : i + 2 + 1 ≡ i + 3 = omega arith in
    let f : i + 2 + 2 ≡ i + 4 = omega arith in
    rw (sym (taken_two (suc (suc k)) s i (omega arith)), sym (taken_two k s (i + 2) (omega arith)), e, f)

pub taken_eight : (s : List ℕ) (i : ℕ) → i + 8 ≤ length s
    → get_or s i 0 ∷ get_or s (i + 1) 0 ∷ get_or s (i + 2) 0 ∷ get_or s (i + 3) 0 ∷ get_or s (i + 4) 0 ∷ get_or s (i + 5) 0 ∷ get_or s (i + 6) 0 ∷ get_or s (i + 7) 0 ∷ [] ≡ take 8 (drop i s)
taken_eight s i h =
    let e : i + 4 + 1 ≡ i + 5 = omega arith in
    let f : i + 4 + 2 ≡ i + 6 = omega arith in
    let g : i + 4 + 3 ≡ i + 7 = omega arith in
    rw (sym (taken_four 4 s i (omega arith)), sym (taken_four 0 s (i + 4) (omega arith)), e, f, g)

module _ (o o₁ o₂ xs : List ℕ) (at i : ℕ) (h : i ≤ length xs) (e : o₁ ≡ sets o at (take i xs)) where
  -- i bytes, and k more behind them
  pub put_more : (k : ℕ) → o₂ ≡ sets o₁ (at + i) (take k (drop i xs)) → o₂ ≡ sets o at (take (i + k) xs)
  put_more k f =
      let n : at + i ≡ at + length (take i xs) = rw (length-take-le i xs h) in
      rw (take-add i k xs) (sets_then (take i xs) (take k (drop i xs)) o o₁ o₂ at (at + i) e n f)

  pub put_last : i + 1 ≤ length xs → o₂ ≡ sets o₁ (at + i) (get_or xs i 0 ∷ []) → o₂ ≡ sets o at (take (i + 1) xs)
  put_last l f = put_more 1 (f ∙ ap (λ (r : List ℕ). sets o₁ (at + i) r) (taken_one 0 xs i l))

  -- all are put, or there is no room
  pub put_all : min (length xs) (length o - at) ≤ i → o₁ ≡ sets o at xs
  put_all l = go (leb (length xs) i) refl
    where
      go : (b : Bool) → leb (length xs) i ≡ b → o₁ ≡ sets o at xs
      go true p =
          rw (take_all i xs (leb-true (length xs) i p)) at e
      go false p =
          let q : i < length xs = leb-false (length xs) i p in
          let s : length o₁ ≡ length o = ap length e ∙ length-sets o at (take i xs) in
          let n : at + i ≡ at + length (take i xs) = rw (length-take-le i xs h) in
          sets_then (take i xs) (drop i xs) o o₁ o₁ at (at + i) e n (sets_out (drop i xs) o₁ (at + i) (omega (arith, s))) ∙ ap (λ (l : List ℕ). sets o at l) (take-append-drop i xs)

module _ (o o₁ xs : List ℕ) (at i n w : ℕ) where
  pub further_more : i + w ≤ n → n ≤ length xs → o₁ ≡ sets o (at + i) (take w (drop i xs)) → Further o at xs i n w o₁ (i + w)
  further_more h l f = record {
    stores = λ o₀ e. put_more o₀ o o₁ xs at i (omega arith) e w f;
    within = h;
    left = λ m. omega arith;
  }

  pub further_none : i ≤ n → n < i + w → Further o at xs i n w o i
  further_none h l = record { stores = λ o₀ e. e; within = h; left = λ m. l }

-- the first n in the place of as many, where those are all, or there is no room for more
pub put_part : (o xs : List ℕ) (at n : ℕ) → n ≤ length xs → at + n ≤ length o → min (length xs) (length o - at) ≤ n → take at o ++ (take n xs ++ drop n (drop at o)) ≡ sets o at xs
put_part o xs at n h r m =
    let l : length (take n xs) ≡ n = length-take-le n xs h in
    let e = rw l at (sets-eq (take n xs) o at (omega (arith, l))) in
    put_all o _ o xs at n h (rw (drop-drop n at o) (sym (e ∙ append_assoc (take at o) (take n xs) (drop (at + n) o)))) m

-- a chunk in the place of as many
pub chunk_put : (o s : List ℕ) (at i n : ℕ) → i + n ≤ length s → at + n ≤ length o → take at o ++ (take n (drop i s) ++ drop n (drop at o)) ≡ sets o at (take n (drop i s))
chunk_put o s at i n h r =
    let l : length (take n (drop i s)) ≡ n = length-take-le n (drop i s) (rw length-drop (omega arith)) in
    let e = rw l at (sets-eq (take n (drop i s)) o at (omega (arith, l))) in
    rw (drop-drop n at o) (sym (e ∙ append_assoc (take at o) (take n (drop i s)) (drop (at + n) o)))

-- the same one by one, for the stores of other crates

-- of the bytes xs, which are to stand from `at` on, those from the i-th on are left to put
pub record Putting (o₀ : List ℕ) (at : ℕ) (xs o : List ℕ) (i : ℕ) : Type 0 where
  pub same : length o ≡ length o₀
  pub rest : sets o (at + i) (drop i xs) ≡ sets o₀ at xs

pub putting_start : (o : List ℕ) (at : ℕ) (xs : List ℕ) → Putting o at xs o 0
putting_start o at xs = let e : at + 0 ≡ at = omega arith in record { same = refl; rest = rw e }

module _ {o₀ xs o : List ℕ} {at i : ℕ} (p : Putting o₀ at xs o i) where
  pub putting_next : i < length xs → Putting o₀ at xs (set o (at + i) (get_or xs i 0)) (i + 1)
  putting_next h =
      let e : at + (i + 1) ≡ suc (at + i) = omega arith in
      record { same = length-set o (at + i) (get_or xs i 0) ∙ p.same; rest = rw (e, add-one i) (rw (drop-cons xs i 0 h) at p.rest) }

  -- all are put, or there is no room
  pub putting_end : min (length xs) (length o₀ - at) ≤ i → o ≡ sets o₀ at xs
  putting_end h = go (leb (length xs) i) refl
    where
      go : (b : Bool) → leb (length xs) i ≡ b → o ≡ sets o₀ at xs
      go true e = rw (drop_of_length-le xs (leb-true (length xs) i e)) at p.rest
      go false e =
          let l : i < length xs = leb-false (length xs) i e in
          sets_out (drop i xs) o (at + i) (omega (arith, p.same)) ∙ p.rest
