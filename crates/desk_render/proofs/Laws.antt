-- Digits, and bytes shown one after the other as far as they fit. Assumes nothing.
use mathlib.Core.Path.{◌≡◌, refl, sym, ap, ◌∙◌}
use mathlib.Core.Bool.{Bool, true, false, cond}
use mathlib.Core.List.{List, [], ◌∷◌, ◌++◌}
use Prim.Native.Nat.{ℕ, zero, suc, ◌+◌, ◌-◌, ◌*◌, ◌%◌, ◌/◌, ◌^◌, ◌≤◌, ◌<◌}
use native.Mathlib.Omega.{arith}
use native.Mathlib.Numerals.{add-one}
use native.Mathlib.Nat.{pow-suc, one-le-pow}
use lib.Dec.{ltb}
use lib.ListN.{length, take, drop, get_or, set, length-append, drop_of_length-le}
use lib.Seq.{sets, length-sets, drop-cons}
use borrow.Author.Tests.{lt-ltb, le-ltb, le-leb, lt-leb, ne_eqb}
use Rattle.io.specs.Digits.{last_digits, IsDigitCount}
use Rattle.write_bytes.proofs.Laws.{sets_append}
use Rattle.desk_render.specs.Shown.{decimal_in, decimal_of, hex_digit, hex_of, is_marked, is_printable, shown_of, shown_size, shown, fitting, Shows}

-- ---- digits

pub digit_low : (n : ℕ) → n < 10 → 48 + n ≡ hex_digit n
digit_low n h = rw (lt-ltb n 10 h)

pub digit_high : (n : ℕ) → 10 ≤ n → 55 + n ≡ hex_digit n
digit_high n h = rw (le-ltb n 10 h)

-- the high digit, and the low one behind it
pub two_digits : (b at : ℕ) (l : List ℕ) {l₁ l₂ : List ℕ} {x y : ℕ} → x ≡ hex_digit (b / 16 % 16) → l₁ ≡ sets l at (x ∷ []) → y ≡ hex_digit (b % 16) → l₂ ≡ sets l₁ (at + 1) (y ∷ []) → l₂ ≡ sets l at (hex_of b)
two_digits b at l d e f g = g ∙ rw (e, d, f, add-one at)

-- ---- decimal

length_digits : (b k n : ℕ) → length (last_digits b k n) ≡ k
length_digits b zero n = refl
length_digits b (suc k) n = length-append (last_digits b k (n / b)) _ ∙ rw (length_digits b k (n / b)) (omega arith)

-- the fewest digits are those of the definition: of a number of two or more, the number without the last has one fewer
fewest_in : (k bound n : ℕ) → n ≤ bound → n < 10 ^ suc k → (1 < suc k → 10 ^ k ≤ n) → last_digits 10 (suc k) n ≡ decimal_in bound n
unfolding decimal_in
fewest_in zero zero n h l m =
    let e : n ≡ 0 = omega arith in
    rw e
fewest_in zero (suc bound) n h l m =
    let e : n < 10 = omega arith in
    let d : n % 10 ≡ n = omega arith in
    rw (lt-ltb n 10 e, d, lt-ltb n 10 e)
fewest_in (suc k) zero n h l m = absurd (omega (arith, m (omega arith), one-le-pow (suc k) 10 (omega arith)))
fewest_in (suc k) (suc bound) n h l m =
    let g : 10 ^ suc k ≤ n = m (omega arith) in
    let s : 10 ^ suc k ≡ 10 ^ k * 10 = pow-suc 10 k in
    let t : 10 ^ suc (suc k) ≡ 10 ^ suc k * 10 = pow-suc 10 (suc k) in
    let a : 10 ≤ n = omega (arith, one-le-pow k 10 (omega arith)) in
    let r : n % 10 < 10 = omega arith in
    let c : last_digits 10 (suc k) (n / 10) ≡ decimal_in bound (n / 10) = fewest_in k bound (n / 10) (omega arith) (omega arith) (λ _. omega arith) in
    rw (le-ltb n 10 a, lt-ltb (n % 10) 10 r) (ap (λ (d : List ℕ). d ++ ((48 + n % 10) ∷ [])) c)

pub fewest_decimal : (k n : ℕ) → IsDigitCount 10 1 n k → last_digits 10 k n ≡ decimal_of n
fewest_decimal zero n f = absurd (omega (arith, f.0))
fewest_decimal (suc k) n f = let e : suc k - 1 ≡ k = omega arith in fewest_in k n n (omega arith) f.1 (rw e at f.2)

pub fewest_length : (k n : ℕ) → IsDigitCount 10 1 n k → k ≡ length (decimal_of n)
fewest_length k n f = sym (length_digits 10 k n) ∙ ap length (fewest_decimal k n f)

either : (b : Bool) (x y : List ℕ) (m : ℕ) → length x ≤ m → length y ≤ m → length (cond b x y) ≤ m
either true x y m h g = h
either false x y m h g = g

pub decimal_short : (k bound n : ℕ) → n < 10 ^ suc k → length (decimal_in bound n) ≤ suc k
unfolding decimal_in
decimal_short k zero n h = omega arith
decimal_short zero (suc bound) n h = rw (lt-ltb n 10 h) (omega arith)
decimal_short (suc k) (suc bound) n h =
    let t : 10 ^ suc (suc k) ≡ 10 ^ suc k * 10 = pow-suc 10 (suc k) in
    let l : length (decimal_in bound (n / 10)) ≤ suc k = decimal_short k bound (n / 10) (omega arith) in
    either (ltb n 10) ((48 + n) ∷ []) (decimal_in bound (n / 10) ++ ((48 + n % 10) ∷ [])) (suc (suc k)) (omega arith) (simp length-append (omega arith))

-- ---- one byte

module _ (b : ℕ) where
  pub size_mark : b ≡ 34 → 2 ≡ shown_size b
  unfolding shown_size shown_of
  size_mark e = rw e

  pub size_slash : b ≡ 92 → 2 ≡ shown_size b
  unfolding shown_size shown_of
  size_slash e = rw e

  module _ (m : b ≡ 34 → ⊥) (l : b ≡ 92 → ⊥) where
    pub size_below : b < 32 → 4 ≡ shown_size b
    unfolding shown_size shown_of
    size_below h = rw (ne_eqb b 34 m, ne_eqb b 92 l, lt-leb 32 b h)

    module _ (h : 32 ≤ b) where
      pub size_above : 126 < b → 4 ≡ shown_size b
      unfolding shown_size shown_of
      size_above g = rw (ne_eqb b 34 m, ne_eqb b 92 l, le-leb 32 b h, lt-leb b 126 g)

      pub size_plain : b ≤ 126 → 1 ≡ shown_size b
      unfolding shown_size shown_of
      size_plain g = rw (ne_eqb b 34 m, ne_eqb b 92 l, le-leb 32 b h, le-leb b 126 g)

  pub size_length : shown_size b ≡ length (shown_of b)
  unfolding shown_size
  size_length = refl

  -- the size tells the form
  choice : Bool → Bool → List ℕ
  choice m p = cond m (92 ∷ b ∷ []) (cond p (b ∷ []) (92 ∷ 120 ∷ hex_of b))

  one : (m p : Bool) → 1 ≡ length (choice m p) → choice m p ≡ b ∷ []
  unfolding choice
  one true p e = absurd (omega arith)
  one false true e = refl
  one false false e = absurd (omega arith)

  two : (m p : Bool) → 2 ≡ length (choice m p) → choice m p ≡ 92 ∷ b ∷ []
  unfolding choice
  two true p e = refl
  two false true e = absurd (omega arith)
  two false false e = absurd (omega arith)

  four : (m p : Bool) → (1 ≡ length (choice m p) → ⊥) → (2 ≡ length (choice m p) → ⊥) → choice m p ≡ 92 ∷ 120 ∷ hex_of b
  unfolding choice
  four true p f g = absurd (g refl)
  four false true f g = absurd (f refl)
  four false false f g = refl

  some : (m p : Bool) → 1 ≤ length (choice m p)
  unfolding choice
  some true p = omega arith
  some false true = omega arith
  some false false = omega arith

  pub size_some : 1 ≤ shown_size b
  unfolding shown_size shown_of choice
  size_some = some (is_marked b) (is_printable b)

  pub form_plain : 1 ≡ shown_size b → shown_of b ≡ b ∷ []
  unfolding shown_size shown_of choice
  form_plain e = one (is_marked b) (is_printable b) e

  pub form_marked : 2 ≡ shown_size b → shown_of b ≡ 92 ∷ b ∷ []
  unfolding shown_size shown_of choice
  form_marked e = two (is_marked b) (is_printable b) e

  pub form_hex : (1 ≡ shown_size b → ⊥) → (2 ≡ shown_size b → ⊥) → shown_of b ≡ 92 ∷ 120 ∷ hex_of b
  unfolding shown_size shown_of choice
  form_hex f g = four (is_marked b) (is_printable b) f g

-- ---- its stores

module _ (b at n : ℕ) (l : List ℕ) (z : n ≡ shown_size b) where
  pub put_plain : n ≡ 1 → set l at b ≡ sets l at (shown_of b)
  put_plain e = rw (form_plain b (sym e ∙ z))

  pub put_marked : n ≡ 2 → set (set l at 92) (at + 1) b ≡ sets l at (shown_of b)
  put_marked e = rw (form_marked b (sym e ∙ z), add-one at)

  pub put_escape : (n ≡ 1 → ⊥) → (n ≡ 2 → ⊥) → {o : List ℕ} → o ≡ sets (set (set l at 92) (at + 1) 120) (at + 2) (hex_of b) → o ≡ sets l at (shown_of b)
  put_escape f g h =
      let e : at + 2 ≡ suc (suc at) = omega arith in
      h ∙ rw (form_hex b (λ w. f (z ∙ sym w)) (λ w. g (z ∙ sym w)), add-one at, e)

-- ---- as many as fit

-- what is shown in so much room
abbrev shown_in : ℕ → List ℕ → List ℕ
shown_in room s = shown (take (fitting room s) s)

module _ (room b : ℕ) (s : List ℕ) where
  fits : shown_size b ≤ room → fitting room (b ∷ s) ≡ suc (fitting (room - shown_size b) s)
  unfolding fitting
  fits h = rw (le-leb (shown_size b) room h)

  fits_in : shown_size b ≤ room → shown_in room (b ∷ s) ≡ shown_of b ++ shown_in (room - shown_size b) s
  unfolding shown
  fits_in h = rw (fits h)

  none_fits : room < shown_size b → fitting room (b ∷ s) ≡ 0
  unfolding fitting
  none_fits h = rw (lt-leb (shown_size b) room h)

-- i bytes of s are shown, up to index `next` of the output; the rest is to be shown there
pub record Showing (o₀ : List ℕ) (at : ℕ) (s o : List ℕ) (i next : ℕ) : Type 0 where
  pub same : length o ≡ length o₀
  pub ahead : i ≤ length s
  pub behind : at ≤ next
  pub within : next ≤ length o₀
  pub most : i + fitting (length o₀ - next) (drop i s) ≡ fitting (length o₀ - at) s
  pub stores : sets o next (shown_in (length o₀ - next) (drop i s)) ≡ sets o₀ at (shown_in (length o₀ - at) s)
  pub size : next + length (shown_in (length o₀ - next) (drop i s)) ≡ at + length (shown_in (length o₀ - at) s)

pub showing_start : (o : List ℕ) (at : ℕ) (s : List ℕ) → at ≤ length o → Showing o at s o 0 at
showing_start o at s h = record { same = refl; ahead = omega arith; behind = omega arith; within = h; most = omega arith; stores = refl; size = refl }

module _ {o₀ : List ℕ} {at : ℕ} {s o : List ℕ} {i next : ℕ} (w : Showing o₀ at s o i next) where
  -- nothing more fits
  stop : fitting (length o₀ - next) (drop i s) ≡ 0 → Shows o₀ at s o i (next - at)
  unfolding shown
  stop e =
      let m : i ≡ fitting (length o₀ - at) s = omega (arith, w.most) in
      let t : o ≡ sets o₀ at (shown_in (length o₀ - at) s) = rw e at w.stores in
      let z : next + 0 ≡ at + length (shown_in (length o₀ - at) s) = rw e at w.size in
      let n : next - at ≡ length (shown_in (length o₀ - at) s) = omega (arith, z) in
      record { most = m; stores = t ∙ rw m; size = n ∙ rw m }

  pub showing_end : length s ≤ i → Shows o₀ at s o i (next - at)
  unfolding fitting
  showing_end h = stop (rw (drop_of_length-le s h))

  module _ (l : i < length s) where
    pub showing_full : length o₀ - next < shown_size (get_or s i 0) → Shows o₀ at s o i (next - at)
    showing_full h = stop (rw (drop-cons s i 0 l) (none_fits (length o₀ - next) (get_or s i 0) (drop (suc i) s) h))

    pub showing_next : {o' : List ℕ} {n : ℕ} → n ≡ shown_size (get_or s i 0) → n ≤ length o₀ - next → o' ≡ sets o next (shown_of (get_or s i 0)) → Showing o₀ at s o' (i + 1) (next + n)
    showing_next {o'} {n} e h p =
        let b : ℕ = get_or s i 0 in
        let k : List ℕ = drop (suc i) s in
        let r : length o₀ - next - shown_size b ≡ length o₀ - (next + n) = omega (arith, e) in
        let f : fitting (length o₀ - next) (drop i s) ≡ suc (fitting (length o₀ - (next + n)) k) = rw (drop-cons s i 0 l) (fits (length o₀ - next) b k (omega (arith, e)) ∙ rw r) in
        let g : shown_in (length o₀ - next) (drop i s) ≡ shown_of b ++ shown_in (length o₀ - (next + n)) k = rw (drop-cons s i 0 l) (fits_in (length o₀ - next) b k (omega (arith, e)) ∙ rw r) in
        let a : i + 1 ≡ suc i = add-one i in
        let y : List ℕ = shown_in (length o₀ - (next + n)) k in
        let x : n ≡ length (shown_of b) = e ∙ size_length b in
        record {
          same = ap length p ∙ length-sets o next (shown_of b) ∙ w.same;
          ahead = omega arith;
          behind = omega (arith, w.behind);
          within = omega (arith, w.within);
          most = rw a (omega (arith, f, w.most));
          stores = rw (a, p) (ap (λ (m : ℕ). sets (sets o next (shown_of b)) (next + m) y) x ∙ sym (sets_append (shown_of b) y o next) ∙ rw g at w.stores);
          size = rw a (omega (arith, x, rw (g, length-append) at w.size));
        }

-- ---- past the end

none_at_all : (s : List ℕ) → fitting 0 s ≡ 0
unfolding fitting
none_at_all [] = refl
none_at_all (b ∷ s) = none_fits 0 b s (size_some b)

pub shows_none : (o : List ℕ) (at : ℕ) (s : List ℕ) → length o < at → Shows o at s o 0 0
unfolding shown
shows_none o at s h =
    let z : length o - at ≡ 0 = omega arith in
    record { most = rw (z, none_at_all s); stores = refl; size = refl }
