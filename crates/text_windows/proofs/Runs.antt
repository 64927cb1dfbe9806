-- Runs of bytes that fit: how they are joined, gathered by marks, and passed where they are ASCII. Assumes nothing.
use Rattle.std.proofs.Common.{◌≡◌, ℕ, zero, suc, ◌+◌, ◌-◌, ◌<◌, ◌≤◌, Bool, true, false, not, ◌&&◌, eqb, ltb, List, [], ◌∷◌, length, get_or, take, drop, sym, refl, ap, ◌∙◌, true≢false, add-zero, add-suc, arith, length-drop, get_or-drop, take-add, eqb-true, le-leb, leb-true}
use mathlib.Core.Bool.{false≢true}
use lib.Bits.{bit_or}
use borrow.Author.Tests.{lt-leb, eqb-false}
use Rattle.std.proofs.lemmas.List.{take_rest}
use Rattle.reading.specs.Read.{is_text}
use Rattle.text_chars.specs.Text.{plain, all_ascii}
use Rattle.text_windows.specs.Window.{due, fits, padded, due_at, fits_at, Fit, Fitted, FitTo, AsciiTo}
use Rattle.text_chars.proofs.Laws.{or_low, and_both, ascii_append, plain_front, last_text}
use Rattle.text_chars.proofs.Laws.{either, below_range}
use Rattle.text_windows.proofs.Windows.{due_none, due_two, due_three, due_four, due_closed, begins_low, text_windows, no_text_lem, no_end_lem}

-- ---- from one index to another

module _ (s : List ℕ) (a : ℕ) where
  pub fit_none : Fit s a a
  fit_none k l h = absurd (omega arith)

  pub fit_next : (i : ℕ) → Fit s a i → fits_at s i ≡ true → Fit s a (i + 1)
  fit_next i f e k l h = go (eqb k i) refl
    where
      go : (t : Bool) → eqb k i ≡ t → fits_at s k ≡ true
      go true q = rw (eqb-true k i q) e
      go false q = f k l (omega (arith, eqb-false k i q))

  -- up to an index before
  pub fit_less : (i j : ℕ) → j ≤ i → Fit s a i → Fit s a j
  fit_less i j m f k l h = f k l (omega arith)

  -- up to i, and from j on, where j is not past i
  pub fit_join : (i j e : ℕ) → j ≤ i → Fit s a i → Fit s j e → Fit s a e
  fit_join i j e m f g k l h = either j k (λ q. f k l (omega arith)) (λ q. g k q h)

-- where a next index ends in one behind it, or is the end, an index before it comes to lie behind
pub ahead_of : (i next r n : ℕ) → i < n → i ≤ next → next ≤ r → (next < n → next < r) → i < r
ahead_of i next r n h l m f = either n next (λ q. omega (arith, f q)) (λ q. omega arith)

-- ---- gathered by marks

module _ (s : List ℕ) (a e : ℕ) where
  pub fitted_no : is_text s ≡ false → Fitted s a e false
  fitted_no n = record { yes = λ t. absurd (false≢true t); no = λ _. n }

  pub fitted_yes : Fit s a e → Fitted s a e true
  fitted_yes f = record { yes = λ _. f; no = λ t. absurd (true≢false t) }

-- one byte does not fit, or all do up to an index
pub fit_stopped : (s : List ℕ) (at : ℕ) → is_text s ≡ false → FitTo s at 0
fit_stopped s at n = record { within = omega arith; fit = fit_none s 0; ahead = λ h. absurd (omega arith); none = λ _. n }

pub fit_passed : (s : List ℕ) (at i : ℕ) → i ≤ length s → at ≤ i → 0 < i → Fit s 0 i → FitTo s at i
fit_passed s at i h l p f = record { within = h; fit = f; ahead = λ _. l; none = λ e. absurd (omega arith) }

-- one byte more
module _ (s : List ℕ) (a i : ℕ) (h : i < length s) where
  fitted_and : (x y : Bool) → Fitted s a i x → y ≡ fits_at s i → Fitted s a (i + 1) (x && y)
  fitted_and true true f e = fitted_yes s a (i + 1) (fit_next s a i (f.yes refl) (sym e))
  fitted_and true false f e = fitted_no s a (i + 1) (no_text_lem s i h (sym e))
  fitted_and false y f e = fitted_no s a (i + 1) (f.no refl)

  pub fitted_next : (all m : ℕ) → Fitted s a i (ltb all 128) → ltb m 128 ≡ fits_at s i → Fitted s a (i + 1) (ltb (bit_or all m) 128)
  fitted_next all m f e = rw (or_low all m) (fitted_and (ltb all 128) (ltb m 128) f e)

-- the four bytes of a window, and the three before an index
pub fits_at_lem : (s : List ℕ) (j : ℕ) → fits_at s (j + 3) ≡ fits (get_or s j 0) (get_or s (j + 1) 0) (get_or s (j + 2) 0) (get_or s (j + 3) 0)
fits_at_lem s j =
    let a : j + 1 ≡ suc j = omega arith in
    let b : j + 2 ≡ suc (suc j) = omega arith in
    let c : j + 3 ≡ suc (suc (suc j)) = omega arith in
    rw (a, b, c)

pub due_at_lem : (s : List ℕ) (i : ℕ) → 3 ≤ i → due_at s i ≡ due (get_or s (i - 3) 0) (get_or s (i - 2) 0) (get_or s (i - 1) 0)
due_at_lem s i h = go (i - 3) (omega arith)
  where
    go : (j : ℕ) → i ≡ j + 3 → due_at s i ≡ due (get_or s (i - 3) 0) (get_or s (i - 2) 0) (get_or s (i - 1) 0)
    go j e =
        let a : i - 3 ≡ j = omega arith in
        let b : i - 2 ≡ suc j = omega arith in
        let c : i - 1 ≡ suc (suc j) = omega arith in
        let d : i ≡ suc (suc (suc j)) = omega arith in
        rw (a, b, c, d)

-- k of the bytes from the third behind `at` on, and one more
pub fitted_run : (s : List ℕ) (at k all m : ℕ) → at + 3 + k < length s → Fitted s (at + 3) (at + 3 + k) (ltb all 128) → ltb m 128 ≡ fits (get_or s (at + k) 0) (get_or s (at + k + 1) 0) (get_or s (at + k + 2) 0) (get_or s (at + k + 3) 0) → Fitted s (at + 3) (at + 3 + (k + 1)) (ltb (bit_or all m) 128)
fitted_run s at k all m h f e =
    let a : at + 3 + (k + 1) ≡ at + 3 + k + 1 = omega arith in
    let b : at + 3 + k ≡ at + k + 3 = omega arith in
    rw a (fitted_next s (at + 3) (at + 3 + k) h all m f (rw b (e ∙ sym (fits_at_lem s (at + k)))))

pub fitted_none : (s : List ℕ) (a : ℕ) → Fitted s a (a + 0) true
fitted_none s a = rw (add-zero a) (fitted_yes s a a (fit_none s a))

-- the first three
module _ (s : List ℕ) (h : 3 ≤ length s) where
  pub three_no : (k : ℕ) → k < 3 → fits_at s k ≡ false → Fitted s 0 3 false
  three_no k l e = fitted_no s 0 3 (no_text_lem s k (omega arith) e)

  pub three_last : (t : Bool) → fits_at s 0 ≡ true → fits_at s 1 ≡ true → t ≡ fits_at s 2 → Fitted s 0 3 t
  three_last t e f g = fitted_and s 0 2 (omega arith) true t (fitted_yes s 0 2 (fit_next s 0 1 (fit_next s 0 0 (fit_none s 0) e) f)) g

-- ---- nothing due before an index

module _ (s : List ℕ) (i : ℕ) (h : 3 ≤ i) where
  pub whole_two : 0xC0 ≤ get_or s (i - 1) 0 → false ≡ not (due_at s i)
  whole_two l = ap not (sym (due_at_lem s i h ∙ due_two (get_or s (i - 3) 0) (get_or s (i - 2) 0) (get_or s (i - 1) 0) l))

  pub whole_three : 0xE0 ≤ get_or s (i - 2) 0 → false ≡ not (due_at s i)
  whole_three l = ap not (sym (due_at_lem s i h ∙ due_three (get_or s (i - 3) 0) (get_or s (i - 2) 0) (get_or s (i - 1) 0) l))

  pub whole_four : get_or s (i - 1) 0 < 0xC0 → get_or s (i - 2) 0 < 0xE0 → ltb (get_or s (i - 3) 0) 0xF0 ≡ not (due_at s i)
  unfolding due
  whole_four l m =
      either 0xF0 (get_or s (i - 3) 0)
      (λ n. rw (le-leb (suc (get_or s (i - 3) 0)) 0xF0 n) (ap not (sym (due_at_lem s i h ∙ due_none (get_or s (i - 3) 0) (get_or s (i - 2) 0) (get_or s (i - 1) 0) l m n))))
      λ n. rw (lt-leb (suc (get_or s (i - 3) 0)) 0xF0 (omega arith)) (ap not (sym (due_at_lem s i h ∙ due_four (get_or s (i - 3) 0) (get_or s (i - 2) 0) (get_or s (i - 1) 0) n)))

-- all fit, and nothing is due at the end
pub whole_text : (s : List ℕ) (r : Bool) → Fit s 0 (length s) → r ≡ not (due_at s (length s)) → r ≡ is_text s
whole_text s r f e = e ∙ go (due_at s (length s)) refl
  where
    go : (t : Bool) → due_at s (length s) ≡ t → not t ≡ is_text s
    go true i = sym (no_end_lem s i)
    go false i = sym (text_windows s f i)

-- ---- ASCII

plain_bounds : (b : ℕ) → plain b ≡ true → (1 ≤ b) × (b < 128)
plain_bounds b e =
    let (z, l) = and_both (ltb 0 b) (ltb b 128) e in
    (leb-true 1 b z, leb-true (suc b) 128 l)

-- a byte below 128 leaves nothing open, and where one is due it is none
module _ (s : List ℕ) (k : ℕ) (h : get_or s k 0 < 0x80) where
  low_closed : due_at s k ≡ false → due_at s (suc k) ≡ false
  low_closed d =
      let (i, j, _) = due_closed (padded s k) (padded s (suc k)) (padded s (suc (suc k))) d in
      due_none (padded s (suc k)) (padded s (suc (suc k))) (get_or s k 0) (omega arith) (omega arith) (omega arith)

  low_lost : due_at s k ≡ true → fits_at s k ≡ false
  unfolding fits
  low_lost d = rw (d, below_range 0x80 0xBF (get_or s k 0) h)

  -- so nothing is due behind one that fits
  low_whole : fits_at s k ≡ true → due_at s (suc k) ≡ false
  low_whole e = go (due_at s k) refl
    where
      go : (t : Bool) → due_at s k ≡ t → due_at s (suc k) ≡ false
      go true d = absurd (false≢true (sym (low_lost d) ∙ e))
      go false d = low_closed d

pub whole_one : (s : List ℕ) (i : ℕ) → 3 ≤ i → Fit s 0 i → get_or s (i - 1) 0 < 0x80 → true ≡ not (due_at s i)
whole_one s i h f l = go (i - 1) (omega arith) l
  where
    go : (k : ℕ) → i ≡ suc k → get_or s k 0 < 0x80 → true ≡ not (due_at s i)
    go k e m = rw e (ap not (sym (low_whole s k m (f k (omega arith) (omega arith)))))

module _ (s : List ℕ) (k : ℕ) (e : plain (get_or s k 0) ≡ true) where
  plain_fits : due_at s k ≡ false → fits_at s k ≡ true
  unfolding fits
  plain_fits d = let (l, h) = plain_bounds (get_or s k 0) e in rw (d, begins_low (get_or s k 0) l h)

  plain_closed : due_at s k ≡ false → due_at s (suc k) ≡ false
  plain_closed d = let (l, h) = plain_bounds (get_or s k 0) e in low_closed s k h d

  plain_lost : due_at s k ≡ true → fits_at s k ≡ false
  plain_lost d = let (l, h) = plain_bounds (get_or s k 0) e in low_lost s k h d

ascii_get : (n : ℕ) (s : List ℕ) → all_ascii (take n s) ≡ true → (j : ℕ) → j < n → j < length s → plain (get_or s j 0) ≡ true
ascii_get zero s e j h l = absurd (omega arith)
ascii_get (suc n) [] e j h l = absurd (omega arith)
ascii_get (suc n) (x ∷ s) e zero h l = (and_both (plain x) (all_ascii (take n s)) e).0
ascii_get (suc n) (x ∷ s) e (suc j) h l = ascii_get n s (and_both (plain x) (all_ascii (take n s)) e).1 j (omega arith) (omega arith)

module _ (s : List ℕ) (a n : ℕ) (l : a + n ≤ length s) (e : all_ascii (take n (drop a s)) ≡ true) where
  plain_in : (j : ℕ) → j < n → plain (get_or s (a + j) 0) ≡ true
  plain_in j h = rw (get_or-drop) at (ascii_get n (drop a s) e j h (rw length-drop (omega arith)))

  module _ (d : due_at s a ≡ false) where
    closed_in : (j : ℕ) → j ≤ n → due_at s (a + j) ≡ false
    closed_in zero h = rw (add-zero a) d
    closed_in (suc j) h = rw (add-suc a j) (plain_closed s (a + j) (plain_in j (omega arith)) (closed_in j (omega arith)))

    pub ascii_fit : Fit s a (a + n)
    ascii_fit k m h =
        let q : a + (k - a) ≡ k = omega arith in
        rw q at (plain_fits s (a + (k - a)) (plain_in (k - a) (omega arith)) (closed_in (k - a) (omega arith)))

  -- whether they fit is whether nothing is due before them
  pub ascii_fitted : (r : Bool) → 0 < n → r ≡ not (due_at s a) → Fitted s a (a + n) r
  ascii_fitted r h e = rw e (go (due_at s a) refl)
    where
      go : (t : Bool) → due_at s a ≡ t → Fitted s a (a + n) (not t)
      go true d = fitted_no s a (a + n) (no_text_lem s a (omega arith) (plain_lost s a (rw (add-zero a) at (plain_in 0 h)) d))
      go false d = fitted_yes s a (a + n) (ascii_fit d)

-- one chunk more
pub chunk_fit : (s : List ℕ) (i n : ℕ) → i + n ≤ length s → all_ascii (take n (drop i s)) ≡ true → Fit s 0 i → due_at s i ≡ false → Fit s 0 (i + n) × (due_at s (i + n) ≡ false)
chunk_fit s i n h e f d = (fit_join s 0 i i (i + n) (omega arith) f (ascii_fit s i n h e d), closed_in s i n h e d n (omega arith))

-- the bytes before an index
module _ {s : List ℕ} {i : ℕ} (g : AsciiTo s i) where
  pub ascii_to_fit : Fit s 0 i
  ascii_to_fit =
      let z : 0 + i ≡ i = omega arith in
      rw z at (ascii_fit s 0 i (omega (arith, g.within)) g.ascii (due_none 0 0 0 (omega arith) (omega arith) (omega arith)))

  pub ascii_more : (n : ℕ) → i + n ≤ length s → all_ascii (take n (drop i s)) ≡ true → AsciiTo s (i + n)
  ascii_more n h e = record { within = h; ascii = rw (take-add i n s, ascii_append (take i s) (take n (drop i s)), g.ascii) e }

  -- and those from an index not behind it
  pub ascii_rest : (j n : ℕ) → j ≤ i → length s ≤ j + n → all_ascii (take n (drop j s)) ≡ true → is_text s ≡ true
  ascii_rest j n h l e = plain_front i s g.within g.ascii ∙ last_text s i j n h l e

pub ascii_none : (s : List ℕ) → AsciiTo s 0
ascii_none s = record { within = omega arith; ascii = refl }

-- ASCII bytes behind an index where nothing is due
pub plain_run : (s : List ℕ) (at r : ℕ) → at ≤ length s → AsciiTo (take (length s - at) (drop at s)) r → Fit s 0 at → due_at s at ≡ false → (at + r ≤ length s) × Fit s 0 (at + r)
plain_run s at r h a f d =
    let g : AsciiTo (drop at s) r = rw (take_rest s at) at a in
    let w : at + r ≤ length s = omega (arith, simp length-drop at g.within) in
    (w, (chunk_fit s at r w g.ascii f d).0)
