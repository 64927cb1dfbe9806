-- Text by windows: that it is the grammar's, and how a text is tested by them from one index to another. Assumes nothing.
use Rattle.std.proofs.Common.{◌≡◌, ℕ, zero, suc, ◌<◌, ◌≤◌, Bool, true, false, cond, not, ◌&&◌, leb, List, [], ◌∷◌, length, get_or, sym, refl, ◌∙◌, true≢false, arith, ne_eqb, le-leb, leb-true}
use mathlib.Core.Bool.{false≢true, and-true, and-false, or-true}
use mathlib.Core.Option.{none, some}
use borrow.Author.Tests.{not-true, lt-leb}
use Rattle.grammar.specs.Text.{Range, in_range, rows, row_at}
use Rattle.reading.specs.Read.{is_text}
use Rattle.text_chars.specs.Text.{text_after}
use Rattle.text_windows.specs.Window.{due, begins, second, fits, due_at, fits_at, Fit}
use Rattle.text_chars.specs.Text.{continues}
use Rattle.text_chars.proofs.Laws.{either, in_range_lem, below_range, over_range, row_at_lem, no_row, text_first, text_end, after_none, after_end, after_in, after_out, and_both}

-- ---- tests of a byte

abbrev tail : Range
tail = (0x80, 0xBF)

module _ (r q p : ℕ) where
  pub due_none : p < 0xC0 → q < 0xE0 → r < 0xF0 → due r q p ≡ false
  unfolding due
  due_none h i j = rw (lt-leb 0xC0 p h, lt-leb 0xE0 q i, lt-leb 0xF0 r j)

  pub due_two : 0xC0 ≤ p → due r q p ≡ true
  unfolding due
  due_two h = rw (le-leb 0xC0 p h)

  pub due_three : 0xE0 ≤ q → due r q p ≡ true
  unfolding due
  due_three h = rw (le-leb 0xE0 q h) (or-true (leb 0xC0 p))

  pub due_four : 0xF0 ≤ r → due r q p ≡ true
  unfolding due
  due_four h = rw (le-leb 0xF0 r h, or-true (leb 0xE0 q)) (or-true (leb 0xC0 p))

-- what the three are, where nothing is due
pub due_closed : (r q p : ℕ) → due r q p ≡ false → (p < 0xC0) × (q < 0xE0) × (r < 0xF0)
due_closed r q p e =
    (either 0xC0 p (λ h. h) (λ h. absurd (false≢true (sym e ∙ due_two r q p h))), either 0xE0 q (λ h. h) (λ h. absurd (false≢true (sym e ∙ due_three r q p h))), either 0xF0 r (λ h. h) (λ h. absurd (false≢true (sym e ∙ due_four r q p h))))

range_high : (lo hi b : ℕ) → in_range (lo, hi) b ≡ true → b ≤ hi
range_high lo hi b e = either lo b (λ h. absurd (false≢true (sym (below_range lo hi b h) ∙ e))) (λ h. leb-true b hi (rw (le-leb lo b h) at e))

-- ---- the second byte

-- what stands in c is what continues a character after p
abbrev pub Cell : ℕ → Range → Type 0
Cell p c = (x : ℕ) → in_range c x ≡ (continues x && second p x)

module _ (p : ℕ) (a : p ≡ 0xE0 → ⊥) (b : p ≡ 0xED → ⊥) (c : p ≡ 0xF0 → ⊥) (d : p ≡ 0xF4 → ⊥) where
  pub second_any : (x : ℕ) → second p x ≡ true
  unfolding second
  second_any x = rw (ne_eqb p 0xE0 a, ne_eqb p 0xED b, ne_eqb p 0xF0 c, ne_eqb p 0xF4 d)

  pub cell_any : Cell p tail
  cell_any x = rw (second_any x) (sym (and-true (continues x)))

narrow_low : (n x : ℕ) → 0x80 ≤ n → in_range (n, 0xBF) x ≡ (continues x && leb n x)
narrow_low n x h = either n x (λ l. rw (lt-leb n x l) (sym (and-false (continues x)))) (λ l. rw (le-leb n x l, le-leb 0x80 x (omega arith)) (sym (and-true (leb x 0xBF))))

narrow_high : (n x : ℕ) → n ≤ 0xBF → in_range (0x80, n) x ≡ (continues x && leb x n)
narrow_high n x h = either (suc n) x (λ l. rw (le-leb x n (omega arith), le-leb x 0xBF (omega arith)) (sym (and-true (cond (leb 0x80 x) true false)))) (λ l. over_range 0x80 n x l ∙ rw (lt-leb x n l) (sym (and-false (continues x))))

pub cell_e0 : Cell 0xE0 (0xA0, 0xBF)
unfolding second
cell_e0 x = rw (and-true (leb 0xA0 x)) (narrow_low 0xA0 x (omega arith))

pub cell_ed : Cell 0xED (0x80, 0x9F)
unfolding second
cell_ed x = rw (and-true (leb x 0x9F)) (narrow_high 0x9F x (omega arith))

pub cell_f0 : Cell 0xF0 (0x90, 0xBF)
unfolding second
cell_f0 x = rw (and-true (leb 0x90 x)) (narrow_low 0x90 x (omega arith))

pub cell_f4 : Cell 0xF4 (0x80, 0x8F)
unfolding second
cell_f4 x = narrow_high 0x8F x (omega arith)

-- ---- the law

-- every byte of s fits behind the three before it, and nothing is due at the end
abbrev pub fit_all : ℕ → ℕ → ℕ → List ℕ → Bool
fit_all r q p [] = not (due r q p)
fit_all r q p (b ∷ s) = fits r q p b && fit_all q p b s

-- after r, q and p of a text, what the row of the last character still asks for
data Owed : List Range → ℕ → ℕ → ℕ → Type 0 where
  nothing : {r q p : ℕ} → p < 0xC0 → q < 0xE0 → r < 0xF0 → Owed [] r q p
  one : {r q p : ℕ} → due r q p ≡ true → q < 0xF0 → p < 0xE0 → Owed (tail ∷ []) r q p
  two : {c : Range} {r q p : ℕ} → due r q p ≡ true → Cell p c → ((b : ℕ) → due q p b ≡ true) → p < 0xF0 → Owed (c ∷ tail ∷ []) r q p
  three : {c : Range} {r q p : ℕ} → due r q p ≡ true → Cell p c → 0xF0 ≤ p → Owed (c ∷ tail ∷ tail ∷ []) r q p

-- a byte below E0 has no narrow second cell
cell_low : (p : ℕ) → p < 0xE0 → Cell p tail
cell_low p h = cell_any p (λ e. omega arith) (λ e. omega arith) (λ e. omega arith) (λ e. omega arith)

-- which bytes begin a character
module _ (b : ℕ) where
  pub begins_low : 1 ≤ b → b < 0x80 → begins b ≡ true
  unfolding begins
  begins_low l h = rw (in_range_lem 1 0x7F b l (omega arith))

  pub begins_high : 0xC2 ≤ b → b < 0xF5 → begins b ≡ true
  unfolding begins
  begins_high l h = rw (in_range_lem 0xC2 0xF4 b l (omega arith)) (or-true (in_range (1, 0x7F) b))

  pub begins_zero : b < 1 → begins b ≡ false
  unfolding begins
  begins_zero h = rw (below_range 1 0x7F b h, below_range 0xC2 0xF4 b (omega arith))

  pub begins_middle : 0x80 ≤ b → b < 0xC2 → begins b ≡ false
  unfolding begins
  begins_middle l h = rw (over_range 1 0x7F b l, below_range 0xC2 0xF4 b h)

  pub begins_over : 0xF5 ≤ b → begins b ≡ false
  unfolding begins
  begins_over l = rw (over_range 1 0x7F b (omega arith), over_range 0xC2 0xF4 b l)

-- the law of what follows, for each state
abbrev After : List ℕ → Type 0
After s = (rs : List Range) (r q p : ℕ) → Owed rs r q p → text_after rs s ≡ fit_all r q p s

module _ (b : ℕ) (s : List ℕ) (ih : After s) where
  -- a byte that is due
  due_step : (r q p : ℕ) (c : Range) (rs : List Range) → due r q p ≡ true → Cell p c → (b < 0xC0 → Owed rs q p b) → text_after (c ∷ rs) (b ∷ s) ≡ (fits r q p b && fit_all q p b s)
  unfolding fits
  due_step r q p c rs d cell o = go (in_range c b) refl
    where
      go : (t : Bool) → in_range c b ≡ t → text_after (c ∷ rs) (b ∷ s) ≡ (cond (due r q p) (continues b && second p b) (begins b) && fit_all q p b s)
      go true e =
          let f : (continues b && second p b) ≡ true = sym (cell b) ∙ e in
          let h : b ≤ 0xBF = range_high 0x80 0xBF b (and_both (continues b) (second p b) f).0 in
          rw (d, f) (after_in c rs b s e ∙ ih rs q p b (o (omega arith)))
      go false e = rw (d, ← cell b, e) (after_out c rs b s e)

  module _ {r q p : ℕ} (i : p < 0xC0) (j : q < 0xE0) (k : r < 0xF0) where
    -- a first byte, whose row asks for rs
    first_step : (rs : List Range) → row_at rows b ≡ some rs → begins b ≡ true → Owed rs q p b → is_text (b ∷ s) ≡ (fits r q p b && fit_all q p b s)
    unfolding fits
    first_step rs e f o = rw (due_none r q p i j k, f) (text_first b s (some rs) e ∙ ih rs q p b o)

    none_step : row_at rows b ≡ none → begins b ≡ false → is_text (b ∷ s) ≡ (fits r q p b && fit_all q p b s)
    unfolding fits
    none_step e f = rw (due_none r q p i j k, f) (text_first b s none e)

    -- the rows of three bytes, and of four
    third : (c : Range) → row_at rows b ≡ some (c ∷ tail ∷ []) → Cell b c → 0xE0 ≤ b → b < 0xF0 → is_text (b ∷ s) ≡ (fits r q p b && fit_all q p b s)
    third c e cell l h = first_step (c ∷ tail ∷ []) e (begins_high b (omega arith) (omega arith)) (two (due_two q p b (omega arith)) cell (λ x. due_three p b x l) h)

    fourth : (c : Range) → row_at rows b ≡ some (c ∷ tail ∷ tail ∷ []) → Cell b c → 0xF0 ≤ b → b < 0xF5 → is_text (b ∷ s) ≡ (fits r q p b && fit_all q p b s)
    fourth c e cell l h = first_step (c ∷ tail ∷ tail ∷ []) e (begins_high b (omega arith) (omega arith)) (three (due_two q p b (omega arith)) cell l)

    -- by the row
    first : is_text (b ∷ s) ≡ (fits r q p b && fit_all q p b s)
    unfolding rows
    first =
        either 0x01 b (λ h. none_step (no_row 0 b tt (omega arith)) (begins_zero b h)) λ l1.
        either 0x80 b (λ h. first_step [] (row_at_lem 0 b tt (omega arith)) (begins_low b l1 h) (nothing (omega arith) (omega arith) (omega arith))) λ l2.
        either 0xC2 b (λ h. none_step (no_row 1 b (omega arith) (omega arith)) (begins_middle b l2 h)) λ l3.
        either 0xE0 b (λ h. first_step (tail ∷ []) (row_at_lem 1 b (omega arith) (omega arith)) (begins_high b l3 (omega arith)) (one (due_two q p b (omega arith)) (omega arith) h)) λ l4.
        either 0xE1 b (λ h. let e : b ≡ 0xE0 = omega arith in third (0xA0, 0xBF) (row_at_lem 2 b (omega arith) (omega arith)) (rw e cell_e0) l4 (omega arith)) λ l5.
        either 0xED b (λ h. third tail (row_at_lem 3 b (omega arith) (omega arith)) (cell_any b (λ e. omega arith) (λ e. omega arith) (λ e. omega arith) (λ e. omega arith)) l4 (omega arith)) λ l6.
        either 0xEE b (λ h. let e : b ≡ 0xED = omega arith in third (0x80, 0x9F) (row_at_lem 4 b (omega arith) (omega arith)) (rw e cell_ed) l4 (omega arith)) λ l7.
        either 0xF0 b (λ h. third tail (row_at_lem 5 b (omega arith) (omega arith)) (cell_any b (λ e. omega arith) (λ e. omega arith) (λ e. omega arith) (λ e. omega arith)) l4 h) λ l8.
        either 0xF1 b (λ h. let e : b ≡ 0xF0 = omega arith in fourth (0x90, 0xBF) (row_at_lem 6 b (omega arith) (omega arith)) (rw e cell_f0) l8 (omega arith)) λ l9.
        either 0xF4 b (λ h. fourth tail (row_at_lem 7 b (omega arith) (omega arith)) (cell_any b (λ e. omega arith) (λ e. omega arith) (λ e. omega arith) (λ e. omega arith)) l8 (omega arith)) λ l10.
        either 0xF5 b (λ h. let e : b ≡ 0xF4 = omega arith in fourth (0x80, 0x8F) (row_at_lem 8 b (omega arith) (omega arith)) (rw e cell_f4) l8 h) λ l11.
        none_step (no_row 9 b (omega arith) tt) (begins_over b l11)

  step : (rs : List Range) (r q p : ℕ) → Owed rs r q p → text_after rs (b ∷ s) ≡ (fits r q p b && fit_all q p b s)
  step _ r q p (nothing i j k) = after_none (b ∷ s) ∙ first i j k
  step _ r q p (one d i j) = due_step r q p tail [] d (cell_low p j) (λ h. nothing h j i)
  step _ r q p (two {c} d cell later h) = due_step r q p c (tail ∷ []) d cell (λ l. one (later b) h (omega arith))
  step _ r q p (three {c} d cell h) =
      due_step r q p c (tail ∷ tail ∷ []) d cell (λ l. two (due_three q p b (omega arith)) (cell_low b (omega arith)) (λ x. due_four p b x h) (omega arith))

at_end : (rs : List Range) (r q p : ℕ) → Owed rs r q p → text_after rs [] ≡ not (due r q p)
at_end _ r q p (nothing i j k) = after_none [] ∙ rw (due_none r q p i j k) text_end
at_end _ r q p (one d i j) = rw d (after_end tail [])
at_end _ r q p (two {c} d cell later h) = rw d (after_end c (tail ∷ []))
at_end _ r q p (three {c} d cell h) = rw d (after_end c (tail ∷ tail ∷ []))

after : (s : List ℕ) → After s
after [] = at_end
after (b ∷ s) = step b s (after s)

-- behind bytes that leave nothing open, a text is one just where every byte fits, and nothing is due at the end
pub text_fits : (r q p : ℕ) → p < 0xC0 → q < 0xE0 → r < 0xF0 → (s : List ℕ) → is_text s ≡ fit_all r q p s
text_fits r q p i j k s = sym (after_none s) ∙ after s [] r q p (nothing i j k)

-- ---- the law by indices

-- the byte at index i of t with three more, and what is due behind them
abbrev window : List ℕ → ℕ → Bool
window t i = fits (get_or t i 0) (get_or t (suc i) 0) (get_or t (suc (suc i)) 0) (get_or t (suc (suc (suc i))) 0)

abbrev behind : List ℕ → ℕ → Bool
behind t i = due (get_or t i 0) (get_or t (suc i) 0) (get_or t (suc (suc i)) 0)

all_fit : (r q p : ℕ) (s : List ℕ) → ((k : ℕ) → k < length s → window (r ∷ q ∷ p ∷ s) k ≡ true) → behind (r ∷ q ∷ p ∷ s) (length s) ≡ false → fit_all r q p s ≡ true
all_fit r q p [] f e = rw e
all_fit r q p (b ∷ s) f e = rw (f 0 (omega arith)) (all_fit q p b s (λ k h. f (suc k) (omega arith)) e)

fit_each : (r q p : ℕ) (s : List ℕ) → fit_all r q p s ≡ true → (k : ℕ) → k < length s → window (r ∷ q ∷ p ∷ s) k ≡ true
fit_each r q p [] t k h = absurd (omega arith)
fit_each r q p (b ∷ s) t zero h = (and_both (fits r q p b) (fit_all q p b s) t).0
fit_each r q p (b ∷ s) t (suc k) h = fit_each q p b s (and_both (fits r q p b) (fit_all q p b s) t).1 k (omega arith)

fit_end : (r q p : ℕ) (s : List ℕ) → fit_all r q p s ≡ true → behind (r ∷ q ∷ p ∷ s) (length s) ≡ false
fit_end r q p [] t = not-true (due r q p) t
fit_end r q p (b ∷ s) t = fit_end q p b s (and_both (fits r q p b) (fit_all q p b s) t).1

module _ (s : List ℕ) where
  by_zeros : is_text s ≡ fit_all 0 0 0 s
  by_zeros = text_fits 0 0 0 (omega arith) (omega arith) (omega arith) s

  -- every byte fits behind the up to three before it, and the last leave no character open: then, and only then, s is text
  pub text_windows : Fit s 0 (length s) → due_at s (length s) ≡ false → is_text s ≡ true
  text_windows f e = by_zeros ∙ all_fit 0 0 0 s (λ k h. f k (omega arith) h) e

  pub windows_text : is_text s ≡ true → Fit s 0 (length s) × (due_at s (length s) ≡ false)
  windows_text t = (λ k l h. fit_each 0 0 0 s (sym by_zeros ∙ t) k h, fit_end 0 0 0 s (sym by_zeros ∙ t))

  -- one that does not fit
  pub no_text_lem : (k : ℕ) → k < length s → fits_at s k ≡ false → is_text s ≡ false
  no_text_lem k h e = go (is_text s) refl
    where
      go : (t : Bool) → is_text s ≡ t → t ≡ false
      go true i = absurd (false≢true (sym e ∙ (windows_text i).0 k (omega arith) h))
      go false i = refl

  pub no_end_lem : due_at s (length s) ≡ true → is_text s ≡ false
  no_end_lem e = go (is_text s) refl
    where
      go : (t : Bool) → is_text s ≡ t → t ≡ false
      go true i = absurd (true≢false (sym e ∙ (windows_text i).1))
      go false i = refl
