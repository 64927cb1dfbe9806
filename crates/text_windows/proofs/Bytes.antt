-- What the code computes of single bytes, where a mark is a top bit: a byte is below 128 just where a test holds. Assumes nothing.
use Rattle.std.proofs.Common.{◌≡◌, ℕ, suc, ◌+◌, ◌-◌, ◌%◌, ◌<◌, ◌≤◌, Bool, true, false, cond, not, ◌&&◌, ◌||◌, eqb, ltb, leb, sym, refl, ap, ◌∙◌, arith, ne_eqb, eqb-true, le-leb}
use mathlib.Core.Bool.{and_assoc, and-true}
use lib.Bits.{bit_or}
use lib.Dec.{leb-suc-suc}
use borrow.Author.Tests.{lt-leb, eqb-false, not-true, not-false}
use Rattle.grammar.specs.Text.{in_range}
use Rattle.text_windows.specs.Window.{due, begins, only_if, second, fits, used}
use Rattle.text_chars.specs.Text.{continues, low_of, high_of}
use Rattle.text_chars.proofs.Laws.{or_low}
use Rattle.text_chars.proofs.Laws.{either, in_range_lem, below_range, over_range}
use Rattle.text_windows.proofs.Windows.{Cell, cell_any, cell_e0, cell_ed, cell_f0, cell_f4, due_closed, begins_low, begins_high, begins_zero, begins_middle, begins_over, second_any}

below_not : (n b : ℕ) → ltb b n ≡ not (leb n b)
below_not n b = either n b (λ h. rw (le-leb (suc b) n h, lt-leb n b h)) (λ h. rw (lt-leb (suc b) n (omega arith), le-leb n b h))

-- x is b - 1, wrapped
in_use : (b x : ℕ) → (x + 1) % 256 ≡ b → x < 256 → ltb x 0xF4 ≡ in_range (0x01, 0xF4) b
in_use b x e l =
    either 0xF4 x
    (λ h. rw (le-leb (suc x) 0xF4 h) (sym (in_range_lem 0x01 0xF4 b (omega arith) (omega arith))))
    λ h. rw (lt-leb (suc x) 0xF4 (omega arith)) (either 0xFF x (λ m. sym (over_range 0x01 0xF4 b (omega arith))) λ m. sym (below_range 0x01 0xF4 b (omega arith)))

pub over_low : (b n : ℕ) → b < n → true ≡ ltb b (n + 128)
over_low b n h = sym (le-leb (suc b) (n + 128) (omega arith))

pub over_rest : (b n : ℕ) → n ≤ b → ltb (b - n) 128 ≡ ltb b (n + 128)
over_rest b n h = either (n + 128) b (λ l. rw (le-leb (suc b) (n + 128) l) (le-leb (suc (b - n)) 128 (omega arith))) (λ l. rw (lt-leb (suc b) (n + 128) (omega arith)) (lt-leb (suc (b - n)) 128 (omega arith)))

-- ---- parts of a mark

none_of_lem : (x y z : Bool) → ((not x && not y) && not z) ≡ not (x || (y || z))
none_of_lem true y z = refl
none_of_lem false true z = refl
none_of_lem false false z = refl

pub owed_of : (r q p a b c : ℕ) → ltb a 128 ≡ ltb p 0xC0 → ltb b 128 ≡ ltb q 0xE0 → ltb c 128 ≡ ltb r 0xF0 → ltb (bit_or (bit_or a b) c) 128 ≡ not (due r q p)
unfolding due
owed_of r q p a b c e f g = rw (or_low (bit_or a b) c, or_low a b, e, f, g, below_not 0xC0 p, below_not 0xE0 q, below_not 0xF0 r) (none_of_lem (leb 0xC0 p) (leb 0xE0 q) (leb 0xF0 r))

not_same : (t : Bool) → only_if t false ≡ not t
not_same true = refl
not_same false = refl

pub unused_of : (n x a b c : ℕ) → (x + 1) % 256 ≡ n → x < 256 → ltb a 128 ≡ ltb x 0xF4 → ltb b 128 ≡ only_if (eqb n 0xC0) false → ltb c 128 ≡ only_if (eqb n 0xC1) false → ltb (bit_or (bit_or a b) c) 128 ≡ used n
unused_of n x a b c h l e f g =
    rw (or_low (bit_or a b) c, or_low a b, e, f, g, in_use n x h l, not_same (eqb n 0xC0), not_same (eqb n 0xC1))
    (and_assoc (in_range (0x01, 0xF4) n) (not (eqb n 0xC0)) (not (eqb n 0xC1)))

-- the other side of a mark
flip : (x : ℕ) → x < 256 → ltb (255 - x) 128 ≡ not (ltb x 128)
flip x h = either 128 x (λ l. rw (le-leb (suc x) 128 l, lt-leb (suc (255 - x)) 128 (omega arith))) (λ l. rw (lt-leb (suc x) 128 (omega arith), le-leb (suc (255 - x)) 128 (omega arith)))

above_from : (n b x : ℕ) → x < 256 → ltb x 128 ≡ ltb b n → ltb (255 - x) 128 ≡ leb n b
above_from n b x h e = flip x h ∙ rw (e, below_not n b) (back (leb n b))
  where
    back : (t : Bool) → not (not t) ≡ t
    back true = refl
    back false = refl

module _ (p n x y : ℕ) (h : x < 256) (h' : y < 256) (e : ltb x 128 ≡ ltb n 0xA0) (f : ltb y 128 ≡ ltb n 0x90) where
  pub outside_of : (a b c d : ℕ) → ltb a 128 ≡ only_if (eqb p 0xE0) (ltb (255 - x) 128) → ltb b 128 ≡ only_if (eqb p 0xED) (ltb x 128) → ltb c 128 ≡ only_if (eqb p 0xF0) (ltb (255 - y) 128) → ltb d 128 ≡ only_if (eqb p 0xF4) (ltb y 128) → ltb (bit_or (bit_or (bit_or a b) c) d) 128 ≡ second p n
  unfolding second
  outside_of a b c d i j k l =
      rw (or_low (bit_or (bit_or a b) c) d, or_low (bit_or a b) c, or_low a b, i, j, k, l, above_from 0xA0 n x h e, above_from 0x90 n y h' f, e, f, leb-suc-suc n 0x9F, leb-suc-suc n 0x8F)
      (and_assoc (only_if (eqb p 0xE0) (leb 0xA0 n) && only_if (eqb p 0xED) (leb n 0x9F)) (only_if (eqb p 0xF0) (leb 0x90 n)) (only_if (eqb p 0xF4) (leb n 0x8F)) ∙ and_assoc (only_if (eqb p 0xE0) (leb 0xA0 n)) (only_if (eqb p 0xED) (leb n 0x9F)) (only_if (eqb p 0xF0) (leb 0x90 n) && only_if (eqb p 0xF4) (leb n 0x8F)))

-- ---- a window

module _ (b : ℕ) where
  used_low : 1 ≤ b → b < 0xC0 → used b ≡ true
  used_low l h = rw (in_range_lem 0x01 0xF4 b l (omega arith), ne_eqb b 0xC0 (λ e. omega arith), ne_eqb b 0xC1 (λ e. omega arith))

  used_high : 0xC2 ≤ b → b < 0xF5 → used b ≡ true
  used_high l h = rw (in_range_lem 0x01 0xF4 b (omega arith) (omega arith), ne_eqb b 0xC0 (λ e. omega arith), ne_eqb b 0xC1 (λ e. omega arith))

  -- what is in use and does not continue a character begins one
  used_begins : (not (continues b) && used b) ≡ begins b
  used_begins =
      either 0x01 b (λ h. rw (below_range 0x01 0xF4 b h, below_range 0x80 0xBF b (omega arith)) (sym (begins_zero b h))) λ l1.
      either 0x80 b (λ h. rw (below_range 0x80 0xBF b h, used_low l1 (omega arith)) (sym (begins_low b l1 h))) λ l2.
      either 0xC0 b (λ h. rw (in_range_lem 0x80 0xBF b l2 (omega arith)) (sym (begins_middle b l2 (omega arith)))) λ l3.
      either 0xC1 b (λ h. let e : b ≡ 0xC0 = omega arith in rw e (sym (begins_middle 0xC0 (omega arith) (omega arith)))) λ l4.
      either 0xC2 b (λ h. let e : b ≡ 0xC1 = omega arith in rw e (sym (begins_middle 0xC1 (omega arith) (omega arith)))) λ l5.
      either 0xF5 b (λ h. rw (over_range 0x80 0xBF b (omega arith), used_high l5 h) (sym (begins_high b l5 h))) λ l6.
      rw (over_range 0x80 0xBF b (omega arith), over_range 0x01 0xF4 b l6) (sym (begins_over b l6))

  -- what continues one is in use
  used_continues : (continues b && used b) ≡ continues b
  used_continues =
      either 0x80 b (λ h. rw (below_range 0x80 0xBF b h)) λ l1.
      either 0xC0 b (λ h. rw (in_range_lem 0x80 0xBF b l1 (omega arith)) (used_low (omega arith) h)) λ l2.
      rw (over_range 0x80 0xBF b l2)

pub misfit_of : (r q p b o x y z : ℕ) → ltb o 128 ≡ not (due r q p) → ltb x 128 ≡ cond (ltb o 128) (not (continues b)) (continues b) → ltb y 128 ≡ used b → ltb z 128 ≡ second p b → ltb (bit_or (bit_or x y) z) 128 ≡ fits r q p b
unfolding fits
misfit_of r q p b o x y z d e f g = rw (or_low (bit_or x y) z, or_low x y, e, d, f, g) (go (due r q p) refl)
  where
    go : (t : Bool) → due r q p ≡ t → ((cond (not t) (not (continues b)) (continues b) && used b) && second p b) ≡ cond t (continues b && second p b) (begins b)
    go true i = ap (λ (u : Bool). u && second p b) (used_continues b)
    go false i =
        let (h, h', h'') = due_closed r q p i in
        rw (second_any p (λ e. omega arith) (λ e. omega arith) (λ e. omega arith) (λ e. omega arith) b, used_begins b) (and-true (begins b))

-- the cell behind p
pub cell_of : (p : ℕ) → Cell p (low_of p, high_of p)
cell_of p x = go (eqb p 0xE0) refl (eqb p 0xED) refl (eqb p 0xF0) refl (eqb p 0xF4) refl
  where
    go : (a : Bool) → eqb p 0xE0 ≡ a → (b : Bool) → eqb p 0xED ≡ b → (c : Bool) → eqb p 0xF0 ≡ c → (d : Bool) → eqb p 0xF4 ≡ d → in_range (low_of p, high_of p) x ≡ (continues x && second p x)
    go true e b f c g d h = rw (eqb-true p 0xE0 e) (cell_e0 x)
    go false e true f c g d h = rw (eqb-true p 0xED f) (cell_ed x)
    go false e false f true g d h = rw (eqb-true p 0xF0 g) (cell_f0 x)
    go false e false f false g true h = rw (eqb-true p 0xF4 h) (cell_f4 x)
    go false e false f false g false h = rw (e, f, g, h) (cell_any p (eqb-false p 0xE0 e) (eqb-false p 0xED f) (eqb-false p 0xF0 g) (eqb-false p 0xF4 h) x)

-- a byte behind three, by its ways out
module _ (r q p b : ℕ) where
  module _ (d : due r q p ≡ true) where
    fits_due : fits r q p b ≡ in_range (low_of p, high_of p) b
    unfolding fits
    fits_due = rw d (sym (cell_of p b))

    pub fits_low : b < low_of p → false ≡ fits r q p b
    fits_low h = sym (fits_due ∙ below_range (low_of p) (high_of p) b h)

    pub fits_cell : low_of p ≤ b → leb b (high_of p) ≡ fits r q p b
    fits_cell h = sym (fits_due ∙ rw (le-leb (low_of p) b h))

  module _ (d : due r q p ≡ false) where
    fits_first : fits r q p b ≡ begins b
    unfolding fits
    fits_first = rw d

    pub fits_ascii : b < 0x80 → ltb 0 b ≡ fits r q p b
    fits_ascii h = either 1 b (λ l. rw (lt-leb 1 b l) (sym (fits_first ∙ begins_zero b l))) λ l. rw (le-leb 1 b l) (sym (fits_first ∙ begins_low b l h))

    pub fits_no : 0x80 ≤ b → b < 0xC2 → false ≡ fits r q p b
    fits_no l h = sym (fits_first ∙ begins_middle b l h)

    pub fits_lead : 0xC2 ≤ b → ltb b 0xF5 ≡ fits r q p b
    fits_lead l = either 0xF5 b (λ h. rw (le-leb (suc b) 0xF5 h) (sym (fits_first ∙ begins_high b l h))) λ h. rw (lt-leb (suc b) 0xF5 (omega arith)) (sym (fits_first ∙ begins_over b h))

-- ---- what a mark tells

pub marked_due : (r q p o : ℕ) → ltb o 128 ≡ not (due r q p) → 128 ≤ o → due r q p ≡ true
marked_due r q p o e h = not-false (due r q p) (sym e ∙ lt-leb (suc o) 128 (omega arith))

pub unmarked_due : (r q p o : ℕ) → ltb o 128 ≡ not (due r q p) → o < 128 → due r q p ≡ false
unmarked_due r q p o e h = not-true (due r q p) (sym e ∙ le-leb (suc o) 128 h)

pub astray_on : (o b : ℕ) → continues b ≡ true → o < 128 → false ≡ cond (ltb o 128) (not (continues b)) (continues b)
astray_on o b e h = rw (le-leb (suc o) 128 h, e)

pub due_on : (o b : ℕ) → continues b ≡ true → 128 ≤ o → true ≡ cond (ltb o 128) (not (continues b)) (continues b)
due_on o b e h = rw (lt-leb (suc o) 128 (omega arith), e)

pub first_off : (o b : ℕ) → continues b ≡ false → o < 128 → true ≡ cond (ltb o 128) (not (continues b)) (continues b)
first_off o b e h = rw (le-leb (suc o) 128 h, e)

pub astray_off : (o b : ℕ) → continues b ≡ false → 128 ≤ o → false ≡ cond (ltb o 128) (not (continues b)) (continues b)
astray_off o b e h = rw (lt-leb (suc o) 128 (omega arith), e)
