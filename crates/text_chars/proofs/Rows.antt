-- Rows of the Unicode table by the first byte, as the code tells them apart. Assumes nothing.
use Rattle.std.proofs.Common.{◌≡◌, ℕ, suc, ◌+◌, ◌%◌, ◌<◌, ◌≤◌, true, false, ltb, sym, ◌∙◌, true≢false, arith, ne_eqb, le-leb}
use mathlib.Core.Option.{none, some}
use borrow.Author.Tests.{lt-leb}
use Rattle.grammar.specs.Text.{rows, row_at}
use Rattle.text_chars.specs.Text.{due_of, plain, flaw_of, continues, low_of, high_of}
use Rattle.text_chars.proofs.Laws.{flaw_low, either, in_range_lem, below_range, over_range, row_at_lem, no_row}

-- x is b - 128, wrapped
pub goes_on : (b x : ℕ) → (x + 128) % 256 ≡ b → x < 256 → ltb x 64 ≡ continues b
goes_on b x e l =
    either 64 x
    (λ h. rw (le-leb (suc x) 64 h) (let i : b ≡ x + 128 = omega arith in sym (in_range_lem 0x80 0xBF b (omega arith) (omega arith))))
    λ h. rw (lt-leb (suc x) 64 (omega arith)) (either 128 x (λ m. sym (over_range 0x80 0xBF b (omega arith))) λ m. sym (below_range 0x80 0xBF b (omega arith)))

-- ---- rows by the first byte

module _ (b : ℕ) where
  pub row_one : 0xC2 ≤ b → b < 0xE0 → row_at rows b ≡ some (due_of 1 0x80 0xBF)
  unfolding rows
  row_one l h = row_at_lem 1 b (omega arith) (omega arith)

  plain_cell : (n : ℕ) → (b ≡ 0xE0 → ⊥) → (b ≡ 0xED → ⊥) → (b ≡ 0xF0 → ⊥) → (b ≡ 0xF4 → ⊥) → due_of n (low_of b) (high_of b) ≡ due_of n 0x80 0xBF
  plain_cell n i j k l = rw (ne_eqb b 0xE0 i, ne_eqb b 0xED j, ne_eqb b 0xF0 k, ne_eqb b 0xF4 l)

  pub row_two : 0xE0 ≤ b → b < 0xF0 → row_at rows b ≡ some (due_of 2 (low_of b) (high_of b))
  unfolding rows
  row_two l h =
      either 0xE1 b (λ m. let e : b ≡ 0xE0 = omega arith in rw e) λ l1.
      either 0xED b (λ m. rw (plain_cell 2 (λ e. omega arith) (λ e. omega arith) (λ e. omega arith) (λ e. omega arith)) (row_at_lem 3 b (omega arith) (omega arith))) λ l2.
      either 0xEE b (λ m. let e : b ≡ 0xED = omega arith in rw e) λ l3.
      rw (plain_cell 2 (λ e. omega arith) (λ e. omega arith) (λ e. omega arith) (λ e. omega arith)) (row_at_lem 5 b (omega arith) (omega arith))

  pub row_three : 0xF0 ≤ b → b < 0xF5 → row_at rows b ≡ some (due_of 3 (low_of b) (high_of b))
  unfolding rows
  row_three l h =
      either 0xF1 b (λ m. let e : b ≡ 0xF0 = omega arith in rw e) λ l1.
      either 0xF4 b (λ m. rw (plain_cell 3 (λ e. omega arith) (λ e. omega arith) (λ e. omega arith) (λ e. omega arith)) (row_at_lem 7 b (omega arith) (omega arith))) λ l2.
      let e : b ≡ 0xF4 = omega arith in rw e

  pub row_over : 0xF5 ≤ b → row_at rows b ≡ none
  unfolding rows
  row_over l = no_row 9 b (omega arith) tt

  -- neither ASCII nor above
  pub row_none : plain b ≡ false → b < 0xC2 → row_at rows b ≡ none
  unfolding rows
  row_none e h =
      either 0x01 b (λ l. no_row 0 b tt (omega arith)) λ l1.
      either 0x80 b (λ l. absurd (true≢false (sym (rw (le-leb 1 b l1, le-leb (suc b) 128 l)) ∙ e))) λ l2.
      no_row 1 b (omega arith) (omega arith)

pub plain_not : (b x : ℕ) → x ≡ flaw_of b → 128 ≤ x → plain b ≡ false
plain_not b x e h = sym (flaw_low b x e) ∙ lt-leb (suc x) 128 (omega arith)

pub plain_so : (b x : ℕ) → x ≡ flaw_of b → x < 128 → plain b ≡ true
plain_so b x e h = sym (flaw_low b x e) ∙ le-leb (suc x) 128 h
