-- Fields tested one by one: those that are fine are passed, the first that is not says the refusal. Assumes nothing.
use mathlib.Core.Path.{◌≡◌, sym, ap, ◌∙◌}
use mathlib.Core.Bool.{true, false}
use mathlib.Core.List.{List, [], ◌∷◌, append-nil}
use Prim.Native.Nat.{ℕ, ◌≤◌, ◌<◌}
use borrow.Author.Tests.{le-leb, lt-leb, ne_eqb}
use Rattle.reading.specs.Refusal.{Refusal, nr}
use Rattle.reading.specs.Reader.{Fit, got, bad, ◌>>◌}
use Rattle.reading.specs.Read.{is_text}
use Rattle.writing.specs.Lists.{flat}
use Rattle.writing.specs.Size.{most}
use Rattle.writing.specs.Order.{judge, Field, raw, word, utf8_test, field_tests, number_tests}
use Rattle.writing.proofs.Judge.{judge_append, fields_more}

-- ---- one field

module _ (s : List ℕ) where
  word_tests : judge (field_tests (word s)) ≡ (judge (field_tests (raw s)) >> judge (utf8_test s ∷ []))
  word_tests = judge_append (field_tests (raw s)) (utf8_test s ∷ [])

  pub word_long : (k : Refusal) → bad k ≡ judge (field_tests (raw s)) → bad k ≡ judge (field_tests (word s))
  word_long k e = sym (word_tests ∙ rw (sym e))

  pub word_chars : got tt ≡ judge (field_tests (raw s)) → (f : Fit (Unit {0})) → f ≡ judge (utf8_test s ∷ []) → f ≡ judge (field_tests (word s))
  word_chars h f e = sym (word_tests ∙ rw (sym h, sym e))

  pub chars_fine : is_text s ≡ true → got tt ≡ judge (utf8_test s ∷ [])
  unfolding judge
  chars_fine e = rw e

  pub chars_broken : is_text s ≡ false → bad (nr 9 []) ≡ judge (utf8_test s ∷ [])
  unfolding judge
  chars_broken e = rw e

-- a field by itself
pub field_alone : (f : Field) → judge (field_tests f) ≡ judge (flat field_tests (f ∷ []))
field_alone f = ap judge (sym (append-nil (field_tests f)))

-- ---- fields in a list: those that are left decide

pub record Deciding (whole left : List Field) : Type 0 where
  pub same : judge (flat field_tests whole) ≡ judge (flat field_tests left)

module _ {whole left : List Field} (d : Deciding whole left) where
  module _ (f : Field) (fs : List Field) (e : left ≡ f ∷ fs) where
    pub field_refused : (k : Refusal) → bad k ≡ judge (field_tests f) → bad k ≡ judge (flat field_tests whole)
    field_refused k b = sym (d.same ∙ rw (e, fields_more f fs, sym b))

    pub field_passed : got tt ≡ judge (field_tests f) → Deciding whole fs
    field_passed b = record { same = d.same ∙ rw (e, fields_more f fs, sym b) }

  pub fields_done : left ≡ [] → got tt ≡ judge (flat field_tests whole)
  unfolding judge
  fields_done e = sym (d.same ∙ rw e)

-- ---- numbers

pub number_large : (n : ℕ) → most < n → bad (nr 17 []) ≡ judge (flat number_tests (n ∷ []))
unfolding judge
number_large n h = rw (lt-leb n most h)

pub number_zero : (n : ℕ) → n ≡ 0 → bad (nr 23 []) ≡ judge (flat number_tests (n ∷ []))
unfolding judge
number_zero n z = rw z

pub number_fine : (n : ℕ) → n ≤ most → (n ≡ 0 → ⊥) → got tt ≡ judge (flat number_tests (n ∷ []))
unfolding judge
number_fine n h z = rw (le-leb n most h, ne_eqb n 0 z)
