-- Numbers tested one by one; and a run of ASCII bytes, whose parts are all text. Assumes nothing.
use mathlib.Core.Path.{◌≡◌, refl, sym, ◌∙◌}
use mathlib.Core.Bool.{true}
use mathlib.Core.List.{List, [], ◌∷◌, map}
use Prim.Native.Nat.{ℕ, suc, ◌+◌, ◌≤◌, ◌<◌}
use native.Mathlib.Omega.{arith}
use native.Mathlib.Numerals.{add-one}
use lib.ListN.{length, take, drop, get_or, length-take, length-drop, drop_of_length-le}
use lib.Seq.{drop-cons}
use borrow.Author.Tests.{le-leb}
use Rattle.reading.specs.Refusal.{Refusal}
use Rattle.reading.specs.Reader.{got, bad, ◌>>◌}
use Rattle.writing.specs.Lists.{flat, pieces}
use Rattle.writing.specs.Order.{judge, word, field_tests, number_tests}
use Rattle.writing.proofs.Judge.{judge_append, fields_more}
use Rattle.utf8.specs.Text.{all_ascii}
use Rattle.utf8.proofs.Laws.{and_both, ascii_split, ascii_text}

-- those from the i-th on decide
abbrev pub Left : List ℕ → ℕ → Type 0
Left ns i = judge (flat number_tests ns) ≡ judge (flat number_tests (drop i ns))

module _ (ns : List ℕ) (i : ℕ) (d : Left ns i) where
  module _ (h : i < length ns) where
    then_more : judge (flat number_tests ns) ≡ (judge (flat number_tests (get_or ns i 0 ∷ [])) >> judge (flat number_tests (drop (i + 1) ns)))
    then_more = d ∙ rw (drop-cons ns i 0 h, add-one i) (judge_append (flat number_tests (get_or ns i 0 ∷ [])) (flat number_tests (drop (suc i) ns)))

    pub number_refused : (k : Refusal) → bad k ≡ judge (flat number_tests (get_or ns i 0 ∷ [])) → bad k ≡ judge (flat number_tests ns)
    number_refused k b = sym (then_more ∙ rw (sym b))

    pub number_passed : got tt ≡ judge (flat number_tests (get_or ns i 0 ∷ [])) → Left ns (i + 1)
    number_passed b = then_more ∙ rw (sym b)

  pub numbers_done : length ns ≤ i → got tt ≡ judge (flat number_tests ns)
  unfolding judge
  numbers_done h = sym (d ∙ rw (drop_of_length-le ns h))

-- ---- a run of ASCII bytes: every part of it is text, and no longer than the run

pub run_fine : (lengths bytes : List ℕ) → length bytes ≤ 65535 → all_ascii bytes ≡ true → judge (flat field_tests (map word (pieces lengths bytes))) ≡ got tt
unfolding judge
run_fine [] bytes h a = refl
run_fine (n ∷ ns) bytes h a =
    let (t, d) = and_both (all_ascii (take n bytes)) (all_ascii (drop n bytes)) (sym (ascii_split n bytes) ∙ a) in
    let l : length (take n bytes) ≤ 65535 = omega (arith, length-take n bytes) in
    let m : length (drop n bytes) ≤ 65535 = omega (arith, length-drop n bytes) in
    rw (fields_more (word (take n bytes)) (map word (pieces ns (drop n bytes))), le-leb (length (take n bytes)) 65535 l, ascii_text (take n bytes) t) (run_fine ns (drop n bytes) m d)
