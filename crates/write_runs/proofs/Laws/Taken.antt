-- Lengths taken off one by one. Assumes nothing.
use mathlib.Core.Path.{◌≡◌, sym, ◌∙◌}
use mathlib.Core.Bool.{false, ◌&&◌}
use mathlib.Core.List.{List}
use Prim.Native.Nat.{ℕ, suc, ◌+◌, ◌-◌, ◌≤◌, ◌<◌}
use native.Mathlib.Numerals.{add-one}
use lib.Dec.{eqb, leb}
use lib.ListN.{length, drop, get_or, drop_of_length-le}
use lib.Seq.{drop-cons}
use borrow.Author.Tests.{le-leb, lt-leb, eqb-true}
use Rattle.writing.specs.Lists.{sum}
use Rattle.writing.proofs.Tests.{eq_when, same_test}
use Rattle.writing.proofs.ForCode.{adds_more}

-- ---- lengths taken off, from the i-th on

module _ (ns : List ℕ) (i left : ℕ) where
  module _ (h : i < length ns) where
    adds_on : eqb (sum (drop i ns)) left ≡ (leb (get_or ns i 0) left && eqb (sum (drop (i + 1) ns)) (left - get_or ns i 0))
    adds_on = rw (drop-cons ns i 0 h, add-one i) (adds_more (get_or ns i 0) (drop (suc i) ns) left)

    pub adds_past : left < get_or ns i 0 → eqb (sum (drop i ns)) left ≡ false
    adds_past l = adds_on ∙ rw (lt-leb (get_or ns i 0) left l)

    pub adds_next : get_or ns i 0 ≤ left → eqb (sum (drop i ns)) left ≡ eqb (sum (drop (i + 1) ns)) (left - get_or ns i 0)
    adds_next l = adds_on ∙ rw (le-leb (get_or ns i 0) left l)

  pub adds_end : length ns ≤ i → eqb (sum (drop i ns)) left ≡ eqb left 0
  adds_end h = rw (drop_of_length-le ns h) (same_test (eqb 0 left) (eqb left 0) (λ e. (eq_when left 0).1 (sym (eqb-true 0 left e))) (λ e. (eq_when 0 left).1 (sym (eqb-true left 0 e))))
