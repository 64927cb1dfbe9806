-- The row of every acknowledgement: what belongs together, L, what is tested, and the bytes. Assumes nothing.
use mathlib.Core.Path.{◌≡◌, refl, sym, ap, ◌∙◌}
use mathlib.Core.Bool.{Bool, ◌&&◌, and-true}
use mathlib.Core.List.{List, [], ◌++◌, map, append-nil}
use Prim.Native.Nat.{ℕ, ◌+◌, ◌≤◌, min}
use lib.ListN.{length}
use lib.Seq.{sets}
use Rattle.grammar.specs.Tables.{text, pair, ack_row}
use Rattle.grammar.specs.Octets.{Each}
use Rattle.reading.specs.Reader.{Fit, ◌>>◌}
use Rattle.writing.specs.Lists.{flat}
use Rattle.writing.specs.Handed.{Lent, Run, lent, pairs, ack_given, strings, row_belongs, block_belongs}
use Rattle.writing.specs.Size.{most, given_size, props_size, cap}
use Rattle.writing.specs.Spell.{short, props_bytes}
use Rattle.writing.specs.Order.{judge, word, field_tests, given_fields, props_fields}
use Rattle.writing.proofs.Judge.{judge_append}
use Rattle.writing.specs.Refuse.{Writable}
use Rattle.writing.proofs.Each.{each_left, each_right, flat_append}
use Rattle.writing.proofs.ForCode.{judge_all, ack_sum}
use Rattle.writing.proofs.Pins.{ack_props}
use Rattle.write_sizes.proofs.Laws.{cap_last}
use Rattle.write_lengths.specs.Fitting.{fit_short}
use Rattle.write_properties.specs.Put.{Put}
use Rattle.write_properties.specs.Behind.{Behind}
use Rattle.write_properties.specs.Fitting.{fit_row, fit_props}
use Rattle.write_properties.proofs.Fits.{cap_fits, lent_fits, pairs_fit}
use Rattle.write_properties.proofs.Laws.{store_next, put_next, next_then}

module _ (t : Lent) (u : Run) where
  pub belong_both : (block : Bool) {x y r : Bool} → x ≡ row_belongs block (lent t) → y ≡ row_belongs block (pairs u) → r ≡ (x && y) → r ≡ block_belongs ack_row block (ack_given t u)
  unfolding block_belongs ack_row ack_given
  belong_both block {y = y} e f g = g ∙ rw (sym (and-true y), e, f)

  pub length_both : (a b r : ℕ) → a ≡ cap (given_size text (lent t)) → b ≡ cap (given_size pair (pairs u)) → r ≡ cap (a + b) → r ≡ cap (props_size ack_row (ack_given t u))
  length_both a b r e f g = g ∙ cap_last a b (given_size text (lent t)) (given_size pair (pairs u)) e f ∙ ap cap (sym (ack_sum t u))

  fields_both : props_fields ack_row (ack_given t u) ≡ given_fields text (lent t) ++ (map word (strings u) ++ [])
  unfolding props_fields ack_row ack_given
  fields_both = refl

  pub test_both : {x y r : Fit (Unit {0})} → x ≡ judge (flat field_tests (given_fields text (lent t))) → y ≡ judge_all u → r ≡ (x >> y) → r ≡ judge (flat field_tests (props_fields ack_row (ack_given t u)))
  test_both e f g =
      let fs = given_fields text (lent t) in
      let gs = map word (strings u) in
      g ∙ rw (e, f) (sym (ap (λ l. judge (flat field_tests l)) fields_both ∙ rw (append-nil gs, flat_append field_tests fs gs) (judge_append (flat field_tests fs) (flat field_tests gs))))

  fit_both : fit_props ack_row (ack_given t u) ≡ fit_row (31, text) (lent t) ++ (fit_row (38, pair) (pairs u) ++ [])
  unfolding fit_props ack_row ack_given
  fit_both = refl

  pub put_both : (before out₁ out₂ out₃ : List ℕ) (at len n first k second j third : ℕ) → len ≡ cap (props_size ack_row (ack_given t u))
      → (out₁ ≡ sets before at (fit_short len)) × (n ≡ length (fit_short len)) → first ≡ min (at + n) (length out₁)
      → Put out₁ first (fit_row (31, text) (lent t)) out₂ k → second ≡ min (first + k) (length out₂)
      → Put out₂ second (fit_row (38, pair) (pairs u)) out₃ j → third ≡ min (second + j) (length out₃)
      → Behind before at (fit_short (cap (props_size ack_row (ack_given t u))) ++ fit_props ack_row (ack_given t u)) out₃ third
  put_both before out₁ out₂ out₃ at len n first k second j third l (q₁, c₁) m₁ p₂ m₂ p₃ m₃ =
      let r : List ℕ = fit_row (38, pair) (pairs u) in
      rw (← l, fit_both, append-nil r) (next_then (store_next (fit_short len) q₁ c₁ m₁) (next_then (put_next p₂ m₂) (put_next p₃ m₃)))

  -- where L can be written and every text fits, it is L and the properties
  pub rows_small : {before after : List ℕ} {at next : ℕ} → Behind before at (fit_short (cap (props_size ack_row (ack_given t u))) ++ fit_props ack_row (ack_given t u)) after next
      → props_size ack_row (ack_given t u) ≤ most → Each Writable (props_fields ack_row (ack_given t u))
      → Behind before at (short (props_size ack_row (ack_given t u)) ++ props_bytes ack_row (ack_given t u)) after next
  rows_small h s w =
      let fs = given_fields text (lent t) in
      let gs = map word (strings u) in
      let v : Each Writable (fs ++ (gs ++ [])) = rw fields_both at w in
      let n : ℕ = props_size ack_row (ack_given t u) in
      let e : fit_props ack_row (ack_given t u) ≡ props_bytes ack_row (ack_given t u) =
      fit_both ∙ rw (lent_fits 31 t (each_left fs (gs ++ []) v), pairs_fit u (each_left gs [] (each_right fs (gs ++ []) v))) (sym (ack_props t u)) in
      rw (cap_fits (cap n) n refl s, e) at h
