-- What is found of a Subscribe, and its bytes. Assumes nothing.
use mathlib.Core.Path.{◌≡◌, refl, sym, ap, ◌∙◌}
use mathlib.Core.Bool.{Bool, true, not, ◌&&◌, and-true}
use mathlib.Core.List.{List, [], ◌∷◌, ◌++◌, map, append_assoc, append-nil}
use Prim.Native.Nat.{ℕ, ◌+◌, ◌≤◌, min}
use native.Mathlib.Omega.{arith}
use lib.ListN.{length}
use lib.Seq.{sets}
use Rattle.grammar.specs.Choice.{is_empty}
use Rattle.grammar.specs.Octets.{Each}
use Rattle.grammar.specs.Tables.{number, pair, subscribe_row, first_of}
use Rattle.reading.specs.Refusal.{nr}
use Rattle.reading.specs.Reader.{Fit, ◌>>◌, guard}
use Rattle.writing.specs.Lists.{flat}
use Rattle.writing.specs.Handed.{SubscribeHanded, subscribe, one, pairs, subscribe_given, strings, filters_of, filters, filters_belong, row_belongs, belongs}
use Rattle.writing.specs.Size.{most, with_length, given_size, props_size, filters_size, rest_is, cap}
use Rattle.writing.specs.Spell.{wide, short, row_bytes, props_bytes, filter_bytes}
use Rattle.writing.specs.Order.{judge, word, field_tests, props_fields, filter_field, fields_of, number_tests, or_none}
use Rattle.writing.specs.Refuse.{Writable, Fine}
use Rattle.writing.specs.Write.{first_byte, frame_bytes}
use Rattle.writing.proofs.ForCode.{judge_all, subscribe_belongs, subscribe_tests, subscribe_sum, subscribe_frame, cap_length}
use Rattle.writing.proofs.Each.{each_left, each_right}
use Rattle.writing.proofs.Pins.{subscribe_props}
use Rattle.writing.proofs.Says.{length_wide}
use Rattle.write_sizes.proofs.Laws.{cap_left, cap_both, cap_last}
use Rattle.write_lengths.specs.Fitting.{fit_short}
use Rattle.write_properties.specs.Put.{Put}
use Rattle.write_properties.specs.Behind.{Behind}
use Rattle.write_properties.specs.Fitting.{fit_row}
use Rattle.write_properties.proofs.Fits.{cap_fits, one_fits, pairs_fit}
use Rattle.write_properties.proofs.Laws.{store_next, put_next, next_last, next_then}
use Rattle.write_order.specs.Found.{before_size, after_limit, Stored}
use Rattle.write_order.proofs.Laws.{before_size_fields}
use Rattle.subscribe_write.specs.Fitting.{fit_filter}
use Rattle.subscribe_write.proofs.Filters.{filters_fit_lem}

first_byte_lem : (h : SubscribeHanded) → first_byte (subscribe h) ≡ first_of 8
unfolding first_byte
first_byte_lem h = refl

module _ (h : SubscribeHanded) where
  -- ---- 20

  pub belong_all : {x y z r s : Bool} → x ≡ row_belongs h.block (one h.subscription) → y ≡ row_belongs h.block (pairs h.user)
      → z ≡ filters_belong h.filters h.options → r ≡ (x && y) → s ≡ (r && z) → s ≡ belongs (subscribe h)
  belong_all {y = y} e f g i j = sym (subscribe_belongs h ∙ rw (← e, ← f, ← g, and-true y, ← i, ← j))

  -- ---- L and R

  pub subscribe_length : (a b r : ℕ) → a ≡ cap (given_size number (one h.subscription)) → b ≡ cap (given_size pair (pairs h.user)) → r ≡ cap (a + b) → r ≡ cap (props_size subscribe_row (subscribe_given h))
  subscribe_length a b r e f g = g ∙ cap_last a b (given_size number (one h.subscription)) (given_size pair (pairs h.user)) e f ∙ ap cap (sym (subscribe_sum h))

  pub subscribe_rest : (l w f a r : ℕ) → l ≡ cap (props_size subscribe_row (subscribe_given h)) → w ≡ cap (with_length l) → f ≡ cap (filters_size h.filters.bytes h.options)
      → a ≡ cap (w + f) → r ≡ cap (a + 2) → r ≡ cap (rest_is (subscribe h))
  unfolding rest_is
  subscribe_rest l w f a r e g i j k =
      let n : ℕ = props_size subscribe_row (subscribe_given h) in
      let t : ℕ = filters_size h.filters.bytes h.options in
      let p : w ≡ cap (with_length n) = g ∙ rw e (cap_length n) in
      let q : with_length n + t + 2 ≡ 2 + (with_length n + t) = omega arith in
      k ∙ cap_left a (with_length n + t) 2 (j ∙ cap_both w f (with_length n) t p i) ∙ rw q

  -- ---- 20 and the fields

  pub before_size_all : {b : Bool} {x y r : Fit (Unit {0})} → b ≡ belongs (subscribe h) → b ≡ true → x ≡ judge_all h.user
      → y ≡ judge (flat field_tests (map filter_field (filters_of h.filters h.options))) → r ≡ (x >> y) → r ≡ before_size (subscribe h)
  unfolding filters
  before_size_all {b} e f i j k = k ∙ rw (i, j) (sym (subscribe_tests h)) ∙ before_size_fields (subscribe h) b e f

  -- ---- 17 for the identifier, and 13

  pub after_limit_all : {x y r : Fit (Unit {0})} → x ≡ judge (flat number_tests (or_none h.subscription))
      → y ≡ guard (not (is_empty (filters_of h.filters h.options))) (nr 13 []) → r ≡ (x >> y) → r ≡ after_limit (subscribe h)
  unfolding filters
  after_limit_all e f g = g ∙ rw (e, f)

  -- ---- the bytes

  abbrev pub block : List ℕ
  block = short (props_size subscribe_row (subscribe_given h)) ++ props_bytes subscribe_row (subscribe_given h)

  -- a block in a frame that is not too long is not too long
  length_small : rest_is (subscribe h) ≤ most → props_size subscribe_row (subscribe_given h) ≤ most
  unfolding rest_is
  length_small s = omega arith

  -- its fields are those of the block, which are the strings of the user properties, and the filters
  block_writable : Each Writable (fields_of (subscribe h)) → Each Writable (props_fields subscribe_row (subscribe_given h))
  unfolding fields_of
  block_writable w = each_left (props_fields subscribe_row (subscribe_given h)) (map filter_field (filters h)) w

  user_writable : Each Writable (props_fields subscribe_row (subscribe_given h)) → Each Writable (map word (strings h.user))
  unfolding props_fields subscribe_row subscribe_given
  user_writable w = each_left (map word (strings h.user)) [] w

  filters_writable : Each Writable (fields_of (subscribe h)) → Each Writable (map filter_field (filters h))
  unfolding fields_of
  filters_writable w = each_right (props_fields subscribe_row (subscribe_given h)) (map filter_field (filters h)) w

  pub put_frame : (before out₁ out₂ out₃ out₄ : List ℕ) (len n first second third j : ℕ) → len ≡ cap (rest_is (subscribe h))
      → Put before 0 (first_of 8 ∷ fit_short len) out₁ n → first ≡ min (0 + n) (length out₁)
      → out₂ ≡ sets out₁ first (wide 2 h.ident) → second ≡ min (first + 2) (length out₂)
      → (props_size subscribe_row (subscribe_given h) ≤ most → Each Writable (props_fields subscribe_row (subscribe_given h)) → Each Fine (or_none h.subscription) → Behind out₂ second block out₃ third)
      → Put out₃ third (flat fit_filter (filters_of h.filters h.options)) out₄ j
      → Stored (subscribe h) before out₄
  unfolding filters
  put_frame before out₁ out₂ out₃ out₄ len n first second third j l p₁ m₁ q₂ m₂ p₃ p₄ e s w z =
      let fs : List ℕ = flat fit_filter (filters h) in
      next_last (put_next p₁ m₁) (wide 2 h.ident ++ (block ++ fs))
      (next_last (store_next (wide 2 h.ident) q₂ (sym (length_wide 2 h.ident)) m₂) (block ++ fs)
      (next_last (p₃ (length_small s) (block_writable w) z) fs p₄.stores))
      ∙ ap (sets before 0) (sym spelt)
    where
      spelt : frame_bytes (subscribe h) ≡ (first_of 8 ∷ fit_short len) ++ (wide 2 h.ident ++ (block ++ flat fit_filter (filters h)))
      spelt = subscribe_frame h e ∙ rw (cap_fits len (rest_is (subscribe h)) l s, filters_fit_lem (filters h) (filters_writable w), append_assoc (short (props_size subscribe_row (subscribe_given h))) (props_bytes subscribe_row (subscribe_given h)) (flat filter_bytes (filters h)), first_byte_lem h)

  pub put_rows : (before out₁ out₂ out₃ : List ℕ) (at len n first k second j third : ℕ) → len ≡ cap (props_size subscribe_row (subscribe_given h))
      → (out₁ ≡ sets before at (fit_short len)) × (n ≡ length (fit_short len)) → first ≡ min (at + n) (length out₁)
      → Put out₁ first (fit_row (11, number) (one h.subscription)) out₂ k → second ≡ min (first + k) (length out₂)
      → Put out₂ second (fit_row (38, pair) (pairs h.user)) out₃ j → third ≡ min (second + j) (length out₃)
      → props_size subscribe_row (subscribe_given h) ≤ most → Each Writable (props_fields subscribe_row (subscribe_given h)) → Each Fine (or_none h.subscription) → Behind before at block out₃ third
  put_rows before out₁ out₂ out₃ at len n first k second j third l (q₁, c₁) m₁ p₂ m₂ p₃ m₃ s w f =
      let i = cap_fits len (props_size subscribe_row (subscribe_given h)) l s in
      let r : List ℕ = row_bytes (38, pair) (pairs h.user) in
      rw (← i, subscribe_props h, append-nil r, ← one_fits 11 h.subscription f, ← pairs_fit h.user (user_writable w)) (next_then (store_next (fit_short len) q₁ c₁ m₁) (next_then (put_next p₂ m₂) (put_next p₃ m₃)))
