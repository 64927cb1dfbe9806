-- What is found of an Unsubscribe, and its bytes. Assumes nothing.
use mathlib.Core.Path.{◌≡◌, refl, sym, ap, ◌∙◌}
use mathlib.Core.Bool.{Bool, true, not, ◌&&◌, and-true}
use mathlib.Core.List.{List, [], ◌∷◌, ◌++◌, map, append_assoc, append-nil}
use Prim.Native.Nat.{ℕ, ◌+◌, ◌≤◌, min}
use native.Mathlib.Omega.{arith}
use lib.ListN.{length}
use lib.Seq.{sets}
use Rattle.grammar.specs.Choice.{is_empty}
use Rattle.grammar.specs.Octets.{Each}
use Rattle.grammar.specs.Tables.{pair, unsubscribe_row, first_of}
use Rattle.reading.specs.Refusal.{nr}
use Rattle.reading.specs.Reader.{Fit, ◌>>◌, guard}
use Rattle.writing.specs.Lists.{flat}
use Rattle.writing.specs.Handed.{Run, UnsubscribeHanded, unsubscribe, pairs, unsubscribe_given, strings, adds_up, row_belongs, belongs}
use Rattle.writing.specs.Size.{most, with_length, given_size, props_size, topics_size, rest_is, cap}
use Rattle.writing.specs.Spell.{wide, short, string, row_bytes, props_bytes}
use Rattle.writing.specs.Order.{judge, word, props_fields, fields_of}
use Rattle.writing.specs.Refuse.{Writable}
use Rattle.writing.specs.Write.{first_byte, frame_bytes}
use Rattle.writing.proofs.ForCode.{judge_all, unsubscribe_belongs, unsubscribe_tests, unsubscribe_sum, unsubscribe_frame, cap_length}
use Rattle.writing.proofs.Each.{each_left, each_right}
use Rattle.writing.proofs.Pins.{unsubscribe_props}
use Rattle.writing.proofs.Says.{length_wide}
use Rattle.write_sizes.proofs.Laws.{cap_left, cap_both}
use Rattle.write_lengths.specs.Fitting.{fit_short}
use Rattle.write_strings.specs.Fitting.{fit_string}
use Rattle.write_properties.specs.Put.{Put}
use Rattle.write_properties.specs.Behind.{Behind}
use Rattle.write_properties.specs.Fitting.{fit_row}
use Rattle.write_properties.proofs.Fits.{cap_fits, pairs_fit, words_fit}
use Rattle.write_properties.proofs.Laws.{store_next, put_next, next_last, next_then}
use Rattle.write_order.specs.Found.{before_size, after_limit, Stored}
use Rattle.write_order.proofs.Laws.{before_size_fields}

first_byte_lem : (h : UnsubscribeHanded) → first_byte (unsubscribe h) ≡ first_of 10
unfolding first_byte
first_byte_lem h = refl

-- L of the user properties alone
block_length : (u : Run) (l : ℕ) → l ≡ cap (given_size pair (pairs u)) → l ≡ cap (props_size unsubscribe_row (unsubscribe_given u))
block_length u l e =
    let i : given_size pair (pairs u) ≡ given_size pair (pairs u) + 0 = omega arith in
    e ∙ ap cap (i ∙ sym (unsubscribe_sum u))

module _ (h : UnsubscribeHanded) where
  -- ---- 20

  pub belong_all : {x y r : Bool} → x ≡ row_belongs h.block (pairs h.user) → y ≡ adds_up h.topics → r ≡ (x && y) → r ≡ belongs (unsubscribe h)
  belong_all {x} e f g = sym (unsubscribe_belongs h ∙ rw (← e, ← f, and-true x, ← g))

  -- ---- R

  pub unsubscribe_rest : (l w f a r : ℕ) → l ≡ cap (given_size pair (pairs h.user)) → w ≡ cap (with_length l) → f ≡ cap (topics_size h.topics)
      → a ≡ cap (w + f) → r ≡ cap (a + 2) → r ≡ cap (rest_is (unsubscribe h))
  unfolding rest_is
  unsubscribe_rest l w f a r e g i j k =
      let n : ℕ = props_size unsubscribe_row (unsubscribe_given h.user) in
      let t : ℕ = topics_size h.topics in
      let p : w ≡ cap (with_length n) = g ∙ rw (block_length h.user l e) (cap_length n) in
      let q : with_length n + t + 2 ≡ 2 + (with_length n + t) = omega arith in
      k ∙ cap_left a (with_length n + t) 2 (j ∙ cap_both w f (with_length n) t p i) ∙ rw q

  -- ---- 20 and the fields

  pub before_size_all : {b : Bool} {x y r : Fit (Unit {0})} → b ≡ belongs (unsubscribe h) → b ≡ true → x ≡ judge_all h.user → y ≡ judge_all h.topics → r ≡ (x >> y) → r ≡ before_size (unsubscribe h)
  before_size_all {b} e f i j k = k ∙ rw (i, j) (sym (unsubscribe_tests h)) ∙ before_size_fields (unsubscribe h) b e f

  -- ---- 13

  pub after_limit_all : {x : Fit (Unit {0})} → x ≡ guard (not (is_empty (strings h.topics))) (nr 13 []) → x ≡ after_limit (unsubscribe h)
  unfolding judge
  after_limit_all e = e

  -- ---- the bytes

  abbrev pub block : List ℕ
  block = short (props_size unsubscribe_row (unsubscribe_given h.user)) ++ props_bytes unsubscribe_row (unsubscribe_given h.user)

  -- a block in a frame that is not too long is not too long
  length_small : rest_is (unsubscribe h) ≤ most → props_size unsubscribe_row (unsubscribe_given h.user) ≤ most
  unfolding rest_is
  length_small s = omega arith

  -- its fields are those of the block, which are the strings of the user properties, and the topics
  user_writable : Each Writable (fields_of (unsubscribe h)) → Each Writable (map word (strings h.user))
  unfolding fields_of props_fields unsubscribe_row unsubscribe_given
  user_writable w = each_left (map word (strings h.user)) [] (each_left (map word (strings h.user) ++ []) (map word (strings h.topics)) w)

  topics_writable : Each Writable (fields_of (unsubscribe h)) → Each Writable (map word (strings h.topics))
  unfolding fields_of
  topics_writable w = each_right (props_fields unsubscribe_row (unsubscribe_given h.user)) (map word (strings h.topics)) w

  pub put_frame : (before out₁ out₂ out₃ out₄ : List ℕ) (len n first second third j : ℕ) → len ≡ cap (rest_is (unsubscribe h))
      → Put before 0 (first_of 10 ∷ fit_short len) out₁ n → first ≡ min (0 + n) (length out₁)
      → out₂ ≡ sets out₁ first (wide 2 h.ident) → second ≡ min (first + 2) (length out₂)
      → (props_size unsubscribe_row (unsubscribe_given h.user) ≤ most → Each Writable (map word (strings h.user)) → Behind out₂ second block out₃ third)
      → Put out₃ third (flat fit_string (strings h.topics)) out₄ j
      → Stored (unsubscribe h) before out₄
  put_frame before out₁ out₂ out₃ out₄ len n first second third j l p₁ m₁ q₂ m₂ p₃ p₄ e s w z =
      let ts : List ℕ = flat fit_string (strings h.topics) in
      next_last (put_next p₁ m₁) (wide 2 h.ident ++ (block ++ ts))
      (next_last (store_next (wide 2 h.ident) q₂ (sym (length_wide 2 h.ident)) m₂) (block ++ ts)
      (next_last (p₃ (length_small s) (user_writable w)) ts p₄.stores))
      ∙ ap (sets before 0) (sym spelt)
    where
      spelt : frame_bytes (unsubscribe h) ≡ (first_of 10 ∷ fit_short len) ++ (wide 2 h.ident ++ (block ++ flat fit_string (strings h.topics)))
      spelt = unsubscribe_frame h e ∙ rw (cap_fits len (rest_is (unsubscribe h)) l s, words_fit (strings h.topics) (topics_writable w), append_assoc (short (props_size unsubscribe_row (unsubscribe_given h.user))) (props_bytes unsubscribe_row (unsubscribe_given h.user)) (flat string (strings h.topics)), first_byte_lem h)

pub put_rows : (u : Run) (before out₁ out₂ : List ℕ) (at len n first j second : ℕ) → len ≡ cap (given_size pair (pairs u))
    → (out₁ ≡ sets before at (fit_short len)) × (n ≡ length (fit_short len)) → first ≡ min (at + n) (length out₁)
    → Put out₁ first (fit_row (38, pair) (pairs u)) out₂ j → second ≡ min (first + j) (length out₂)
    → props_size unsubscribe_row (unsubscribe_given u) ≤ most → Each Writable (map word (strings u))
    → Behind before at (short (props_size unsubscribe_row (unsubscribe_given u)) ++ props_bytes unsubscribe_row (unsubscribe_given u)) out₂ second
put_rows u before out₁ out₂ at len n first j second l (q₁, c₁) m₁ p₂ m₂ s w =
    let i = cap_fits len (props_size unsubscribe_row (unsubscribe_given u)) (block_length u len l) s in
    let r : List ℕ = row_bytes (38, pair) (pairs u) in
    rw (← i, unsubscribe_props u, append-nil r, ← pairs_fit u w) (next_then (store_next (fit_short len) q₁ c₁ m₁) (put_next p₂ m₂))
