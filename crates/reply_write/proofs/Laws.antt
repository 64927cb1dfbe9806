-- What is found of a SubAck or an UnsubAck, and its bytes. Assumes nothing.
use mathlib.Core.Path.{◌≡◌, refl, sym, ap, ◌∙◌}
use mathlib.Core.Bool.{Bool, true, not}
use mathlib.Core.List.{List, [], ◌∷◌, ◌++◌, map, append_assoc}
use Prim.Native.Nat.{ℕ, ◌+◌, ◌≤◌, ◌<◌, min}
use native.Mathlib.Omega.{arith}
use native.Mathlib.Numerals.{add-one}
use lib.ListN.{length, drop, get_or, drop_of_length-le}
use lib.Seq.{sets, drop-cons}
use Rattle.grammar.specs.Choice.{is_empty}
use Rattle.grammar.specs.Octets.{Each}
use Rattle.grammar.specs.Tables.{ack_row, reasons_of, first_of}
use Rattle.reading.specs.Refusal.{nr}
use Rattle.reading.specs.Reader.{Fit, got, bad, ◌>>◌, guard}
use Rattle.writing.specs.Lists.{flat}
use Rattle.writing.specs.Handed.{ReplyHanded, reply, ack_given, block_belongs, belongs}
use Rattle.writing.specs.Size.{most, with_length, props_size, rest_is, cap}
use Rattle.writing.specs.Spell.{wide, short, props_bytes}
use Rattle.writing.specs.Order.{judge, code, field_tests, props_fields, fields_of}
use Rattle.writing.specs.Refuse.{Writable}
use Rattle.writing.specs.Write.{first_byte, frame_bytes}
use Rattle.writing.proofs.Judge.{judge_append}
use Rattle.writing.proofs.Each.{each_left, flat_append}
use Rattle.writing.proofs.ForCode.{reply_frame, cap_length}
use Rattle.writing.proofs.Says.{length_wide}
use Rattle.write_sizes.proofs.Laws.{cap_left}
use Rattle.write_lengths.specs.Fitting.{fit_short}
use Rattle.write_properties.specs.Put.{Put}
use Rattle.write_properties.specs.Behind.{Behind}
use Rattle.write_properties.proofs.Fits.{cap_fits}
use Rattle.write_properties.proofs.Laws.{store_next, put_next, next_last}
use Rattle.write_order.specs.Found.{before_size, after_limit, Stored}
use Rattle.write_order.proofs.Laws.{before_size_fields}

-- ---- the i-th reason of a list, and the rest

pub reasons_cut : (rs cs : List ℕ) (i : ℕ) → i < length cs → map (code rs) (drop i cs) ≡ code rs (get_or cs i 0) ∷ map (code rs) (drop (i + 1) cs)
reasons_cut rs cs i h = rw (drop-cons cs i 0 h, add-one i)

-- no reason is left
pub reasons_done : (rs cs : List ℕ) (i : ℕ) → length cs ≤ i → map (code rs) (drop i cs) ≡ []
reasons_done rs cs i h = rw (drop_of_length-le cs h)

-- ---- 13

pub none_asked : (cs : List ℕ) → length cs ≡ 0 → bad (nr 13 []) ≡ guard (not (is_empty cs)) (nr 13 [])
none_asked [] e = refl
none_asked (c ∷ cs) e = absurd (omega arith)

pub some_asked : (cs : List ℕ) → (length cs ≡ 0 → ⊥) → got tt ≡ guard (not (is_empty cs)) (nr 13 [])
some_asked [] e = absurd (e refl)
some_asked (c ∷ cs) e = refl

module _ (k : ℕ) (h : ReplyHanded) where
  -- ---- 20

  pub belong_all : {r : Bool} → r ≡ block_belongs ack_row h.block (ack_given h.text h.user) → r ≡ belongs (reply k h)
  unfolding belongs
  belong_all e = e

  -- ---- R

  pub reply_rest : (l w a r : ℕ) → l ≡ cap (props_size ack_row (ack_given h.text h.user)) → w ≡ cap (with_length l)
      → a ≡ cap (w + length h.reasons) → r ≡ cap (a + 2) → r ≡ cap (rest_is (reply k h))
  unfolding rest_is
  reply_rest l w a r e g j i =
      let n : ℕ = props_size ack_row (ack_given h.text h.user) in
      let t : ℕ = length h.reasons in
      let p : w ≡ cap (with_length n) = g ∙ rw e (cap_length n) in
      let q : with_length n + t + 2 ≡ 2 + (with_length n + t) = omega arith in
      i ∙ cap_left a (with_length n + t) 2 (j ∙ cap_left w (with_length n) t p) ∙ rw q

  -- ---- 20 and the fields

  tests_both : judge (flat field_tests (fields_of (reply k h)))
      ≡ (judge (flat field_tests (props_fields ack_row (ack_given h.text h.user))) >> judge (flat field_tests (map (code (reasons_of k)) h.reasons)))
  unfolding fields_of
  tests_both =
      let fs = props_fields ack_row (ack_given h.text h.user) in
      let gs = map (code (reasons_of k)) h.reasons in
      rw (flat_append field_tests fs gs) (judge_append (flat field_tests fs) (flat field_tests gs))

  pub before_size_all : {b : Bool} {x y r : Fit (Unit {0})} → b ≡ belongs (reply k h) → b ≡ true → x ≡ judge (flat field_tests (props_fields ack_row (ack_given h.text h.user)))
      → y ≡ judge (flat field_tests (map (code (reasons_of k)) h.reasons)) → r ≡ (x >> y) → r ≡ before_size (reply k h)
  before_size_all {b} e f i j l = l ∙ rw (i, j) (sym tests_both) ∙ before_size_fields (reply k h) b e f

  -- ---- 13, at its place

  pub after_limit_all : {x : Fit (Unit {0})} → x ≡ guard (not (is_empty h.reasons)) (nr 13 []) → x ≡ after_limit (reply k h)
  unfolding judge
  after_limit_all e = e

  -- ---- the bytes

  abbrev pub block : List ℕ
  block = short (props_size ack_row (ack_given h.text h.user)) ++ props_bytes ack_row (ack_given h.text h.user)

  -- a block in a frame that is not too long is not too long
  length_small : rest_is (reply k h) ≤ most → props_size ack_row (ack_given h.text h.user) ≤ most
  unfolding rest_is
  length_small s = omega arith

  -- its fields are those of the block and the reasons
  block_writable : Each Writable (fields_of (reply k h)) → Each Writable (props_fields ack_row (ack_given h.text h.user))
  unfolding fields_of
  block_writable w = each_left (props_fields ack_row (ack_given h.text h.user)) (map (code (reasons_of k)) h.reasons) w

  pub put_frame : (before out₁ out₂ out₃ out₄ : List ℕ) (byte len n first second third : ℕ) → byte ≡ first_of k → len ≡ cap (rest_is (reply k h))
      → Put before 0 (byte ∷ fit_short len) out₁ n → first ≡ min (0 + n) (length out₁)
      → out₂ ≡ sets out₁ first (wide 2 h.ident) → second ≡ min (first + 2) (length out₂)
      → (props_size ack_row (ack_given h.text h.user) ≤ most → Each Writable (props_fields ack_row (ack_given h.text h.user)) → Behind out₂ second block out₃ third)
      → out₄ ≡ sets out₃ third h.reasons
      → Stored (reply k h) before out₄
  unfolding first_byte
  put_frame before out₁ out₂ out₃ out₄ byte len n first second third o l p₁ m₁ q₂ m₂ p₃ q₄ e s w z =
      next_last (put_next p₁ m₁) (wide 2 h.ident ++ (block ++ h.reasons))
      (next_last (store_next (wide 2 h.ident) q₂ (sym (length_wide 2 h.ident)) m₂) (block ++ h.reasons)
      (next_last (p₃ (length_small s) (block_writable w)) h.reasons q₄))
      ∙ ap (sets before 0) (sym spelt)
    where
      spelt : frame_bytes (reply k h) ≡ (byte ∷ fit_short len) ++ (wide 2 h.ident ++ (block ++ h.reasons))
      spelt = reply_frame k h e ∙ rw (cap_fits len (rest_is (reply k h)) l s, o, append_assoc (short (props_size ack_row (ack_given h.text h.user))) (props_bytes ack_row (ack_given h.text h.user)) h.reasons)
