-- What is found of an acknowledgement, and its bytes. Assumes nothing.
use mathlib.Core.Path.{◌≡◌, refl, sym, ap, ◌∙◌}
use mathlib.Core.Bool.{Bool, true, false, not, ◌&&◌, and-true, cond}
use mathlib.Core.List.{List, [], ◌∷◌, ◌++◌, append-nil}
use Prim.Native.Nat.{ℕ, ◌+◌, ◌≤◌, min}
use native.Mathlib.Omega.{arith}
use lib.Dec.{eqb}
use lib.ListN.{length}
use lib.Seq.{sets}
use Rattle.grammar.specs.Octets.{Each, ◌&◌}
use Rattle.grammar.specs.Tables.{ack_row, reasons_of, first_of}
use Rattle.reading.specs.Reader.{Fit, got, ◌>>◌}
use Rattle.writing.specs.Lists.{flat}
use Rattle.writing.specs.Handed.{AckHanded, ack, ack_given, block_belongs, belongs}
use Rattle.writing.specs.Size.{most, with_length, props_size, is_plain, rest_is, cap}
use Rattle.writing.specs.Spell.{wide, short, props_bytes}
use Rattle.writing.specs.Order.{judge, code, field_tests, props_fields, fields_of}
use Rattle.writing.specs.Refuse.{Writable}
use Rattle.writing.specs.Write.{first_byte, frame_bytes}
use Rattle.writing.proofs.ForCode.{ack_frame, cap_length}
use Rattle.writing.proofs.Judge.{fields_more}
use Rattle.writing.proofs.Says.{length_wide}
use Rattle.write_sizes.proofs.Laws.{cap_left}
use Rattle.write_lengths.specs.Fitting.{fit_short}
use Rattle.write_properties.specs.Put.{Put}
use Rattle.write_properties.specs.Behind.{Behind}
use Rattle.write_properties.proofs.Fits.{cap_fits}
use Rattle.write_properties.proofs.Laws.{store_next, put_next, next_last}
use Rattle.write_order.specs.Found.{before_size, after_limit}
use Rattle.write_order.proofs.Laws.{before_size_fields}

module _ (k : ℕ) (h : AckHanded) where
  pub belong_all : {r : Bool} → r ≡ block_belongs ack_row h.block (ack_given h.text h.user) → r ≡ belongs (ack k h)
  unfolding belongs
  belong_all e = e

  -- ---- R

  pub rest_plain : is_plain h ≡ true → 2 ≡ cap (rest_is (ack k h))
  unfolding rest_is
  rest_plain e = rw e

  pub rest_full : is_plain h ≡ false → (l w r : ℕ) → l ≡ cap (props_size ack_row (ack_given h.text h.user)) → w ≡ cap (with_length l) → r ≡ cap (w + 3) → r ≡ cap (rest_is (ack k h))
  unfolding rest_is
  rest_full e l w r f g i =
      let n : ℕ = props_size ack_row (ack_given h.text h.user) in
      let j : w ≡ cap (with_length n) = g ∙ rw f (cap_length n) in
      let o : with_length n + 3 ≡ 3 + with_length n = omega arith in
      i ∙ cap_left w (with_length n) 3 j ∙ rw (e, o)

  -- ---- 20 and the fields

  tests_both : judge (flat field_tests (fields_of (ack k h))) ≡ (judge (field_tests (code (reasons_of k) h.reason)) >> judge (flat field_tests (props_fields ack_row (ack_given h.text h.user))))
  unfolding fields_of
  tests_both = fields_more (code (reasons_of k) h.reason) (props_fields ack_row (ack_given h.text h.user))

  pub before_size_all : {b : Bool} {x y r : Fit (Unit {0})} → b ≡ belongs (ack k h) → b ≡ true → x ≡ judge (field_tests (code (reasons_of k) h.reason))
      → y ≡ judge (flat field_tests (props_fields ack_row (ack_given h.text h.user))) → r ≡ (x >> y) → r ≡ before_size (ack k h)
  before_size_all {b} e f i j l = l ∙ rw (i, j) (sym tests_both) ∙ before_size_fields (ack k h) b e f

  pub ack_after_limit : got tt ≡ after_limit (ack k h)
  unfolding judge
  ack_after_limit = refl

  -- ---- the bytes

  -- all but the first byte, R and the identifier
  abbrev pub behind : List ℕ
  behind = h.reason ∷ (short (props_size ack_row (ack_given h.text h.user)) ++ props_bytes ack_row (ack_given h.text h.user))

  -- a block in a frame that is not too long is not too long
  pub length_small : is_plain h ≡ false → rest_is (ack k h) ≤ most → props_size ack_row (ack_given h.text h.user) ≤ most
  unfolding rest_is
  length_small e s = let t : 3 + with_length (props_size ack_row (ack_given h.text h.user)) ≤ most = rw e at s in omega arith

  -- its fields are the reason and those of the block
  pub block_writable : Each Writable (fields_of (ack k h)) → Each Writable (props_fields ack_row (ack_given h.text h.user))
  unfolding fields_of
  block_writable (c & w) = w

  module _ (before out₁ out₂ : List ℕ) (len n first : ℕ) (l : len ≡ cap (rest_is (ack k h)))
      (p : Put before 0 (first_of k ∷ fit_short len) out₁ n) (m : first ≡ min (0 + n) (length out₁)) (q : out₂ ≡ sets out₁ first (wide 2 h.ident))
      (e : belongs (ack k h) ≡ true) (s : rest_is (ack k h) ≤ most) where
    frame : frame_bytes (ack k h) ≡ (first_of k ∷ fit_short len) ++ (wide 2 h.ident ++ cond (is_plain h) [] behind)
    unfolding first_byte
    frame = ack_frame k h e ∙ rw (cap_fits len (rest_is (ack k h)) l s)

    pub put_plain : is_plain h ≡ true → out₂ ≡ sets before 0 (frame_bytes (ack k h))
    put_plain t =
        let f : frame_bytes (ack k h) ≡ (first_of k ∷ fit_short len) ++ wide 2 h.ident = frame ∙ rw (t, append-nil (wide 2 h.ident)) in
        next_last (put_next p m) (wide 2 h.ident) q ∙ ap (sets before 0) (sym f)

    pub put_full : is_plain h ≡ false → (out₃ : List ℕ) (second : ℕ) → second ≡ min (first + 2) (length out₂) → out₃ ≡ sets out₂ second behind → out₃ ≡ sets before 0 (frame_bytes (ack k h))
    put_full t out₃ second o r =
        let f : frame_bytes (ack k h) ≡ (first_of k ∷ fit_short len) ++ (wide 2 h.ident ++ behind) = frame ∙ rw t in
        next_last (put_next p m) (wide 2 h.ident ++ behind) (next_last (store_next (wide 2 h.ident) q (sym (length_wide 2 h.ident)) o) behind r) ∙ ap (sets before 0) (sym f)

  pub put_behind : (before out₁ out₂ : List ℕ) (at next last : ℕ) → out₁ ≡ sets before at (h.reason ∷ []) → next ≡ min (at + 1) (length out₁)
      → (props_size ack_row (ack_given h.text h.user) ≤ most → Each Writable (props_fields ack_row (ack_given h.text h.user))
      → Behind out₁ next (short (props_size ack_row (ack_given h.text h.user)) ++ props_bytes ack_row (ack_given h.text h.user)) out₂ last)
      → props_size ack_row (ack_given h.text h.user) ≤ most → Each Writable (props_fields ack_row (ack_given h.text h.user)) → out₂ ≡ sets before at behind
  put_behind before out₁ out₂ at next last q₁ m₁ p₂ s w =
      next_last (store_next (h.reason ∷ []) {l = before} {n = 1} q₁ refl m₁) (short (props_size ack_row (ack_given h.text h.user)) ++ props_bytes ack_row (ack_given h.text h.user)) (p₂ s w).stores

-- ---- whether it is a plain success

pub plain_block_lem : (n : ℕ) (b : Bool) → b ≡ true → false ≡ (eqb n 0 && not b)
plain_block_lem n b e = go (eqb n 0)
  where
    go : (t : Bool) → false ≡ (t && not b)
    go true = rw e
    go false = refl

pub plain_reason : (m n : ℕ) (b : Bool) → m ≡ n → b ≡ false → eqb m 0 ≡ (eqb n 0 && not b)
plain_reason m n b i e = rw (i, e) (sym (and-true (eqb n 0)))
