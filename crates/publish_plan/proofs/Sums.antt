-- The sums of a Publish, cut off, each from its parts. Assumes nothing.
use mathlib.Core.Path.{◌≡◌, sym, ap, ◌∙◌}
use mathlib.Core.Bool.{Bool, true, false}
use mathlib.Core.List.{List}
use Prim.Native.Nat.{ℕ, ◌+◌}
use native.Mathlib.Omega.{arith}
use lib.ListN.{length}
use Rattle.grammar.specs.Tables.{u8, u16, u32, number, text, bytes, pair, publish_row}
use Rattle.writing.specs.Handed.{PublishHanded, publish, several, publish_given}
use Rattle.writing.specs.Size.{with_length, given_size, props_size, no_ident, ident_size, rest_is, cap}
use Rattle.writing.proofs.ForCode.{publish_sum, cap_length}
use Rattle.write_runs.specs.Given.{given_one, given_lent, given_pairs}
use Rattle.write_sizes.proofs.Laws.{cap_left, cap_both}
use Rattle.publish_plan.specs.Handed.{handed}
use Rattle.publish_plan.specs.declared.head.PublishHead.{PublishHead}

-- ---- sums that are cut off

cap_sum : (m n : ℕ) {x y r : ℕ} → r ≡ cap (x + y) → x ≡ cap m → y ≡ cap n → r ≡ cap (m + n)
cap_sum m n {x} {y} e f g = e ∙ cap_both x y m n f g

-- the second summand is cut off
cap_right : (x n : ℕ) {y r : ℕ} → r ≡ cap (x + y) → y ≡ cap n → r ≡ cap (x + n)
cap_right x n {y} e f =
    let i : x + y ≡ y + x = omega arith in
    let j : n + x ≡ x + n = omega arith in
    e ∙ ap cap i ∙ cap_left y n x f ∙ ap cap j

no_more : (n : ℕ) → n ≡ n + 0
no_more n = omega arith

module _ (head : PublishHead) (t a b u l i c p : List ℕ) where
  pub sum_all : {r₁ r₂ r₃ r₄ r₅ r₆ r₇ x₁ x₂ x₃ x₄ x₅ x₆ x₇ x₈ : ℕ}
      → x₁ ≡ cap (given_size u8 (given_one head.payload_format_indicator))
      → x₂ ≡ cap (given_size u32 (given_one head.message_expiry_interval))
      → x₃ ≡ cap (given_size u16 (given_one head.topic_alias))
      → x₄ ≡ cap (given_size text (given_lent head.response_topic a))
      → x₅ ≡ cap (given_size bytes (given_lent head.correlation_data b))
      → x₆ ≡ cap (given_size pair (given_pairs u l))
      → x₇ ≡ cap (given_size number (several i))
      → x₈ ≡ cap (given_size text (given_lent head.content_type c))
      → r₇ ≡ cap (x₇ + x₈) → r₆ ≡ cap (x₆ + r₇) → r₅ ≡ cap (x₅ + r₆) → r₄ ≡ cap (x₄ + r₅) → r₃ ≡ cap (x₃ + r₄) → r₂ ≡ cap (x₂ + r₃) → r₁ ≡ cap (x₁ + r₂)
      → r₁ ≡ cap (props_size publish_row (publish_given (handed head t a b u l i c p)))
  sum_all {r₁} {r₂} {r₃} {r₄} {r₅} {r₆} {r₇} e₁ e₂ e₃ e₄ e₅ e₆ e₇ e₈ f₇ f₆ f₅ f₄ f₃ f₂ f₁ =
      let s₁ : ℕ = given_size u8 (given_one head.payload_format_indicator) in
      let s₂ : ℕ = given_size u32 (given_one head.message_expiry_interval) in
      let s₃ : ℕ = given_size u16 (given_one head.topic_alias) in
      let s₄ : ℕ = given_size text (given_lent head.response_topic a) in
      let s₅ : ℕ = given_size bytes (given_lent head.correlation_data b) in
      let s₆ : ℕ = given_size pair (given_pairs u l) in
      let s₇ : ℕ = given_size number (several i) in
      let s₈ : ℕ = given_size text (given_lent head.content_type c) in
      let g₇ : r₇ ≡ cap (s₇ + (s₈ + 0)) = cap_sum s₇ (s₈ + 0) f₇ e₇ (e₈ ∙ ap cap (no_more s₈)) in
      let g₆ : r₆ ≡ cap (s₆ + (s₇ + (s₈ + 0))) = cap_sum s₆ (s₇ + (s₈ + 0)) f₆ e₆ g₇ in
      let g₅ : r₅ ≡ cap (s₅ + (s₆ + (s₇ + (s₈ + 0)))) = cap_sum s₅ (s₆ + (s₇ + (s₈ + 0))) f₅ e₅ g₆ in
      let g₄ : r₄ ≡ cap (s₄ + (s₅ + (s₆ + (s₇ + (s₈ + 0))))) = cap_sum s₄ (s₅ + (s₆ + (s₇ + (s₈ + 0)))) f₄ e₄ g₅ in
      let g₃ : r₃ ≡ cap (s₃ + (s₄ + (s₅ + (s₆ + (s₇ + (s₈ + 0)))))) = cap_sum s₃ (s₄ + (s₅ + (s₆ + (s₇ + (s₈ + 0))))) f₃ e₃ g₄ in
      let g₂ : r₂ ≡ cap (s₂ + (s₃ + (s₄ + (s₅ + (s₆ + (s₇ + (s₈ + 0))))))) = cap_sum s₂ (s₃ + (s₄ + (s₅ + (s₆ + (s₇ + (s₈ + 0)))))) f₂ e₂ g₃ in
      let g₁ : r₁ ≡ cap (s₁ + (s₂ + (s₃ + (s₄ + (s₅ + (s₆ + (s₇ + (s₈ + 0)))))))) = cap_sum s₁ (s₂ + (s₃ + (s₄ + (s₅ + (s₆ + (s₇ + (s₈ + 0))))))) f₁ e₁ g₂ in
      g₁ ∙ ap cap (sym (publish_sum (handed head t a b u l i c p)))

pub rest_all : (h : PublishHanded) {q props w x pk y r : ℕ} → q ≡ h.qos → props ≡ cap (props_size publish_row (publish_given h)) → w ≡ cap (with_length props)
    → x ≡ cap (w + length h.payload) → pk ≡ cap (ident_size q h.ident) → y ≡ cap (pk + x) → r ≡ cap (2 + length h.topic + y) → r ≡ cap (rest_is (publish h))
unfolding rest_is
rest_all h {w = w} e f g k m n o =
    let s : ℕ = props_size publish_row (publish_given h) in
    let v : w ≡ cap (with_length s) = g ∙ ap (λ (j : ℕ). cap (with_length j)) f ∙ cap_length s in
    let z = k ∙ cap_left w (with_length s) (length h.payload) v in
    cap_right (2 + length h.topic) (ident_size h.qos h.ident + (with_length s + length h.payload)) o
    (cap_sum (ident_size h.qos h.ident) (with_length s + length h.payload) n (m ∙ ap (λ (j : ℕ). cap (ident_size j h.ident)) e) z)

-- ---- the identifier

module _ (q i : ℕ) where
  pub ident_none : {t : Bool} → t ≡ no_ident q i → t ≡ true → 0 ≡ cap (ident_size q i)
  ident_none e f = rw (sym e ∙ f)

  pub ident_some : {t : Bool} → t ≡ no_ident q i → t ≡ false → 2 ≡ cap (ident_size q i)
  ident_some e f = rw (sym e ∙ f)
