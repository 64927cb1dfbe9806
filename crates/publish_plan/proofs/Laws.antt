-- What is found of a Publish: what belongs together, and the tests in order, each from its parts. Assumes nothing.
use mathlib.Core.Path.{◌≡◌, refl, sym, ◌∙◌}
use mathlib.Core.Bool.{Bool, true, false, ◌&&◌, ◌||◌, and-true}
use mathlib.Core.List.{List, [], map}
use Prim.Native.Nat.{ℕ}
use lib.Dec.{eqb}
use Rattle.grammar.specs.Tables.{text, bytes}
use Rattle.grammar.specs.Sentence.{not_zero}
use Rattle.reading.specs.Refusal.{nr}
use Rattle.reading.specs.Reader.{Fit, got, bad, ◌>>◌}
use Rattle.writing.specs.Lists.{flat}
use Rattle.writing.specs.Handed.{PublishHanded, publish, lent, several, strings, row_belongs, belongs}
use Rattle.writing.specs.Order.{judge, raw, word, field_tests, given_fields, fields_of, number_tests}
use Rattle.writing.proofs.Tests.{eq_when, eq_not}
use Rattle.writing.proofs.ForCode.{publish_belongs, judge_if_lem, publish_tests}
use Rattle.write_runs.specs.Given.{given_one, given_lent, given_pairs}
use Rattle.write_order.specs.Found.{after_limit}
use Rattle.publish_plan.specs.Handed.{handed}
use Rattle.publish_plan.specs.declared.head.PublishHead.{PublishHead}

-- ---- 20

and_both : {r x y a b : Bool} → r ≡ (x && y) → x ≡ a → y ≡ b → r ≡ (a && b)
and_both e f g = e ∙ rw (f, g)

module _ (head : PublishHead) (t a b u l i c p : List ℕ) where
  pub belong_all : {r₁ r₂ r₃ r₄ r₅ r₆ r₇ x₁ x₂ x₃ x₄ x₅ x₆ x₇ x₈ : Bool}
      → x₁ ≡ row_belongs head.block (given_one head.payload_format_indicator)
      → x₂ ≡ row_belongs head.block (given_one head.message_expiry_interval)
      → x₃ ≡ row_belongs head.block (given_one head.topic_alias)
      → x₄ ≡ row_belongs head.block (given_lent head.response_topic a)
      → x₅ ≡ row_belongs head.block (given_lent head.correlation_data b)
      → x₆ ≡ row_belongs head.block (given_pairs u l)
      → x₇ ≡ row_belongs head.block (several i)
      → x₈ ≡ row_belongs head.block (given_lent head.content_type c)
      → r₇ ≡ (x₇ && x₈) → r₆ ≡ (x₆ && r₇) → r₅ ≡ (x₅ && r₆) → r₄ ≡ (x₄ && r₅) → r₃ ≡ (x₃ && r₄) → r₂ ≡ (x₂ && r₃) → r₁ ≡ (x₁ && r₂)
      → r₁ ≡ belongs (publish (handed head t a b u l i c p))
  belong_all e₁ e₂ e₃ e₄ e₅ e₆ e₇ e₈ f₇ f₆ f₅ f₄ f₃ f₂ f₁ =
      and_both f₁ e₁ (and_both f₂ e₂ (and_both f₃ e₃ (and_both f₄ e₄ (and_both f₅ e₅ (and_both f₆ e₆ (and_both f₇ e₇ (e₈ ∙ sym (and-true (row_belongs head.block (given_lent head.content_type c))))))))))
      ∙ sym (publish_belongs (handed head t a b u l i c p))

-- ---- 18 and 9

pub fields_all : (h : PublishHanded) {r₁ r₂ r₃ r₄ x₁ x₂ x₃ x₄ x₅ : Fit (Unit {0})}
    → x₁ ≡ judge (field_tests (raw h.topic))
    → x₂ ≡ judge (flat field_tests (given_fields text (lent h.response)))
    → x₃ ≡ judge (flat field_tests (given_fields bytes (lent h.correlation)))
    → x₄ ≡ judge (flat field_tests (map word (strings h.user)))
    → x₅ ≡ judge (flat field_tests (given_fields text (lent h.content)))
    → r₄ ≡ (x₄ >> x₅) → r₃ ≡ (x₃ >> r₄) → r₂ ≡ (x₂ >> r₃) → r₁ ≡ (x₁ >> r₂)
    → r₁ ≡ judge (flat field_tests (fields_of (publish h)))
fields_all h e₁ e₂ e₃ e₄ e₅ f₄ f₃ f₂ f₁ =
    f₁
    ∙ rw (
      f₂,
      f₃,
      f₄,
      e₁,
      e₂,
      e₃,
      e₄,
      e₅,
      judge_if_lem h.response.on (word h.response.bytes),
      judge_if_lem h.correlation.on (raw h.correlation.bytes),
      judge_if_lem h.content.on (word h.content.bytes),
    )
    (sym (publish_tests h))

-- ---- at QoS 0, or else

module _ (q : ℕ) where
  pub zero_qos : (b : Bool) → q ≡ 0 → true ≡ (eqb q 0 || b)
  zero_qos b e = rw ((eq_when q 0).1 e)

  pub some_qos : (b : Bool) → (q ≡ 0 → ⊥) → b ≡ (eqb q 0 || b)
  some_qos b n = rw ((eq_not q 0).1 n)

-- ---- 12, and 17 for identifiers

then_none : (m : Fit (Unit {0})) → (m >> got tt) ≡ m
then_none (got u) = refl
then_none (bad k) = refl

module _ (h : PublishHanded) {q : ℕ} {t : Bool} (e : q ≡ h.qos) (f : t ≡ (eqb q 0 || not_zero h.ident)) where
  pub after_limit_unnamed : t ≡ false → bad (nr 12 []) ≡ after_limit (publish h)
  after_limit_unnamed g = rw (← e, ← f, g)

  pub after_limit_named : t ≡ true → {x : Fit (Unit {0})} → x ≡ judge (flat number_tests h.subscriptions) → x ≡ after_limit (publish h)
  after_limit_named g i = i ∙ rw (← e, ← f, g) (sym (then_none (judge (flat number_tests h.subscriptions))))
