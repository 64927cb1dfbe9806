-- Each writer of C refuses with 20, then with 11 for the QoS of the first byte, then as the packet's own order says, and exactly then; so does
-- each size. Assumes nothing.
use mathlib.Core.Path.{◌≡◌, refl, sym, ◌∙◌, subst}
use mathlib.Core.Bool.{Bool, true, false, not, ◌&&◌, false≢true}
use mathlib.Core.Option.{Option}
use mathlib.Core.Logic.{◌↔◌, ◌⊎◌, inl, inr}
use mathlib.Core.List.{List, [], ◌∷◌}
use Prim.Native.Nat.{ℕ, ◌≤◌, ◌<◌}
use native.Mathlib.Omega.{arith}
use lib.ListN.{length}
use borrow.Author.Tests.{eqb-true, lt-ltb, le-ltb}
use Rattle.grammar.specs.Choice.{all}
use Rattle.reading.specs.Refusal.{Refusal, nr}
use Rattle.reading.specs.Reader.{Fit, got, bad, ◌>>=◌}
use Rattle.reading.proofs.Reading.{bad_got}
use Rattle.writing.specs.Handed.{Handed, belongs}
use Rattle.writing.specs.Write.{size_of, answer_of, sized_behind, answered_behind}
use Rattle.writing.proofs.Tests.{and_when, or_when, eq_when, all_when, fails_when, decide_by, le_or}
use Rattle.writing.proofs.Belong.{belongs_when}
use Rattle.writing.proofs.Verdict.{unanswered_when, unsized_when}
use Rattle.c_arguments.specs.Given.{is_on}
use Rattle.c_heads.specs.By.{By, zero_if_off, behind, handed_by}
use Rattle.c_heads.specs.Refuse.{ZeroIfOff, BelongsBy, InOrder, mismatch, quality, own, RefusesBy, UnsizedBy}

-- ---- a flag and the number behind it

not-false : (t : Bool) → not t ≡ false → t ≡ true
not-false true e = refl
not-false false e = absurd (false≢true (sym e))

off_when : (n : ℕ) → (is_on n ≡ false) ↔ (n ≡ 0)
off_when n = (λ e. eqb-true n 0 (not-false _ e), λ e. rw e)

zero_when : (f : ℕ × ℕ) → (zero_if_off f ≡ true) ↔ ZeroIfOff f
zero_when f =
    let w = or_when (is_on f.0) _ (eq_when f.1 0) in
    (λ e z. w.0 e ((off_when f.0).1 z), λ g. w.1 (λ o. g ((off_when f.0).0 o)))

-- ---- what comes before the packet's own order

module _ (b : By) where
  together_when : ((all zero_if_off b.numbers && belongs b.handed) ≡ true) ↔ BelongsBy b
  together_when = and_when _ _ (all_when zero_if_off zero_when b.numbers) (belongs_when b.handed)

  is_mismatch : (BelongsBy b → ⊥) → handed_by b ≡ bad (nr 20 [])
  unfolding behind
  is_mismatch w = rw (fails_when _ together_when w)

  is_quality : BelongsBy b → 2 < b.quality → handed_by b ≡ bad (nr 11 (b.quality ∷ []))
  unfolding behind
  is_quality w l = rw (together_when.1 w, le-ltb b.quality 3 (omega arith))

  is_own : BelongsBy b → b.quality ≤ 2 → handed_by b ≡ got b.handed
  unfolding behind
  is_own w l = rw (together_when.1 w, lt-ltb b.quality 3 (omega arith))

  decided : (BelongsBy b → ⊥) ⊎ (BelongsBy b × ((b.quality ≤ 2) ⊎ (2 < b.quality)))
  decided = go (decide_by _ together_when.0 (λ e w. false≢true (sym e ∙ together_when.1 w)))
    where
      go : BelongsBy b ⊎ (BelongsBy b → ⊥) → (BelongsBy b → ⊥) ⊎ (BelongsBy b × ((b.quality ≤ 2) ⊎ (2 < b.quality)))
      go (inl w) = inr (w, le_or b.quality 2)
      go (inr n) = inl n

-- ---- what follows it: an answer of the packet, refused as Own says

module _ (b : By) (g : Handed → Fit ℕ) {Own : Refusal → Type 0} (own-when : (k : Refusal) → (g b.handed ≡ bad k) ↔ Own k) where
  gives : (k : Refusal) → InOrder b Own k → (handed_by b >>= g) ≡ bad k
  gives _ (mismatch w) = rw (is_mismatch b w)
  gives _ (quality w l) = rw (is_quality b w l)
  gives k (own w l o) = rw (is_own b w l) ((own-when k).1 o)

  pub in_order : (k : Refusal) → ((handed_by b >>= g) ≡ bad k) ↔ InOrder b Own k
  in_order k = (go (decided b), gives k)
    where
      same : {j : Refusal} → InOrder b Own j → (handed_by b >>= g) ≡ bad k → InOrder b Own k
      same {j} p e =
          let q : ◌≡◌ {A = Fit ℕ} (bad j) (bad k) = sym (gives j p) ∙ e in
          let i : j ≡ k = cc in
          subst (InOrder b Own) i p

      go : (BelongsBy b → ⊥) ⊎ (BelongsBy b × ((b.quality ≤ 2) ⊎ (2 < b.quality))) → (handed_by b >>= g) ≡ bad k → InOrder b Own k
      go (inl w) e = same (mismatch w) e
      go (inr (w, inr l)) e = same (quality w l) e
      go (inr (w, inl l)) e = own w l ((own-when k).0 (rw (is_own b w l) at e))

  pub passed : (n : ℕ) → ((handed_by b >>= g) ≡ got n) ↔ (BelongsBy b × (b.quality ≤ 2) × (g b.handed ≡ got n))
  passed n = (go (decided b), λ p. rw (is_own b p.0 p.1) p.2)
    where
      go : (BelongsBy b → ⊥) ⊎ (BelongsBy b × ((b.quality ≤ 2) ⊎ (2 < b.quality))) → (handed_by b >>= g) ≡ got n → BelongsBy b × (b.quality ≤ 2) × (g b.handed ≡ got n)
      go (inl w) e = absurd (bad_got (sym (gives _ (mismatch w)) ∙ e))
      go (inr (w, inr l)) e = absurd (bad_got (sym (gives _ (quality w l)) ∙ e))
      go (inr (w, inl l)) e = (w, l, rw (is_own b w l) at e)

-- ---- the writers and the sizes of C

module _ (limit : Option ℕ) (before : List ℕ) (b : By) where
  -- a write is refused exactly as 20, then the QoS, then the packet's own order say
  pub write_refused_when : (k : Refusal) → (answered_behind (handed_by b) limit before ≡ bad k) ↔ RefusesBy limit (length before) b k
  unfolding answered_behind
  write_refused_when = in_order b (answer_of limit (length before)) (unanswered_when limit (length before) b.handed)

  -- and accepted exactly when none of them applies; the answer is the size
  pub write_accepted_when : (n : ℕ) → (answered_behind (handed_by b) limit before ≡ got n) ↔ (BelongsBy b × (b.quality ≤ 2) × (answer_of limit (length before) b.handed ≡ got n))
  unfolding answered_behind
  write_accepted_when = passed b (answer_of limit (length before)) (unanswered_when limit (length before) b.handed)

module _ (b : By) where
  -- a size is refused exactly as 20, then the QoS, then 17 for R say
  pub size_refused_when : (k : Refusal) → (sized_behind (handed_by b) ≡ bad k) ↔ UnsizedBy b k
  unfolding sized_behind
  size_refused_when = in_order b size_of (unsized_when b.handed)

  pub size_told_when : (n : ℕ) → (sized_behind (handed_by b) ≡ got n) ↔ (BelongsBy b × (b.quality ≤ 2) × (size_of b.handed ≡ got n))
  unfolding sized_behind
  size_told_when = passed b size_of (unsized_when b.handed)
