-- The kinds and the refusals are put one behind the other. Assumes nothing.
use Rattle.std.proofs.Common.{ℕ, ◌+◌, ◌≤◌, Bool, true, false, cond, eqb, List, [], ◌∷◌, length, get_or, sym, subst, add-one, arith}
use mathlib.Core.Option.{Option, none, some}
use Prim.Native.String.{String}
use Rattle.grammar.specs.Choice.{lookup}
use Rattle.records.specs.Ascii.{codes_of}
use Rattle.kinds.specs.Kinds.{words, word_of}
use Rattle.desk_lines.specs.Line.{PutAt}
use Rattle.desk_lines.proofs.Laws.{put_none, then}
use Rattle.desk_summary.specs.Tally.{kind_text, kinds_to, refusal_text, refusals_to}

pub to_none : (t l : List ℕ) (at : ℕ) → PutAt l at (refusals_to t 0) l at
unfolding refusals_to
to_none t l at = put_none l at

pub to_next : (t : List ℕ) (k : ℕ) {l l₁ l₂ : List ℕ} {at m n : ℕ} → PutAt l at (refusals_to t k) l₁ m → PutAt l₁ m (refusal_text (k + 1) (get_or t (k + 1) 0)) l₂ n → PutAt l at (refusals_to t (k + 1)) l₂ n
unfolding refusals_to
to_next t k {l} {l₁} {l₂} {at} {m} {n} p q = subst (λ (j : ℕ). PutAt l at (refusals_to t j) l₂ n) (sym (add-one k)) (then p q)

pub kinds_none : (t l : List ℕ) (at : ℕ) → PutAt l at (kinds_to t 0) l at
unfolding kinds_to
kinds_none t l at = put_none l at

pub kinds_next : (t : List ℕ) (k : ℕ) {l l₁ l₂ : List ℕ} {at m n : ℕ} → PutAt l at (kinds_to t k) l₁ m → PutAt l₁ m (kind_text t (k + 3)) l₂ n → PutAt l at (kinds_to t (k + 1)) l₂ n
unfolding kinds_to
kinds_next t k {l} {l₁} {l₂} {at} {m} {n} p q = subst (λ (j : ℕ). PutAt l at (kinds_to t j) l₂ n) (sym (add-one k)) (then p q)

-- ---- words

abbrev letters : Option String → List ℕ
letters none = []
letters (some w) = codes_of w

abbrev Short : List (ℕ × String) → Type 0
Short [] = Unit {0}
Short (p ∷ ps) = (length (codes_of p.1) ≤ 11) × Short ps

either : (b : Bool) (w : String) (o : Option String) → length (codes_of w) ≤ 11 → length (letters o) ≤ 11 → length (letters (cond b (some w) o)) ≤ 11
either true w o p q = p
either false w o p q = q

short_in : (ws : List (ℕ × String)) (k : ℕ) → Short ws → length (letters (lookup ws k)) ≤ 11
short_in [] k h = omega arith
short_in (p ∷ ps) k h = either (eqb p.0 k) p.1 (lookup ps k) h.0 (short_in ps k h.1)

-- no word is longer than "unsubscribe"
pub word_short : (k : ℕ) → length (word_of k) ≤ 11
unfolding words word_of
word_short k = short_in words k (omega arith, (omega arith, (omega arith, (omega arith, (omega arith, (omega arith, (omega arith, (omega arith, (omega arith, (omega arith, (omega arith, tt)))))))))))
