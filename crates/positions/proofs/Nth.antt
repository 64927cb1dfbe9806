-- The n-th entry of a run is the one whose turn is n: once over the reader of an entry. Assumes nothing.
use mathlib.Core.Path.{◌≡◌, refl, sym, ◌∙◌}
use mathlib.Core.List.{List, [], ◌∷◌, ◌++◌}
use Prim.Native.Nat.{ℕ, ◌+◌, ◌≤◌, ◌<◌}
use native.Mathlib.Omega.{arith}
use lib.ListN.{length, take, drop, length-append}
use lib.Seq.{length-take-le}
use borrow.Author.Tests.{le-leb, lt-leb}
use Rattle.reading.specs.Refusal.{Refusal}
use Rattle.reading.specs.Reader.{Fit, got, bad, Reader, only_fit, many_fit, ◌>>=◌}
use Rattle.reading.specs.Read.{some_fit}
use Rattle.reading.specs.Place.{Span, no_item, again, nth_of}
use Rattle.positions.specs.Position.{from_at}
use Rattle.positions.specs.Nth.{chosen, nth_run}
use Rattle.positions.proofs.At.{part_slice}
use Rattle.positions.proofs.Walk.{Less}
use Rattle.positions.proofs.Trails.{Trails}
use Rattle.positions.proofs.Run.{Passed, none_passed, passed_end, passed_bad, passed_next, nth_behind, item_ahead}

-- the entries passed from `at` to i, `turn` of them, and what is held is the n-th of these if there are as many
pub record Counting {A : Type 0} (q : Reader A) (s : List ℕ) (at n : ℕ) (held : Fit A) (turn i : ℕ) : Type 0 where
  pub items : List A
  pub passed : Passed q s at i items
  pub count : turn ≡ length items
  pub nth : held ≡ nth_of n items
  pub room : turn + at ≤ i

module _ {A : Type 0} (q : Reader A) (n : ℕ) (l : List ℕ) where
  nth_bad : {k : Refusal} → many_fit q l ≡ bad k → bad no_item ≡ nth_run q n l
  unfolding only_fit
  nth_bad e = rw e

  nth_got : (vs : List A) → many_fit q l ≡ got vs → nth_of n vs ≡ nth_run q n l
  unfolding only_fit
  nth_got [] e = rw e
  nth_got (v ∷ vs) e = rw e

module _ {A : Type 0} {q : Reader A} where
  module _ (s : List ℕ) (L : Less (length s) q) where
    pub counting_start : (at n : ℕ) → Counting q s at n (bad no_item) 0 at
    counting_start at n = record { items = []; passed = none_passed s L at; count = refl; nth = refl; room = omega arith }

    module _ {at n : ℕ} {held : Fit A} {turn i : ℕ} (C : Counting q s at n held turn i) where
      pub counting_bad : i < length s → {k : Refusal} → bad k ≡ from_at q s i → bad no_item ≡ nth_run q n (drop at s)
      counting_bad h {k = k} e = nth_bad q n (drop at s) (passed_bad s L C.passed h k (sym e))

      pub counting_next : Trails q → i < length s → (v : A) {m : ℕ} → got (v, m) ≡ from_at q s i → {held' : Fit A} → held' ≡ chosen held v turn n → Counting q s at n held' (turn + 1) m
      counting_next T h v {m = m} e j =
          let a : (i < m) × (m ≤ length s) = item_ahead s L T h (sym e) in
          record {
            items = C.items ++ (v ∷ []);
            passed = passed_next s L C.passed T h (sym e);
            count = rw length-append (omega (arith, C.count));
            nth = j ∙ rw (C.count, C.nth) (sym (nth_behind n C.items v));
            room = omega (arith, C.room, a.0);
          }

      pub counting_end : length s ≤ i → held ≡ nth_run q n (drop at s)
      counting_end o = C.nth ∙ nth_got q n (drop at s) C.items (passed_end s L C.passed o)

-- ---- at a place of any bytes

module _ {A : Type 0} (q : ℕ → Reader A) (s : List ℕ) (p : Span) (n : ℕ) where
  pub run_outside : length s < p.start + p.len → bad no_item ≡ (again (λ e. some_fit (q e)) s p >>= nth_of n)
  unfolding again
  run_outside h = rw (lt-leb (p.start + p.len) (length s) h)

  pub run_within : p.start + p.len ≤ length s
      → nth_run (q (length (take (p.start + p.len) s))) n (drop p.start (take (p.start + p.len) s)) ≡ (again (λ e. some_fit (q e)) s p >>= nth_of n)
  unfolding again
  run_within h = rw (length-take-le (p.start + p.len) s h, sym (part_slice s p.len p.start h), le-leb (p.start + p.len) (length s) h)
