-- One entry or more to the end of a slice is what a loop over them passes: one law over the reader of an entry. Assumes nothing.
use mathlib.Core.Path.{◌≡◌, refl, sym}
use mathlib.Core.Bool.{true}
use mathlib.Core.List.{List, [], ◌∷◌, ◌++◌}
use Prim.Native.Nat.{ℕ, ◌-◌, ◌≤◌, ◌<◌}
use native.Mathlib.Omega.{arith}
use lib.ListN.{length, drop, length-drop, drop_of_length-le}
use Rattle.grammar.specs.Sentence.{some_of}
use Rattle.reading.specs.Refusal.{Refusal, nr}
use Rattle.reading.specs.Reader.{got, bad, Reader, only_fit, run_fit, chain_fit, many_fit}
use Rattle.positions.specs.Position.{from_at, placed_run}
use Rattle.positions.proofs.Walk.{Less}
use Rattle.positions.proofs.Trails.{Trails}
use Rattle.positions.proofs.Run.{Passed, none_passed, passed_end, passed_bad, passed_next}

-- the entries passed from `at` to i
pub record Going {A : Type 0} (p : Reader A) (s : List ℕ) (at i : ℕ) : Type 0 where
  pub entries : List A
  pub passed : Passed p s at i entries
  pub some : at < i → some_of entries ≡ true

-- behind any items there is one
some_behind : {A : Type 0} (vs : List A) (v : A) → some_of (vs ++ (v ∷ [])) ≡ true
some_behind [] v = refl
some_behind (a ∷ vs) v = refl

module _ {A : Type 0} (p : Reader A) (s : List ℕ) (at : ℕ) where
  pub run_empty : length s ≤ at → bad (nr 13 []) ≡ placed_run p (length s) (drop at s)
  unfolding only_fit chain_fit run_fit
  run_empty h = rw (drop_of_length-le s h)

  run_bad : {k : Refusal} → many_fit p (drop at s) ≡ bad k → bad k ≡ placed_run p (length s) (drop at s)
  unfolding only_fit
  run_bad e = rw e

  run_got : {vs : List A} → many_fit p (drop at s) ≡ got vs → some_of vs ≡ true → at ≤ length s → got (record { start = at; len = length s - at }) ≡ placed_run p (length s) (drop at s)
  unfolding only_fit
  run_got e f h =
      let n : length s - (length s - at) ≡ at = omega arith in
      rw (e, f, length-drop at s, n)

module _ {A : Type 0} {p : Reader A} (s : List ℕ) (L : Less (length s) p) where
  pub going_start : (at : ℕ) → Going p s at at
  going_start at = record { entries = []; passed = none_passed s L at; some = λ h. absurd (omega arith) }

  module _ {at i : ℕ} (G : Going p s at i) where
    pub going_bad : i < length s → {k : Refusal} → bad k ≡ from_at p s i → bad k ≡ placed_run p (length s) (drop at s)
    going_bad h {k = k} e = run_bad p s at (passed_bad s L G.passed h k (sym e))

    pub going_next : Trails p → i < length s → {v : A} {m : ℕ} → got (v, m) ≡ from_at p s i → Going p s at m
    going_next T h {v = v} e = record {
      entries = G.entries ++ (v ∷ []);
      passed = passed_next s L G.passed T h (sym e);
      some = λ _. some_behind G.entries v;
    }

    pub going_end : at < length s → length s ≤ i → got (record { start = at; len = length s - at }) ≡ placed_run p (length s) (drop at s)
    going_end h o = run_got p s at (passed_end s L G.passed o) (G.some (omega arith)) (omega arith)
