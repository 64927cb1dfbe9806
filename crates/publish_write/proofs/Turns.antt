-- A `for` over lengths two by two: where its pair stands. Assumes nothing.
use mathlib.Core.Path.{◌≡◌, sym, ap, ◌∙◌}
use mathlib.Core.List.{List, [], ◌∷◌, ◌++◌}
use Prim.Native.Nat.{ℕ, suc, ◌+◌, ◌≤◌, ◌<◌}
use native.Mathlib.Omega.{arith}
use native.Mathlib.Numerals.{add-one}
use lib.ListN.{length, drop, get_or, length-drop}
use lib.Seq.{drop-cons}
use denote.Ref.{Bor}
use Rattle.std.specs.Prelude.{Option, Some, None}
use Rattle.std.specs.declared.slice.ChunksExact.{ChunksExact}
use Rattle.std.specs.Slice.Iter.{chunks_exact_rest, chunks_exact_size, chunks_exact_steps}

-- the pairs from the i-th length on are left
pub record AtPair (ns : List ℕ) (s : ChunksExact ℕ) (i : ℕ) : Type 0 where
  pub rest : chunks_exact_rest s ≡ drop i ns
  pub size : chunks_exact_size s ≡ 2
  pub within : i ≤ length ns

module _ (ns : List ℕ) (i : ℕ) where
  two_of : (xs rest : List ℕ) → length xs ≡ 2 → drop i ns ≡ xs ++ rest → (i + 1 < length ns) × (get_or xs 0 0 ≡ get_or ns i 0) × (get_or xs 1 0 ≡ get_or ns (i + 1) 0) × (rest ≡ drop (i + 2) ns)
  two_of [] rest f e = absurd (omega arith)
  two_of (a ∷ []) rest f e = absurd (omega arith)
  two_of (a ∷ b ∷ []) rest f e =
      let h : i + 1 < length ns = omega (arith, ap length e, length-drop i ns) in
      let m : i + 2 ≡ suc (suc i) = omega arith in
      let q : ◌≡◌ {A = List ℕ} (a ∷ b ∷ rest) (get_or ns i 0 ∷ get_or ns (i + 1) 0 ∷ drop (i + 2) ns) = sym e ∙ rw (drop-cons ns i 0 (omega arith), drop-cons ns (suc i) 0 (omega arith), add-one i, m) in
      (h, cc, cc, cc)
  two_of (a ∷ b ∷ c ∷ xs) rest f e = absurd (omega arith)

module _ {ns : List ℕ} {s : ChunksExact ℕ} {i : ℕ} (p : AtPair ns s i) (t : ChunksExact ℕ) where
  pub pair_turn : (w : Bor (List ℕ)) {r : Option (Bor (List ℕ))} → r ≡ Some w → chunks_exact_steps s r t → (i + 1 < length ns) × (get_or w.now 0 0 ≡ get_or ns i 0) × (get_or w.now 1 0 ≡ get_or ns (i + 1) 0) × AtPair ns t (i + 2)
  pair_turn w e st =
      let m = rw e at st in
      let o = two_of ns i w.now (chunks_exact_rest t) (m.1.1 ∙ p.size) (sym p.rest ∙ m.1.0) in
      (o.0, o.1, o.2, record { rest = o.3; size = m.0 ∙ p.size; within = omega (arith, o.0) })

  pub pair_two : (w : Bor (List ℕ)) {r : Option (Bor (List ℕ))} → r ≡ Some w → chunks_exact_steps s r t → length w.now ≡ 2
  pair_two w e st = let m = rw e at st in m.1.1 ∙ p.size

  pub pair_end : {r : Option (Bor (List ℕ))} → r ≡ None → chunks_exact_steps s r t → length ns ≤ i + 1
  pair_end e st = let m = rw e at st in omega (arith, m.1.0, p.size, ap length p.rest, length-drop i ns)
