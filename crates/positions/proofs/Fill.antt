-- Readers one after the other at an index of a slice, and what fills the rest: how a reader in code goes on, field by field. Assumes nothing.
use mathlib.Core.Path.{◌≡◌, refl}
use mathlib.Core.List.{List}
use Prim.Native.Nat.{ℕ}
use lib.ListN.{drop}
use Rattle.reading.specs.Refusal.{Refusal}
use Rattle.reading.specs.Reader.{Fit, got, bad, Reader, Filler, ◌>>=◌, map_of, then_of, then_fit}
use Rattle.positions.specs.Position.{from_at}
use Rattle.positions.proofs.Trails.{Trails}
use Rattle.positions.proofs.Position.{got_left, got_within, bad_left, left_at}

-- a value before the next, as then_of has them
abbrev pub after : {A B : Type 0} → A → B × ℕ → Fit ((A × B) × ℕ)
after v z = got ((v, z.0), z.1)

module _ {A B : Type 0} (p : Reader A) (s : List ℕ) (at : ℕ) where
  -- p refuses
  pub then_bad : (q : A → Reader B) (k : Refusal) → from_at p s at ≡ bad k → from_at (then_of p q) s at ≡ bad k
  unfolding from_at then_of
  then_bad q k e = rw (bad_left p s at k e)

  pub fill_bad : (q : A → Filler B) (k : Refusal) → from_at p s at ≡ bad k → then_fit p q (drop at s) ≡ bad k
  unfolding then_fit
  fill_bad q k e = rw (bad_left p s at k e)

  pub map_bad : (f : A → B) (k : Refusal) → from_at p s at ≡ bad k → from_at (map_of f p) s at ≡ bad k
  unfolding from_at map_of
  map_bad f k e = rw (bad_left p s at k e)

  module _ (T : Trails p) (v : A) (m : ℕ) (e : from_at p s at ≡ got (v, m)) where
    -- p gives v, and q goes on at m
    pub then_got : (q : A → Reader B) → from_at (then_of p q) s at ≡ (from_at (q v) s m >>= after v)
    unfolding from_at then_of
    then_got q = rw (got_left p s at T v m e) (on (q v (drop m s)))
      where
        on : (n : Fit (B × List ℕ)) → from_at (λ l. n >>= λ (c, r). got ((v, c), r)) s m ≡ (from_at (λ l. n) s m >>= after v)
        on (got z) = refl
        on (bad k) = refl

    pub fill_got : (q : A → Filler B) → then_fit p q (drop at s) ≡ (q v (drop m s) >>= λ c. got (v, c))
    unfolding then_fit
    fill_got q = rw (got_left p s at T v m e)

    pub map_got : (f : A → B) → from_at (map_of f p) s at ≡ got (f v, m)
    unfolding map_of
    map_got f = left_at (map_of f p) s at (f v) m (rw (got_left p s at T v m e)) (got_within p s at T v m e)
