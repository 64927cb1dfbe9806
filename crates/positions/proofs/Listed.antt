-- The fields of a kind with entries, one after the other: identifier, block, entries; one law over the place, the entries and the record.
-- Assumes nothing.
use mathlib.Core.Path.{◌≡◌, refl, sym}
use mathlib.Core.Option.{Option}
use mathlib.Core.List.{List}
use Prim.Native.Nat.{ℕ}
use lib.ListN.{length, drop}
use Rattle.grammar.specs.Tables.{Row}
use Rattle.grammar.specs.Record.{Props}
use Rattle.reading.specs.Refusal.{Refusal, cut}
use Rattle.reading.specs.Reader.{Fit, got, bad, Reader, Filler, ◌>>=◌, map_fit, then_fit}
use Rattle.reading.specs.Read.{big_of, block_of, props_as}
use Rattle.reading.specs.Place.{Span, Placed, as_places}
use Rattle.positions.specs.Position.{from_at}
use Rattle.positions.proofs.Trails.{trails_big, trails_block}
use Rattle.positions.proofs.Fill.{fill_bad, fill_got}

-- the properties, if there are any
abbrev Block : Type 0
Block = Option (Props Span (λ A. Span))

module _ (row : Row) (E : Filler Span) (mk : ℕ × (Block × Span) → Placed) (s : List ℕ) (at : ℕ) where
  abbrev block : Reader Block
  block = block_of as_places row (props_as as_places) (length s)

  -- what follows the identifier
  abbrev rest : ℕ → Filler (Block × Span)
  rest _ = then_fit block (λ _. E)

  abbrev pub listed_fields : Fit Placed
  listed_fields = map_fit mk (then_fit (big_of cut 2) rest) (drop at s)

  pub listed_ident : {k : Refusal} → bad k ≡ from_at (big_of cut 2) s at → bad k ≡ listed_fields
  unfolding map_fit
  listed_ident {k = k} e = rw (fill_bad (big_of cut 2) s at rest k (sym e))

  module _ {i m : ℕ} (e : got (i, m) ≡ from_at (big_of cut 2) s at) where
    pub listed_block : {k : Refusal} → bad k ≡ from_at block s m → bad k ≡ listed_fields
    unfolding map_fit
    listed_block {k = k} j = rw (fill_got (big_of cut 2) s at (trails_big cut 2) i m (sym e) rest, fill_bad block s m (λ _. E) k (sym j))

    module _ {ps : Block} {n : ℕ} (j : got (ps, n) ≡ from_at block s m) where
      -- the entries decide
      listed_then : (E (drop n s) >>= λ p. got (mk (i, (ps, p)))) ≡ listed_fields
      unfolding map_fit
      listed_then =
          rw (
            fill_got (big_of cut 2) s at (trails_big cut 2) i m (sym e) rest,
            fill_got block s m (trails_block as_places (length s) row (props_as as_places)) ps n (sym j) (λ _. E),
          )
          (go (E (drop n s)))
        where
          go : (z : Fit Span) → (z >>= λ p. got (mk (i, (ps, p)))) ≡ (((z >>= λ p. got (ps, p)) >>= λ v. got (i, v)) >>= λ v. got (mk v))
          go (got p) = refl
          go (bad k) = refl

      pub listed_entries : {k : Refusal} → bad k ≡ E (drop n s) → bad k ≡ listed_fields
      listed_entries f = rw (sym f) at listed_then

      pub listed_fine : {p : Span} → got p ≡ E (drop n s) → got (mk (i, (ps, p))) ≡ listed_fields
      listed_fine f = rw (sym f) at listed_then
