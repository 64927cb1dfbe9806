-- The fields of a publish acknowledgement one after the other: the identifier, what R leaves for a reason, and what it leaves for a block. Assumes nothing.
use mathlib.Core.Path.{◌≡◌, refl, sym, ◌∙◌}
use mathlib.Core.Bool.{true, false}
use mathlib.Core.Option.{Option, none}
use mathlib.Core.List.{List, [], ◌∷◌}
use Prim.Native.Nat.{ℕ, ◌+◌, ◌≤◌, ◌<◌}
use native.Mathlib.Numerals.{add-one}
use lib.ListN.{length, drop, get_or, drop_of_length-le}
use lib.Seq.{drop-cons}
use Rattle.grammar.specs.Choice.{is_in}
use Rattle.grammar.specs.Tables.{ack_row, an_ack}
use Rattle.grammar.specs.Record.{Props, ack, kind_of}
use Rattle.reading.specs.Refusal.{Refusal, nr, cut}
use Rattle.reading.specs.Reader.{Fit, got, bad, ◌>>=◌, ◌>>◌, guard, map_fit, exact_fit}
use Rattle.reading.specs.Read.{big_of, block_of, props_as, ack_block_fit, ack_rest_fit, fields_fit}
use Rattle.reading.specs.Place.{Span, as_places, on_got}
use Rattle.positions.specs.Position.{from_at}
use Rattle.positions.proofs.Trails.{trails_big, trails_block}
use Rattle.positions.proofs.Position.{got_left, bad_left}
use Rattle.positions.proofs.Fill.{fill_bad, fill_got}
use Rattle.ack.specs.AckRead.{acked, behind_reason, after_ident}

-- what a block is handed back as
abbrev Block : Type 0
Block = Option (Props Span (λ A. Span))

-- the identifier beside what follows it, and the record of both
abbrev beside : ℕ → ℕ × Block → Fit (ℕ × (ℕ × Block))
beside i v = got (i, v)

-- ---- the identifier; x is a first byte of the kind k, whose reasons are rs

module _ (s : List ℕ) (at : ℕ) (rs : List ℕ) (k x : ℕ) (h : kind_of x ≡ k) where
  pub ident_bad : (c : Refusal) → bad c ≡ from_at (big_of cut 2) s at → bad c ≡ fields_fit as_places (an_ack rs) x (length s) (drop at s)
  unfolding fields_fit map_fit
  ident_bad c e = sym (rw (fill_bad (big_of cut 2) s at (λ _. ack_rest_fit as_places ack_row rs (length s)) c (sym e)))

  -- the identifier i ends at m
  pub ident_got : (i m : ℕ) → got (i, m) ≡ from_at (big_of cut 2) s at → on_got (ack k) (after_ident rs i (length s) (drop m s)) ≡ fields_fit as_places (an_ack rs) x (length s) (drop at s)
  unfolding fields_fit map_fit
  ident_got i m e = sym (rw (fill_got (big_of cut 2) s at (trails_big cut 2) i m (sym e) (λ _. ack_rest_fit as_places ack_row rs (length s)), h) (on (ack_rest_fit as_places ack_row rs (length s) (drop m s))))
    where
      on : (n : Fit (ℕ × Block)) → ((n >>= beside i) >>= λ v. got (ack k (record { ident = v.0; reason = v.1.0; props = v.1.1 }))) ≡ on_got (ack k) (n >>= acked i)
      on (got z) = refl
      on (bad c) = refl

-- ---- the reason

module _ (rs : List ℕ) (s : List ℕ) (at i : ℕ) where
  -- R = 2
  pub rest_none : length s ≤ at → acked i (0, none) ≡ after_ident rs i (length s) (drop at s)
  unfolding ack_rest_fit
  rest_none h = rw (drop_of_length-le s h)

  module _ (h : at < length s) where
    -- a reason stands there
    rest_some : ack_rest_fit as_places ack_row rs (length s) (drop at s)
        ≡ (guard (is_in (get_or s at 0) rs) (nr 15 (get_or s at 0 ∷ [])) >> (ack_block_fit as_places ack_row (length s) (drop (at + 1) s) >>= λ ps. got (get_or s at 0, ps)))
    unfolding ack_rest_fit
    rest_some = rw (drop-cons s at 0 h, add-one at)

    pub reason_bad : is_in (get_or s at 0) rs ≡ false → bad (nr 15 (get_or s at 0 ∷ [])) ≡ after_ident rs i (length s) (drop at s)
    reason_bad e = rw (rest_some, e)

    pub reason_got : is_in (get_or s at 0) rs ≡ true → behind_reason i (get_or s at 0) (length s) (drop (at + 1) s) ≡ after_ident rs i (length s) (drop at s)
    reason_got e = rw (rest_some, e) (go (ack_block_fit as_places ack_row (length s) (drop (at + 1) s)))
      where
        go : (n : Fit Block) → (n >>= λ ps. acked i (get_or s at 0, ps)) ≡ ((n >>= λ ps. got (get_or s at 0, ps)) >>= acked i)
        go (got ps) = refl
        go (bad k) = refl

-- ---- what follows the reason

module _ (i c end : ℕ) (b : List ℕ) where
  pub behind_bad : {k : Refusal} → bad k ≡ ack_block_fit as_places ack_row end b → bad k ≡ behind_reason i c end b
  behind_bad e = rw (sym e)

  pub behind_got : {ps : Block} → got ps ≡ ack_block_fit as_places ack_row end b → acked i (c, ps) ≡ behind_reason i c end b
  behind_got e = rw (sym e)

-- R = 3
pub block_none : (s : List ℕ) (at : ℕ) → length s ≤ at → got none ≡ ack_block_fit as_places ack_row (length s) (drop at s)
unfolding ack_block_fit
block_none s at h = rw (drop_of_length-le s h)

-- the block at an index
abbrev block_at : List ℕ → ℕ → Fit (Block × ℕ)
block_at s at = from_at (block_of as_places ack_row (props_as as_places) (length s)) s at

module _ (s : List ℕ) (at : ℕ) (h : at < length s) where
  block_exact : ack_block_fit as_places ack_row (length s) (drop at s) ≡ exact_fit (block_of as_places ack_row (props_as as_places) (length s)) cut (drop at s)
  unfolding ack_block_fit
  block_exact = rw (drop-cons s at 0 h)

  pub block_bad : (k : Refusal) → bad k ≡ block_at s at → bad k ≡ ack_block_fit as_places ack_row (length s) (drop at s)
  unfolding exact_fit
  block_bad k e = sym (block_exact ∙ rw (bad_left (block_of as_places ack_row (props_as as_places) (length s)) s at k (sym e)))

  -- the block ps ends at n
  module _ (ps : Block) (n : ℕ) (e : got (ps, n) ≡ block_at s at) where
    block_left : block_of as_places ack_row (props_as as_places) (length s) (drop at s) ≡ got (ps, drop n s)
    block_left = got_left (block_of as_places ack_row (props_as as_places) (length s)) s at (trails_block as_places (length s) ack_row (props_as as_places)) ps n (sym e)

    pub bytes_after : n < length s → bad cut ≡ ack_block_fit as_places ack_row (length s) (drop at s)
    unfolding exact_fit
    bytes_after l = sym (block_exact ∙ rw (block_left, drop-cons s n 0 l))

    pub block_ends : length s ≤ n → got ps ≡ ack_block_fit as_places ack_row (length s) (drop at s)
    unfolding exact_fit
    block_ends l = sym (block_exact ∙ rw (block_left, drop_of_length-le s l))
