-- The fields of a Publish one after the other: how a read of them goes on from each, and where it ends. Assumes nothing.
use mathlib.Core.Path.{◌≡◌, refl, sym, ◌∙◌}
use mathlib.Core.Bool.{Bool, true, false}
use mathlib.Core.Option.{Option}
use mathlib.Core.List.{List, [], ◌∷◌}
use Prim.Native.Nat.{ℕ, zero, suc, ◌-◌, ◌/◌, ◌%◌, ◌≤◌, ◌<◌}
use native.Mathlib.Omega.{arith}
use lib.ListN.{length, drop, length-drop}
use borrow.Author.Tests.{ne_eqb}
use Rattle.grammar.specs.Tables.{publish_row, a_publish}
use Rattle.grammar.specs.Record.{PublishProps, publish, flag_qos}
use Rattle.grammar.specs.Sentence.{not_three, not_zero}
use Rattle.reading.specs.Refusal.{Refusal, nr, cut}
use Rattle.reading.specs.Reader.{Fit, got, bad, Reader, Filler, ◌>>=◌, none_of, only_of, map_fit, hand_fit, then_fit, is_fit}
use Rattle.reading.specs.Read.{big_of, ident_of, any_bytes, string_fit, bytes_of, publish_as, block_of, message_fit, fields_fit}
use Rattle.reading.specs.Place.{Span, as_places, Placed}
use Rattle.reading.proofs.Reading.{bad_got}
use Rattle.reading.proofs.Refusing.{got_bad}
use Rattle.reading.proofs.Packets.{reads_ident}
use Rattle.positions.specs.Position.{from_at}
use Rattle.positions.proofs.Trails.{Trails, trails_reads, trails_big, trails_bytes, trails_block}
use Rattle.positions.proofs.Position.{got_left, got_within, bad_left, left_at, left_bad}
use Rattle.positions.proofs.Fill.{fill_bad, fill_got}
use Rattle.tables.specs.Qos.{qos_of}

-- ---- a reader whose value is tested

module _ {A : Type 0} (t : A → Bool) (c : A → Refusal) (p : Reader A) (s : List ℕ) (at : ℕ) where
  only_bad : (k : Refusal) → bad k ≡ from_at p s at → bad k ≡ from_at (only_of t c p) s at
  unfolding only_of
  only_bad k e = sym (left_bad (only_of t c p) s at k (rw (bad_left p s at k (sym e))))

  module _ (T : Trails p) (a : A) (m : ℕ) (e : got (a, m) ≡ from_at p s at) where
    only_fails : t a ≡ false → bad (c a) ≡ from_at (only_of t c p) s at
    unfolding only_of
    only_fails h = sym (left_bad (only_of t c p) s at (c a) (rw (got_left p s at T a m (sym e), h)))

    only_passes : t a ≡ true → got (a, m) ≡ from_at (only_of t c p) s at
    unfolding only_of
    only_passes h = sym (left_at (only_of t c p) s at a m (rw (got_left p s at T a m (sym e), h)) (got_within p s at T a m (sym e)))

-- ---- the identifier

module _ (s : List ℕ) (at : ℕ) where
  pub ident_bad : (k : Refusal) → bad k ≡ from_at (big_of cut 2) s at → bad k ≡ from_at (ident_of 1) s at
  unfolding ident_of
  ident_bad k e = only_bad not_zero (λ _. nr 12 []) (big_of cut 2) s at k e

  pub ident_zero : (i m : ℕ) → got (i, m) ≡ from_at (big_of cut 2) s at → i ≡ 0 → bad (nr 12 []) ≡ from_at (ident_of 1) s at
  unfolding ident_of
  ident_zero i m e z = only_fails not_zero (λ _. nr 12 []) (big_of cut 2) s at (trails_big cut 2) i m e (rw z)

  pub ident_some : (i m : ℕ) → got (i, m) ≡ from_at (big_of cut 2) s at → (i ≡ 0 → ⊥) → got (i, m) ≡ from_at (ident_of 1) s at
  unfolding ident_of
  ident_some i m e z = only_passes not_zero (λ _. nr 12 []) (big_of cut 2) s at (trails_big cut 2) i m e (rw (ne_eqb i 0 z))

  -- QoS 0: nothing stands there
  pub ident_none : at ≤ length s → got (0, at) ≡ from_at (ident_of 0) s at
  unfolding ident_of none_of
  ident_none h = sym (left_at (ident_of 0) s at 0 at refl h)

-- ---- QoS, which the flags give

-- a number of two bits is refused as a quality of service if it is 3
three : (n : ℕ) (k : Refusal) → n < 4 → bad k ≡ qos_of n → (not_three n ≡ false) × (k ≡ nr 11 (3 ∷ []))
three zero k h e = absurd (bad_got e)
three (suc zero) k h e = absurd (bad_got e)
three (suc (suc zero)) k h e = absurd (bad_got e)
three (suc (suc (suc zero))) k h e = (refl, cc)
three (suc (suc (suc (suc n)))) k h e = absurd (omega arith)

below : (n q : ℕ) → n < 4 → got q ≡ qos_of n → (not_three n ≡ true) × (q ≡ n)
below zero q h e = (refl, cc)
below (suc zero) q h e = (refl, cc)
below (suc (suc zero)) q h e = (refl, cc)
below (suc (suc (suc zero))) q h e = got_bad e
below (suc (suc (suc (suc n)))) q h e = absurd (omega arith)

qos_fine_lem : (x q : ℕ) → got q ≡ qos_of (x / 2 % 4) → (not_three (flag_qos x) ≡ true) × (q ≡ flag_qos x)
qos_fine_lem x q e = below (x / 2 % 4) q (omega arith) e

-- ---- the fields

-- what a block is handed back as
abbrev Block : Type 0
Block = Option (PublishProps Span (λ A. Span))

-- a field that was read ends within the slice
pub topic_within : (s : List ℕ) (at : ℕ) (p : Span) (a : ℕ) → got (p, a) ≡ from_at (bytes_of as_places (length s)) s at → a ≤ length s
topic_within s at p a e = got_within (bytes_of as_places (length s)) s at (trails_bytes as_places (length s)) p a (sym e)

pub block_within : (s : List ℕ) (at : ℕ) (ps : Block) (n : ℕ) → got (ps, n) ≡ from_at (block_of as_places publish_row (publish_as as_places) (length s)) s at → n ≤ length s
block_within s at ps n e = got_within (block_of as_places publish_row (publish_as as_places) (length s)) s at (trails_block as_places (length s) publish_row (publish_as as_places)) ps n (sym e)

-- the payload: all that is left
abbrev payload_fit : ℕ → Block → Filler Span
payload_fit end ps = string_fit as_places any_bytes cut end

-- the block, then the payload
abbrev block_fit : ℕ → ℕ → Filler (Block × Span)
block_fit end i = then_fit (block_of as_places publish_row (publish_as as_places) end) (payload_fit end)

-- the identifier, then the block
abbrev ident_fit : ℕ → ℕ → Span → Filler (ℕ × (Block × Span))
ident_fit x end p = then_fit (ident_of (flag_qos x)) (block_fit end)

module _ (s : List ℕ) (at x : ℕ) where
  -- what the fields from index `at` to the end of s come to
  abbrev pub fields_at : Fit Placed
  fields_at = fields_fit as_places a_publish x (length s) (drop at s)

  pub qos_refused : (k : Refusal) → bad k ≡ qos_of (x / 2 % 4) → bad k ≡ fields_at
  unfolding fields_fit
  qos_refused k e =
      let h = three (x / 2 % 4) k (omega arith) e in
      rw (h.0, h.1)

  -- the flags give the quality of service q
  module _ (q : ℕ) (g : got q ≡ qos_of (x / 2 % 4)) where
    message : fields_at ≡ message_fit as_places x (length s) (drop at s)
    unfolding fields_fit
    message = rw (qos_fine_lem x q g).0

    is_flags : q ≡ flag_qos x
    is_flags = (qos_fine_lem x q g).1

    pub topic_bad : (k : Refusal) → bad k ≡ from_at (bytes_of as_places (length s)) s at → bad k ≡ fields_at
    unfolding message_fit map_fit
    topic_bad k e = sym (message ∙ rw (fill_bad (bytes_of as_places (length s)) s at (ident_fit x (length s)) k (sym e)))

    -- the topic p ends at a
    module _ (p : Span) (a : ℕ) (e : got (p, a) ≡ from_at (bytes_of as_places (length s)) s at) where
      topic_got : then_fit (bytes_of as_places (length s)) (ident_fit x (length s)) (drop at s) ≡ (ident_fit x (length s) p (drop a s) >>= λ c. got (p, c))
      topic_got = fill_got (bytes_of as_places (length s)) s at (trails_bytes as_places (length s)) p a (sym e) (ident_fit x (length s))

      pub pkid_bad : (k : Refusal) → bad k ≡ from_at (ident_of q) s a → bad k ≡ fields_at
      unfolding message_fit map_fit
      pkid_bad k e₁ = sym (message ∙ rw (topic_got, fill_bad (ident_of (flag_qos x)) s a (block_fit (length s)) k (sym (rw is_flags at e₁))))

      -- the identifier i ends at b
      module _ (i b : ℕ) (e₁ : got (i, b) ≡ from_at (ident_of q) s a) where
        pkid_got : ident_fit x (length s) p (drop a s) ≡ (block_fit (length s) i (drop b s) >>= λ c. got (i, c))
        pkid_got = fill_got (ident_of (flag_qos x)) s a (trails_reads (reads_ident (flag_qos x))) i b (sym (rw is_flags at e₁)) (block_fit (length s))

        pub block_bad : (k : Refusal) → bad k ≡ from_at (block_of as_places publish_row (publish_as as_places) (length s)) s b → bad k ≡ fields_at
        unfolding message_fit map_fit
        block_bad k e₂ = sym (message ∙ rw (topic_got, pkid_got, fill_bad (block_of as_places publish_row (publish_as as_places) (length s)) s b (payload_fit (length s)) k (sym e₂)))

        -- the block ps ends at n, and the rest is payload
        module _ (ps : Block) (n : ℕ) (e₂ : got (ps, n) ≡ from_at (block_of as_places publish_row (publish_as as_places) (length s)) s b) where
          block_got : block_fit (length s) i (drop b s) ≡ (payload_fit (length s) ps (drop n s) >>= λ c. got (ps, c))
          block_got = fill_got (block_of as_places publish_row (publish_as as_places) (length s)) s b (trails_block as_places (length s) publish_row (publish_as as_places)) ps n (sym e₂) (payload_fit (length s))

          payload_got : payload_fit (length s) ps (drop n s) ≡ got (record { start = n; len = length s - n })
          unfolding string_fit hand_fit is_fit
          payload_got =
              let l : length (drop n s) ≡ length s - n = length-drop n s in
              let m : length s - (length s - n) ≡ n = omega (arith, block_within s b ps n e₂) in
              rw (l, m)

          pub fields_got :
              got (publish (record { dup = x / 8 % 2; qos = q; retain = x % 2; topic = p; ident = i; props = ps; payload = record { start = n; len = length s - n } })) ≡ fields_at
          unfolding message_fit map_fit
          fields_got = sym (message ∙ rw (topic_got, pkid_got, block_got, payload_got, is_flags))
