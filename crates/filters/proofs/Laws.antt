-- A filter is its text, then its options. Assumes nothing.
use mathlib.Core.Path.{◌≡◌, refl, sym, ap, ◌∙◌}
use mathlib.Core.Bool.{Bool, true, false, ◌&&◌, false≢true}
use mathlib.Core.List.{List, [], ◌∷◌}
use Prim.Native.Nat.{ℕ, zero, suc, ◌/◌, ◌%◌, ◌≤◌, ◌<◌}
use native.Mathlib.Nat.{mod-lt}
use native.Mathlib.Omega.{arith}
use borrow.Author.Tests.{eq-eqb, ne_eqb}
use lib.Dec.{ltb}
use lib.ListN.{length, drop}
use Rattle.grammar.specs.Record.{Filter, mk_filter}
use Rattle.grammar.specs.Sentence.{not_three, qos_fine, rule_fine}
use Rattle.reading.specs.Refusal.{Refusal, nr, cut}
use Rattle.reading.specs.Reader.{Fit, got, bad, Reader, ◌>>=◌, ◌>>◌, guard, map_of, only_of, then_of}
use Rattle.reading.specs.Read.{byte_of, text_of, filter_of}
use Rattle.reading.specs.Place.{Span, as_places}
use Rattle.positions.specs.Position.{from_at, next_or}
use Rattle.positions.proofs.Less.{filter_less}
use Rattle.positions.proofs.Trails.{trails_byte, trails_text, trails_filter}
use Rattle.positions.proofs.Position.{got_left, got_within, bad_left, left_at, left_bad}
use Rattle.positions.proofs.Run.{item_ahead}
use Rattle.records.specs.Answered.{rule_of}
use Rattle.tables.specs.Qos.{qos_of}
use Rattle.filters.specs.FilterRead.{options_of, FilterPassed}

-- ---- the options byte

-- of two bits only 3 is refused
two_bits : (row n : ℕ) → n < 4 → (guard (ltb n 3) (nr row (n ∷ [])) >> got n) ≡ (guard (not_three n) (nr row (3 ∷ [])) >> got n)
two_bits row zero h = refl
two_bits row (suc zero) h = refl
two_bits row (suc (suc zero)) h = refl
two_bits row (suc (suc (suc zero))) h = refl
two_bits row (suc (suc (suc (suc n)))) h = absurd (omega arith)

-- rule 3 may not stand; with any other QoS decides
pub rule_three : (o : ℕ) → o / 16 % 4 ≡ 3 → false ≡ (rule_fine o && qos_fine o)
rule_three o e = rw (eq-eqb (o / 16 % 4) 3 e)

pub rule_other : (o : ℕ) → (o / 16 % 4 ≡ 3 → ⊥) → qos_fine o ≡ (rule_fine o && qos_fine o)
rule_other o d = rw (ne_eqb (o / 16 % 4) 3 d)

module _ (path : Span) (o next : ℕ) where
  -- the filter of a rule and a quality of service
  abbrev made : ℕ → ℕ → Fit (Filter Span × ℕ)
  made r q = got (record { path = path; qos = q; no_local = o / 4 % 2; preserve = o / 8 % 2; rule = r }, next)

  options_by : (rule_of (o / 16 % 4) >>= λ r. qos_of (o % 4) >>= made r) ≡ options_of path o next
  options_by = rw (two_bits 14 (o / 16 % 4) (mod-lt (o / 16) (omega arith)), two_bits 11 (o % 4) (mod-lt o (omega arith))) (go (rule_fine o) (qos_fine o))
    where
      go : (a b : Bool) → ((guard a (nr 14 (3 ∷ [])) >> got (o / 16 % 4)) >>= λ r. (guard b (nr 11 (3 ∷ [])) >> got (o % 4)) >>= made r)
          ≡ (guard a (nr 14 (3 ∷ [])) >> (guard b (nr 11 (3 ∷ [])) >> got (mk_filter (path, o), next)))
      go true true = refl
      go true false = refl
      go false b = refl

  pub options_rule : {k : Refusal} → bad k ≡ rule_of (o / 16 % 4) → bad k ≡ options_of path o next
  options_rule h = rw (sym h) at options_by

  module _ {r : ℕ} (h : got r ≡ rule_of (o / 16 % 4)) where
    pub options_qos : {k : Refusal} → bad k ≡ qos_of (o % 4) → bad k ≡ options_of path o next
    options_qos j = rw (sym h, sym j) at options_by

    pub options_fine : {q : ℕ} → got q ≡ qos_of (o % 4) → made r q ≡ options_of path o next
    options_fine j = rw (sym h, sym j) at options_by

-- ---- one filter

module _ (s : List ℕ) (at : ℕ) where
  abbrev text : Reader Span
  text = text_of as_places (length s)

  abbrev one : Reader (Filter Span)
  one = filter_of as_places (length s)

  pub filter_text : {k : Refusal} → bad k ≡ from_at text s at → bad k ≡ from_at one s at
  unfolding filter_of map_of then_of
  filter_text {k = k} e = sym (left_bad one s at k (rw (bad_left text s at k (sym e))))

  pub past_text : {k : Refusal} → bad k ≡ from_at text s at → FilterPassed s at at
  past_text e = record { says = ap (next_or at) (filter_text e) }

  module _ {path : Span} {m : ℕ} (e : got (path, m) ≡ from_at text s at) where
    text_left : text (drop at s) ≡ got (path, drop m s)
    text_left = got_left text s at (trails_text as_places (length s)) path m (sym e)

    pub filter_cut : {k : Refusal} → bad k ≡ from_at (byte_of cut) s m → bad k ≡ from_at one s at
    unfolding filter_of map_of then_of only_of
    filter_cut {k = k} j = sym (left_bad one s at k (rw (text_left, bad_left (byte_of cut) s m k (sym j))))

    pub past_cut : {k : Refusal} → bad k ≡ from_at (byte_of cut) s m → FilterPassed s at at
    past_cut j = record { says = ap (next_or at) (filter_cut j) }

    module _ {o next : ℕ} (j : got (o, next) ≡ from_at (byte_of cut) s m) where
      byte_left : byte_of cut (drop m s) ≡ got (o, drop next s)
      byte_left = got_left (byte_of cut) s m (trails_byte cut) o next (sym j)

      by_options : (a b : Bool) → rule_fine o ≡ a → qos_fine o ≡ b → options_of path o next ≡ from_at one s at
      unfolding filter_of map_of then_of only_of
      by_options false b f g = rw f (sym (left_bad one s at (nr 14 (3 ∷ [])) (rw (text_left, byte_left, f))))
      by_options true false f g = rw (f, g) (sym (left_bad one s at (nr 11 (3 ∷ [])) (rw (text_left, byte_left, f, g))))
      by_options true true f g =
          rw (f, g) (sym (left_at one s at (mk_filter (path, o)) next (rw (text_left, byte_left, f, g)) (got_within (byte_of cut) s m (trails_byte cut) o next (sym j))))

      pub filter_options : options_of path o next ≡ from_at one s at
      filter_options = by_options (rule_fine o) (qos_fine o) refl refl

      pub past_fine : (rule_fine o && qos_fine o) ≡ true → FilterPassed s at next
      past_fine h = record { says = go (rule_fine o) (qos_fine o) refl refl h ∙ ap (next_or at) filter_options }
        where
          go : (a b : Bool) → rule_fine o ≡ a → qos_fine o ≡ b → (a && b) ≡ true → next ≡ next_or at (options_of path o next)
          go true true f g h = rw (f, g)
          go true false f g h = absurd (false≢true h)
          go false b f g h = absurd (false≢true h)

      pub past_unfit : (rule_fine o && qos_fine o) ≡ false → FilterPassed s at at
      past_unfit h = record { says = go (rule_fine o) (qos_fine o) refl refl h ∙ ap (next_or at) filter_options }
        where
          go : (a b : Bool) → rule_fine o ≡ a → qos_fine o ≡ b → (a && b) ≡ false → at ≡ next_or at (options_of path o next)
          go true true f g h = absurd (false≢true (sym h))
          go true false f g h = rw (f, g)
          go false b f g h = rw f

-- the readers of a filter go ahead, within the slice
pub filter_ahead : (s : List ℕ) {i m : ℕ} {v : Filter Span} → i < length s → got (v, m) ≡ from_at (filter_of as_places (length s)) s i → (i < m) × (m ≤ length s)
filter_ahead s h e = item_ahead s (filter_less (length s)) (trails_filter as_places (length s)) h (sym e)

-- ---- passed over

module _ (s : List ℕ) {i r : ℕ} (h : i < length s) (p : FilterPassed s i r) where
  abbrev here : Fit (Filter Span × ℕ)
  here = from_at (filter_of as_places (length s)) s i

  -- a filter takes bytes, so that the index stays only where none stands whole
  pub stays : r ≡ i → (k : Refusal) × (bad k ≡ here)
  stays e = go here refl p.says
    where
      go : (m : Fit (Filter Span × ℕ)) → here ≡ m → r ≡ next_or i m → (k : Refusal) × (bad k ≡ here)
      go (got (v, n)) q l = absurd (omega (arith, filter_ahead s h (sym q), l, e))
      go (bad k) q l = (k, sym q)

  pub goes : (r ≡ i → ⊥) → (v : Filter Span) × (got (v, r) ≡ here)
  goes d = go here refl p.says
    where
      go : (m : Fit (Filter Span × ℕ)) → here ≡ m → r ≡ next_or i m → (v : Filter Span) × (got (v, r) ≡ here)
      go (got (v, n)) q l = (v, rw l (sym q))
      go (bad k) q l = absurd (d l)
