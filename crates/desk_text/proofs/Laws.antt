-- How text is shown byte by byte as far as it fits. Assumes nothing.
use mathlib.Core.Path.{◌≡◌, refl, sym, ap, ◌∙◌}
use mathlib.Core.Bool.{Bool, true, false, cond}
use mathlib.Core.List.{List, [], ◌∷◌, append-nil}
use Prim.Native.Nat.{ℕ, zero, suc, ◌+◌, ◌-◌, ◌≤◌, ◌<◌}
use native.Mathlib.Omega.{arith}
use native.Mathlib.Numerals.{add-one}
use lib.Dec.{leb}
use lib.ListN.{length, get_or, length-append}
use lib.Seq.{sets, length-sets}
use borrow.Author.Tests.{leb-true, leb-false, le-leb, lt-leb}
use Rattle.write_bytes.proofs.Laws.{sets_append}
use Rattle.desk_render.specs.Shown.{shown_of, shown_size, Shows}
use Rattle.desk_render.specs.Shown as render
use Rattle.desk_render.proofs.Laws.{size_some, size_length, size_plain, form_plain}
use Rattle.desk_text.specs.Text.{stands, piece_of, pieces, fitting, joined, fitted, ShowsText}
use Rattle.desk_text.specs.Step.{PiecePut}

either : {A : Type 0} (n b : ℕ) → (b < n → A) → (n ≤ b → A) → A
either {A} n b f g = go (leb n b) refl
  where
    go : (t : Bool) → leb n b ≡ t → A
    go true e = g (leb-true n b e)
    go false e = f (leb-false n b e)

-- ---- one piece

shown_one : (b : ℕ) → render.shown (b ∷ []) ≡ shown_of b
unfolding render.shown
shown_one b = append-nil (shown_of b)

-- a byte as `desk_render` shows it
pub put_byte : {o o' : List ℕ} {at b taken put : ℕ} → Shows o at (b ∷ []) o' taken put → PiecePut o at (shown_of b) o' put
unfolding render.fitting render.shown
put_byte {o} {o'} {at} {b} {taken} {put} w =
    record {
      fits = λ h.
          let t : taken ≡ 1 = w.most ∙ rw (le-leb (shown_size b) (length o - at) (omega (arith, size_length b))) in
          (w.size ∙ rw (t, shown_one b), w.stores ∙ rw (t, shown_one b));
      full = λ h.
          let t : taken ≡ 0 = w.most ∙ rw (lt-leb (shown_size b) (length o - at) (omega (arith, size_length b))) in
          (w.size ∙ rw t, w.stores ∙ rw t);
    }

module _ {o o' : List ℕ} {at n : ℕ} (text : Bool) (s : List ℕ) (i : ℕ) where
  pub piece_stands : true ≡ stands text s i → PiecePut o at (get_or s i 0 ∷ []) o' n → PiecePut o at (piece_of text s i) o' n
  unfolding piece_of
  piece_stands e w = rw (sym e) w

  pub piece_plain : shown_of (get_or s i 0) ≡ get_or s i 0 ∷ [] → PiecePut o at (get_or s i 0 ∷ []) o' n → PiecePut o at (piece_of text s i) o' n
  unfolding piece_of
  piece_plain e w = rw e (go (stands text s i))
    where
      go : (t : Bool) → PiecePut o at (cond t (get_or s i 0 ∷ []) (get_or s i 0 ∷ [])) o' n
      go true = w
      go false = w

  pub piece_shown : false ≡ stands text s i → PiecePut o at (shown_of (get_or s i 0)) o' n → PiecePut o at (piece_of text s i) o' n
  unfolding piece_of
  piece_shown e w = rw (sym e) w

-- the bytes behind `"`, up to `~`, but for `\`
pub plain_shown : (b : ℕ) → 35 ≤ b → (b ≡ 92 → ⊥) → b ≤ 126 → shown_of b ≡ b ∷ []
plain_shown b l m h = form_plain b (size_plain b (λ e. omega arith) m (omega arith) h)

-- a piece has a byte at least
piece_some : (text : Bool) (s : List ℕ) (i : ℕ) → 1 ≤ length (piece_of text s i)
unfolding piece_of
piece_some text s i = go (stands text s i)
  where
    go : (t : Bool) → 1 ≤ length (cond t (get_or s i 0 ∷ []) (shown_of (get_or s i 0)))
    go true = omega arith
    go false = omega (arith, size_some (get_or s i 0), size_length (get_or s i 0))

-- ---- as many as fit

module _ (room : ℕ) (p : List ℕ) (ps : List (List ℕ)) where
  fits_first : length p ≤ room → fitting room (p ∷ ps) ≡ p ∷ fitting (room - length p) ps
  unfolding fitting
  fits_first h = rw (le-leb (length p) room h)

  none_fits : room < length p → fitting room (p ∷ ps) ≡ []
  unfolding fitting
  none_fits h = rw (lt-leb (length p) room h)

pieces_next : (text : Bool) (s : List ℕ) (i : ℕ) → i < length s → pieces text s i (length s - i) ≡ piece_of text s i ∷ pieces text s (suc i) (length s - suc i)
unfolding pieces
pieces_next text s i h = let e : length s - i ≡ suc (length s - suc i) = omega arith in rw e

-- the bytes from `from` to i are shown, up to index `next` of the output; the rest is to be shown there
pub record Showing (o₀ : List ℕ) (at : ℕ) (text : Bool) (s : List ℕ) (from : ℕ) (o : List ℕ) (i next : ℕ) : Type 0 where
  pub same : length o ≡ length o₀
  pub after : from ≤ i
  pub ahead : i ≤ length s
  pub behind : at ≤ next
  pub within : next ≤ length o₀
  pub most : i + length (fitted text s i (length o₀ - next)) ≡ from + length (fitted text s from (length o₀ - at))
  pub stores : sets o next (joined (fitted text s i (length o₀ - next))) ≡ sets o₀ at (joined (fitted text s from (length o₀ - at)))
  pub size : next + length (joined (fitted text s i (length o₀ - next))) ≡ at + length (joined (fitted text s from (length o₀ - at)))

pub showing_start : (o : List ℕ) (at : ℕ) (text : Bool) (s : List ℕ) (from : ℕ) → at ≤ length o → from ≤ length s → Showing o at text s from o from at
showing_start o at text s from h g = record { same = refl; after = omega arith; ahead = g; behind = omega arith; within = h; most = refl; stores = refl; size = refl }

module _ {o₀ : List ℕ} {at : ℕ} {text : Bool} {s : List ℕ} {from : ℕ} {o : List ℕ} {i next : ℕ} (w : Showing o₀ at text s from o i next) where
  -- nothing more fits
  stop : fitted text s i (length o₀ - next) ≡ [] → ShowsText o₀ at text s from o (i - from) (next - at)
  unfolding joined
  stop e =
      let m : i + 0 ≡ from + length (fitted text s from (length o₀ - at)) = rw e at w.most in
      let t : o ≡ sets o₀ at (joined (fitted text s from (length o₀ - at))) = rw e at w.stores in
      let z : next + 0 ≡ at + length (joined (fitted text s from (length o₀ - at))) = rw e at w.size in
      record { most = omega (arith, m); stores = t; size = omega (arith, z) }

  pub showing_end : length s ≤ i → ShowsText o₀ at text s from o (i - from) (next - at)
  unfolding fitting pieces
  showing_end h = let e : length s - i ≡ 0 = omega arith in stop (rw e)

  pub next_within : {o' q : List ℕ} {n : ℕ} → PiecePut o next q o' n → next + n ≤ length o₀
  next_within {o'} {q} p =
      either (length q) (length o - next)
      (λ g. omega (arith, (p.full g).0, w.within))
      λ g. omega (arith, (p.fits g).0, w.within, w.same)

  module _ (l : i < length s) {o' : List ℕ} {n : ℕ} (p : PiecePut o next (piece_of text s i) o' n) where
    had : ShowsText o₀ at text s from o (i - from) (next - at) → o' ≡ o → ShowsText o₀ at text s from o' (i - from) (next - at)
    had x e = rw e x

    -- there was no room
    pub turn_full : n ≡ 0 → ShowsText o₀ at text s from o' (i - from) (next - at)
    turn_full e =
        either (length (piece_of text s i)) (length o - next)
        (λ g. had (stop (rw (pieces_next text s i l) (none_fits (length o₀ - next) (piece_of text s i) _ (omega (arith, w.same))))) (p.full g).1)
        λ g. absurd (omega (arith, (p.fits g).0, piece_some text s i))

    next_by : length (piece_of text s i) ≤ length o - next → Showing o₀ at text s from o' (i + 1) (next + n)
    unfolding joined
    next_by g =
        let q : List ℕ = piece_of text s i in
        let z : n ≡ length q = (p.fits g).0 in
        let r : length o₀ - next - length q ≡ length o₀ - (next + n) = omega (arith, z) in
        let f : fitted text s i (length o₀ - next) ≡ q ∷ fitted text s (suc i) (length o₀ - (next + n)) = rw (pieces_next text s i l) (fits_first (length o₀ - next) q (pieces text s (suc i) (length s - suc i)) (omega (arith, w.same)) ∙ rw r) in
        let y : List ℕ = joined (fitted text s (suc i) (length o₀ - (next + n))) in
        let a : i + 1 ≡ suc i = add-one i in
        record {
          same = ap length (p.fits g).1 ∙ length-sets o next q ∙ w.same;
          after = omega (arith, w.after);
          ahead = omega arith;
          behind = omega (arith, w.behind);
          within = omega (arith, w.within, w.same, z);
          most = rw a (omega (arith, rw f at w.most));
          stores = rw (a, (p.fits g).1) (ap (λ (m : ℕ). sets (sets o next q) (next + m) y) z ∙ sym (sets_append q y o next) ∙ rw f at w.stores);
          size = rw a (omega (arith, z, rw (f, length-append) at w.size));
        }

    pub turn_next : (n ≡ 0 → ⊥) → Showing o₀ at text s from o' (i + 1) (next + n)
    turn_next e = either (length (piece_of text s i)) (length o - next) (λ g. absurd (e (p.full g).0)) next_by

-- ---- past the end

none_at_all : (text : Bool) (s : List ℕ) (i n : ℕ) → fitting 0 (pieces text s i n) ≡ []
unfolding fitting pieces
none_at_all text s i zero = refl
none_at_all text s i (suc n) = none_fits 0 (piece_of text s i) (pieces text s (suc i) n) (piece_some text s i)

pub shows_none : (o : List ℕ) (at : ℕ) (text : Bool) (s : List ℕ) (from : ℕ) → length o < at → ShowsText o at text s from o 0 0
unfolding joined
shows_none o at text s from h =
    let z : length o - at ≡ 0 = omega arith in
    let e : fitted text s from (length o - at) ≡ [] = rw z (none_at_all text s from (length s - from)) in
    record { most = rw e; stores = rw e; size = rw e }

pub shows_past : (o : List ℕ) (at : ℕ) (text : Bool) (s : List ℕ) (from : ℕ) → length s < from → ShowsText o at text s from o 0 0
unfolding joined fitting pieces
shows_past o at text s from h =
    let z : length s - from ≡ 0 = omega arith in
    record { most = rw z; stores = rw z; size = rw z }
