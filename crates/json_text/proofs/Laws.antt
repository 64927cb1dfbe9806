-- Puts one behind the other, and bytes put each in its form as far as there is room. Assumes nothing.
use mathlib.Core.Path.{◌≡◌, refl, sym, ap, ◌∙◌}
use mathlib.Core.Bool.{Bool, true, false}
use mathlib.Core.List.{List, [], ◌∷◌, ◌++◌, append_assoc}
use Prim.Native.Nat.{ℕ, suc, ◌+◌, ◌-◌, ◌≤◌, ◌<◌}
use native.Mathlib.Omega.{arith}
use native.Mathlib.Numerals.{add-one}
use lib.Dec.{leb}
use lib.ListN.{length, drop, get_or, length-append, drop_of_length-le}
use lib.Seq.{sets, length-sets, drop-cons}
use borrow.Author.Tests.{le-leb, lt-leb, lt-ltb, le-ltb, eq-eqb, ne_eqb, leb-true, leb-false}
use Rattle.write_bytes.proofs.Laws.{sets_append, sets_out}
use Rattle.desk_render.specs.Shown.{hex_of}
use Rattle.json_text.specs.Text.{escaped_of, each}
use Rattle.json_text.specs.Put.{end_in, PutIn}

-- ---- an end

pub end_fits : (room n : ℕ) → n ≤ room → n ≡ end_in room n
unfolding end_in
end_fits room n h = rw (le-leb n room h)

pub end_lost : (room n : ℕ) → room < n → 18446744073709551615 ≡ end_in room n
unfolding end_in
end_lost room n h = rw (lt-leb n room h)

-- ---- one put

-- of a number of bytes that is told
pub put_counted : {l l₁ xs : List ℕ} {at k r : ℕ} → l₁ ≡ sets l at xs → k ≡ length xs → r ≡ end_in (length l₁) (at + k) → PutIn l at xs l₁ r
put_counted {l} {l₁} {xs} {at} e n f = record { stores = e; behind = f ∙ rw (n, ap length e ∙ length-sets l at xs) }

-- ---- one put behind another

module _ {l l₁ l₂ xs ys : List ℕ} {at m n : ℕ} where
  pub then : (length l ≤ 18446744073709551615) → PutIn l at xs l₁ m → PutIn l₁ m ys l₂ n → PutIn l at (xs ++ ys) l₂ n
  then most p q = go (leb (at + length xs) (length l)) refl
    where
      same : length l₁ ≡ length l
      same = ap length p.stores ∙ length-sets l at xs

      go : (b : Bool) → leb (at + length xs) (length l) ≡ b → PutIn l at (xs ++ ys) l₂ n
      go true e =
          let f : m ≡ at + length xs = p.behind ∙ sym (end_fits (length l) (at + length xs) (leb-true _ _ e)) in
          let g : at + length xs + length ys ≡ at + length (xs ++ ys) = omega (arith, length-append xs ys) in
          record {
            stores = q.stores ∙ rw (p.stores, f, sets_append xs ys l at);
            behind = q.behind ∙ rw (same, f, g);
          }
      go false e =
          let h : length l < at + length xs = leb-false _ _ e in
          let f : m ≡ 18446744073709551615 = p.behind ∙ sym (end_lost (length l) (at + length xs) h) in
          let o : l₂ ≡ l₁ = q.stores ∙ sym (sets_out ys l₁ m (omega (arith, same, f))) in
          record {
            stores = o ∙ p.stores ∙ sets_out ys (sets l at xs) (at + length xs) (rw (length-sets l at xs) (omega arith)) ∙ sym (sets_append xs ys l at);
            behind = lost (leb (m + length ys) (length l)) refl f ∙ end_lost (length l) (at + length (xs ++ ys)) (omega (arith, length-append xs ys));
          }
        where
          lost : (b : Bool) → leb (m + length ys) (length l) ≡ b → m ≡ 18446744073709551615 → n ≡ 18446744073709551615
          lost true e f =
              let h : m + length ys ≤ length l = leb-true _ _ e in
              let g : n ≡ m + length ys = q.behind ∙ ap (λ (k : ℕ). end_in k (m + length ys)) same ∙ sym (end_fits (length l) (m + length ys) h) in
              omega (arith, g, h, f)
          lost false e f = q.behind ∙ ap (λ (k : ℕ). end_in k (m + length ys)) same ∙ sym (end_lost (length l) (m + length ys) (leb-false _ _ e))

-- ---- a byte

module _ (b : ℕ) where
  pub form_mark : b ≡ 34 → escaped_of b ≡ 92 ∷ b ∷ []
  unfolding escaped_of
  form_mark e = rw e

  pub form_slash : b ≡ 92 → escaped_of b ≡ 92 ∷ b ∷ []
  unfolding escaped_of
  form_slash e = rw e

  module _ (m : b ≡ 34 → ⊥) (l : b ≡ 92 → ⊥) where
    pub form_low : b < 32 → escaped_of b ≡ 92 ∷ 117 ∷ 48 ∷ 48 ∷ hex_of b
    unfolding escaped_of
    form_low h = rw (ne_eqb b 34 m, ne_eqb b 92 l, lt-ltb b 32 h)

    module _ (h : 32 ≤ b) where
      pub form_delete : b ≡ 127 → escaped_of b ≡ 92 ∷ 117 ∷ 48 ∷ 48 ∷ hex_of b
      unfolding escaped_of
      form_delete e = rw (ne_eqb b 34 m, ne_eqb b 92 l, le-ltb b 32 h, eq-eqb b 127 e)

      pub form_plain : (b ≡ 127 → ⊥) → escaped_of b ≡ b ∷ []
      unfolding escaped_of
      form_plain f = rw (ne_eqb b 34 m, ne_eqb b 92 l, le-ltb b 32 h, ne_eqb b 127 f)

-- ---- bytes, each in its form

-- a text that is put in pieces is put whole
pub each_append : (f : ℕ → List ℕ) (s t : List ℕ) → each f (s ++ t) ≡ each f s ++ each f t
unfolding each
each_append f [] t = refl
each_append f (b ∷ s) t = ap (λ (r : List ℕ). f b ++ r) (each_append f s t) ∙ sym (append_assoc (f b) (each f s) (each f t))

module _ (f : ℕ → List ℕ) where
  -- i bytes of s are put, up to index `next` of the output; the rest is to be put there
  pub record Putting (o₀ : List ℕ) (at : ℕ) (s o : List ℕ) (i next : ℕ) : Type 0 where
    pub same : length o ≡ length o₀
    pub ahead : i ≤ length s
    pub within : next ≤ length o₀
    pub stores : sets o next (each f (drop i s)) ≡ sets o₀ at (each f s)
    pub size : next + length (each f (drop i s)) ≡ at + length (each f s)

  pub putting_start : (o : List ℕ) (at : ℕ) (s : List ℕ) → at ≤ length o → Putting o at s o 0 at
  putting_start o at s h = record { same = refl; ahead = omega arith; within = h; stores = refl; size = refl }

  pub past_end : (o : List ℕ) (at : ℕ) (s : List ℕ) → length o < at → PutIn o at (each f s) o 18446744073709551615
  past_end o at s h = record { stores = sets_out (each f s) o at (omega arith); behind = end_lost (length o) (at + length (each f s)) (omega arith) }

  module _ {o₀ : List ℕ} {at : ℕ} {s o : List ℕ} {i next : ℕ} (w : Putting o₀ at s o i next) where
    pub putting_end : length s ≤ i → PutIn o₀ at (each f s) o next
    unfolding each
    putting_end h =
        let t : o ≡ sets o₀ at (each f s) = rw (drop_of_length-le s h) at w.stores in
        let z : next + 0 ≡ at + length (each f s) = rw (drop_of_length-le s h) at w.size in
        let n : next ≡ at + length (each f s) = omega (arith, z) in
        record { stores = t; behind = n ∙ end_fits (length o₀) (at + length (each f s)) (omega (arith, w.within)) }

    module _ (l : i < length s) {o' : List ℕ} {n : ℕ} (e : n ≡ length (f (get_or s i 0))) (p : o' ≡ sets o next (f (get_or s i 0))) where
      split : each f (drop i s) ≡ f (get_or s i 0) ++ each f (drop (suc i) s)
      unfolding each
      split = rw (drop-cons s i 0 l)

      long : next + n + length (each f (drop (suc i) s)) ≡ at + length (each f s)
      long = omega (arith, e, rw (split, length-append) at w.size)

      put_both : sets o' (next + n) (each f (drop (suc i) s)) ≡ sets o₀ at (each f s)
      put_both =
          rw p (ap (λ (m : ℕ). sets (sets o next (f (get_or s i 0))) (next + m) (each f (drop (suc i) s))) e
          ∙ sym (sets_append (f (get_or s i 0)) (each f (drop (suc i) s)) o next)
          ∙ rw split at w.stores)

      pub putting_same : length o' ≡ length o₀
      putting_same = ap length p ∙ length-sets o next (f (get_or s i 0)) ∙ w.same

      -- it does not stand there whole
      pub putting_full : length o₀ - next < n → PutIn o₀ at (each f s) o' 18446744073709551615
      putting_full h =
          record {
            stores = sets_out (each f (drop (suc i) s)) o' (next + n) (omega (arith, putting_same)) ∙ put_both;
            behind = end_lost (length o₀) (at + length (each f s)) (omega (arith, long));
          }

      pub putting_next : n ≤ length o₀ - next → Putting o₀ at s o' (i + 1) (next + n)
      putting_next h =
          let a : i + 1 ≡ suc i = add-one i in
          record { same = putting_same; ahead = omega arith; within = omega (arith, w.within); stores = rw a put_both; size = rw a long }
