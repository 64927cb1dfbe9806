-- What a longer stream does to a header: a whole one stays, one too long, spelt too long or above the limit stays refused, and one that lacks
-- bytes has fewer than five. Assumes nothing.
use mathlib.Core.Path.{◌≡◌, refl, sym, ap, ◌∙◌}
use mathlib.Core.Bool.{Bool, true, false}
use mathlib.Core.Option.{Option, none, some}
use mathlib.Core.Logic.{◌⊎◌, inl, inr}
use mathlib.Core.List.{List, [], ◌∷◌, ◌++◌, append_assoc}
use Prim.Native.Nat.{ℕ, zero, suc, ◌-◌, ◌<◌}
use native.Mathlib.Omega.{arith}
use lib.Dec.{eqb, leb, ltb}
use lib.ListN.{length, take, drop, length-append}
use Rattle.grammar.specs.Gram.{Gram, OnlyBy, Then, both}
use Rattle.grammar.specs.Number.{Byte, byte, shortest, Spells}
use Rattle.reading.specs.Refusal.{Refusal, nr, lacking, over, passes, exceeds}
use Rattle.reading.specs.Reader.{Fit, got, bad, Reader, ◌>>=◌, ◌>>◌, guard, only_by_of, then_of, sized_of, is_fit}
use Rattle.reading.specs.Read.{byte_of, group_of, groups_of, num_of, length_of, frame_of}
use Rattle.reading.proofs.Reading.{bad_got, Reads, reads_then}
use Rattle.reading.proofs.Fields.{reads_byte, reads_groups, reads_num}
use Rattle.reading.proofs.Demand.{reads_length}
use Rattle.pieces_rules.specs.Whole.{header_under}

pub bad_inj : {A : Type 0} {k w : Refusal} → ◌≡◌ {A = Fit A} (bad k) (bad w) → k ≡ w
bad_inj e = cc

-- what is read stays, whatever follows, and so does the count of its bytes
got_stays : {A : Type 0} {p : Reader A} {G : Gram A} → Reads p G → (s : List ℕ) (z : A × List ℕ) → p s ≡ got z → (t : List ℕ) → p (s ++ t) ≡ got (z.0, z.1 ++ t)
got_stays R s z e t = let (b, i, g) = R.split s z e in rw (i, append_assoc b z.1 t) (R.whole z.0 b (z.1 ++ t) g)

count_stays : (s r t : List ℕ) → length (s ++ t) - length (r ++ t) ≡ length s - length r
count_stays s r t = omega (arith, length-append s t, length-append r t)

-- ---- numbers

-- a number that the reader p refuses lacks bytes, or stays refused whatever follows
abbrev Refused : Reader ℕ → Refusal → ℕ → List ℕ → Refusal → Type 0
Refused p c k s w = ((w ≡ c) × (length s < k)) ⊎ ((w ≡ nr 2 []) × ((t : List ℕ) → p (s ++ t) ≡ bad w))

groups_refused : (c : Refusal) (k : ℕ) (s : List ℕ) (w : Refusal) → groups_of c k s ≡ bad w → Refused (groups_of c k) c k s w
unfolding groups_of group_of
groups_refused c zero s w e = inr (sym (bad_inj e), λ t. e)
groups_refused c (suc k) [] w e = inl (sym (bad_inj e), omega arith)
groups_refused c (suc k) (x ∷ s) w e = top (ltb x 128) refl (groups_of c k s) refl (groups_refused c k s w)
  where
    top : (b : Bool) → ltb x 128 ≡ b → (m : Fit (ℕ × List ℕ)) → groups_of c k s ≡ m → (groups_of c k s ≡ bad w → Refused (groups_of c k) c k s w) → Refused (groups_of c (suc k)) c (suc k) (x ∷ s) w
    top true i m j ih = absurd (bad_got (sym (rw i at e)))
    top false i (got z) j ih = absurd (bad_got (sym (rw (i, j) at e)))
    top false i (bad v) j ih = go (ih (j ∙ rw (i, j) at e))
      where
        go : Refused (groups_of c k) c k s w → Refused (groups_of c (suc k)) c (suc k) (x ∷ s) w
        go (inl (p, l)) = inl (p, omega arith)
        go (inr (p, f)) = inr (p, λ t. rw (i, f t))

-- 02, P8: a spelling that is too long is refused once its last byte is there
num_refused : (c : Refusal) (k : ℕ) (s : List ℕ) (w : Refusal) → num_of c k s ≡ bad w → Refused (num_of c k) c k s w
unfolding num_of only_by_of
num_refused c k s w e = go (groups_of c k s) refl
  where
    go : (m : Fit (ℕ × List ℕ)) → groups_of c k s ≡ m → Refused (num_of c k) c k s w
    go (bad v) j = kept (groups_refused c k s v j)
      where
        kept : Refused (groups_of c k) c k s v → Refused (num_of c k) c k s w
        kept (inl (p, l)) = let i : v ≡ w = bad_inj (rw j at e) in inl (sym i ∙ p, l)
        kept (inr (p, f)) = let i : v ≡ w = bad_inj (rw j at e) in inr (sym i ∙ p, λ t. rw (f t) (ap bad i))
    go (got z) j = short (shortest z.0 (length s - length z.1)) refl
      where
        short : (b : Bool) → shortest z.0 (length s - length z.1) ≡ b → Refused (num_of c k) c k s w
        short true q = absurd (bad_got (sym (rw (j, q) at e)))
        short false q = let i : nr 2 [] ≡ w = bad_inj (rw (j, q) at e) in inr (sym i, λ t. rw (got_stays (reads_groups c k) s z j t, count_stays s z.1 t, q) (ap bad i))

-- ---- the header

over_three : (limit : Option ℕ) (l k : ℕ) (vs : List ℕ) → over limit l ≡ nr k vs → k ≡ 3
unfolding over
over_three none l k vs e = cc
over_three (some m) l k vs e = cc

module _ (limit : Option ℕ) where
  abbrev pub Header : ℕ × ℕ → List ℕ → Type 0
  Header = Then Byte (λ _. OnlyBy (passes limit) Spells)

  pub reads_header : Reads (header_under limit) Header
  unfolding header_under
  reads_header = reads_then (reads_byte (nr 1 (2 ∷ []))) (λ _. reads_length limit)

  -- which is never empty
  pub header_some : (z : ℕ × ℕ) (c : List ℕ) → Header z c → 0 < length c
  header_some _ _ (both byte g) = omega arith

  -- a frame is its header, then whether its bytes are there
  abbrev pub filled : (ℕ × ℕ) × List ℕ → Fit ((ℕ × List ℕ) × List ℕ)
  filled z = guard (leb z.0.1 (length z.1)) (lacking z.0.1 z.1) >> got ((z.0.0, take z.0.1 z.1), drop z.0.1 z.1)

  pub frame_header : (end : ℕ) (s : List ℕ) → frame_of limit end s ≡ (header_under limit s >>= filled)
  unfolding frame_of header_under then_of byte_of sized_of is_fit
  frame_header end [] = refl
  frame_header end (x ∷ t) = go (length_of limit t)
    where
      behind : {A : Type 0} → A × List ℕ → Fit ((ℕ × A) × List ℕ)
      behind z = got ((x, z.0), z.1)

      there : ℕ × List ℕ → Fit (List ℕ × List ℕ)
      there z = guard (leb z.0 (length z.1)) (lacking z.0 z.1) >> got (take z.0 z.1, drop z.0 z.1)

      test : (b : Bool) (k : Refusal) (z : ℕ × List ℕ) → ((guard b k >> got (take z.0 z.1, drop z.0 z.1)) >>= behind) ≡ (guard b k >> got ((x, take z.0 z.1), drop z.0 z.1))
      test true k z = refl
      test false k z = refl

      go : (m : Fit (ℕ × List ℕ)) → ((m >>= there) >>= behind) ≡ ((m >>= behind) >>= filled)
      go (bad k) = refl
      go (got z) = test (leb z.0 (length z.1)) (lacking z.0 z.1) z

  -- a header that is refused lacks bytes, or stays refused whatever follows
  abbrev pub Stays : List ℕ → ℕ → List ℕ → Type 0
  Stays s k vs = (t : List ℕ) → header_under limit (s ++ t) ≡ bad (nr k vs)

  pub header_refused : (s : List ℕ) (k : ℕ) (vs : List ℕ) → header_under limit s ≡ bad (nr k vs) → ((k ≡ 1) × (length s < 5)) ⊎ ((eqb k 1 ≡ false) × Stays s k vs)
  unfolding header_under then_of byte_of only_by_of
  header_refused [] k vs e = inl (cc, omega arith)
  header_refused (x ∷ s) k vs e = go (num_of (nr 1 (1 ∷ [])) 4 s) refl
    where
      go : (m : Fit (ℕ × List ℕ)) → num_of (nr 1 (1 ∷ [])) 4 s ≡ m → ((k ≡ 1) × (length (x ∷ s) < 5)) ⊎ ((eqb k 1 ≡ false) × Stays (x ∷ s) k vs)
      go (bad w) j = kept (num_refused (nr 1 (1 ∷ [])) 4 s w j)
        where
          kept : Refused (num_of (nr 1 (1 ∷ [])) 4) (nr 1 (1 ∷ [])) 4 s w → ((k ≡ 1) × (length (x ∷ s) < 5)) ⊎ ((eqb k 1 ≡ false) × Stays (x ∷ s) k vs)
          kept (inl (p, l)) = let i : w ≡ nr k vs = bad_inj (rw j at e) in inl (cc, omega arith)
          kept (inr (p, f)) =
              let i : w ≡ nr k vs = bad_inj (rw j at e) in
              let n : k ≡ 2 = cc in
              inr (rw n refl, λ t. rw (f t, i))
      go (got z) j = under (passes limit z.0 (length s - length z.1)) refl
        where
          under : (b : Bool) → passes limit z.0 (length s - length z.1) ≡ b → ((k ≡ 1) × (length (x ∷ s) < 5)) ⊎ ((eqb k 1 ≡ false) × Stays (x ∷ s) k vs)
          under true w = absurd (bad_got (sym (rw (j, w) at e)))
          under false w =
              let i : exceeds limit z.0 (length s - length z.1) ≡ nr k vs = bad_inj (rw (j, w) at e) in
              let n : k ≡ 3 = over_three limit _ k vs i in
              inr (rw n refl, λ t. rw (got_stays (reads_num (nr 1 (1 ∷ [])) 4) s z j t, count_stays s z.1 t, w) (ap bad i))
