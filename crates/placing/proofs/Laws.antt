-- What a reader of places reads stands where it says: one law for each way to build a reader. The bytes s end at index `end` of the stream, so
-- that end less their length is how many come before them. Assumes nothing.
use mathlib.Core.Path.{◌≡◌, sym, ap, ◌∙◌, subst}
use mathlib.Core.Bool.{Bool, true}
use mathlib.Core.List.{List, [], ◌∷◌, ◌++◌, append_assoc, append-nil}
use Prim.Native.Nat.{ℕ, ◌+◌, ◌-◌, ◌≤◌}
use native.Mathlib.Omega.{arith}
use lib.ListN.{length, take, drop, length-append, take-append-drop}
use lib.Seq.{length-take-le}
use lib.Dec.{leb, leb→le}
use mathlib.Core.Logic.{◌↔◌}
use Rattle.grammar.specs.Choice.{is_empty}
use Rattle.grammar.specs.Gram.{Gram, Map, mapped, is, forget}
use Rattle.reading.specs.Refusal.{Refusal}
use Rattle.reading.specs.Reader.{got, Reader, Filler, ◌>>=◌, ◌>>◌, guard, map_of, then_of, sized_of, is_fit, map_fit, hand_fit, only_fit, then_fit, exact_fit, run_fit, chain_fit, many_fit}
use Rattle.reading.specs.Read.{string_fit}
use Rattle.reading.specs.Place.{Span, span_of, as_places}
use Rattle.reading.proofs.Lists.{T_of, nil_of}
use Rattle.reading.proofs.Reading.{bad_got, from_got, from_bind, from_guard, Cut, Reads, Fills}
use Rattle.placing.specs.Placing.{GramAt, ThenAt, both, SizedAt, sized, ManyAt, done, more, HandedAt, handed, StringAt}

-- what is read of s stands behind what comes before s
pub record SplitsAt {A : Type 0} (p : ℕ → Reader A) (G : GramAt A) : Type 0 where
  pub split : (end : ℕ) (s : List ℕ) → length s ≤ end → (z : A × List ℕ) → p end s ≡ got z → Cut (G (end - length s)) s z

-- the same of what fills s
pub record FillsAt {A : Type 0} (q : ℕ → Filler A) (G : GramAt A) : Type 0 where
  pub back : (end : ℕ) (s : List ℕ) → length s ≤ end → (a : A) → q end s ≡ got a → G (end - length s) a s

pub splits_plain : {A : Type 0} {p : Reader A} {G : Gram A} → Reads p G → SplitsAt (λ _. p) (λ _. G)
splits_plain R = record { split = λ end s h z e. R.split s z e }

pub fills_plain : {A : Type 0} {q : Filler A} {G : Gram A} → Fills q G → FillsAt (λ _. q) (λ _. G)
fills_plain F = record { back = λ end s h a e. F.back s a e }

-- what comes behind b comes behind so many more
further : (end : ℕ) (s b r : List ℕ) → s ≡ b ++ r → length s ≤ end → (length r ≤ end) × (end - length r ≡ end - length s + length b)
further end s b r e h = (omega (arith, ap length e, length-append b r), omega (arith, ap length e, length-append b r))

module _ {A B : Type 0} {p : ℕ → Reader A} {G : GramAt A} (f : A → B) (R : SplitsAt p G) where
  pub splits_map : SplitsAt (λ end. map_of f (p end)) (λ at. Map f (G at))
  unfolding map_of
  splits_map = record {
    split = λ end s h. from_bind (p end s) (λ y. got (f y.0, y.1)) λ y e.
        let (b, e₁, g) = R.split end s h y e in
        from_got (Cut (Map f (G (end - length s))) s) (f y.0, y.1) (b, e₁, mapped g);
  }

module _ {A B : Type 0} {p : ℕ → Reader A} {q : A → ℕ → Reader B} {G : GramAt A} {H : A → GramAt B} (R : SplitsAt p G) (S : (a : A) → SplitsAt (q a) (H a)) where
  pub splits_then : SplitsAt (λ end. then_of (p end) (λ a. q a end)) (ThenAt G H)
  unfolding then_of
  splits_then = record {
    split = λ end s h. from_bind (p end s) (λ y. q y.0 end y.1 >>= λ w. got ((y.0, w.0), w.1)) λ y e.
        let (b, e₁, g) = R.split end s h y e in
        let (l, n) = further end s b y.1 e₁ h in
        from_bind (q y.0 end y.1) (λ w. got ((y.0, w.0), w.1)) λ w e₂.
        let (d, e₃, k) = (S y.0).split end y.1 l w e₂ in
        from_got (Cut (ThenAt G H (end - length s)) s) ((y.0, w.0), w.1)
        (b ++ d, e₁ ∙ ap (λ (i : List ℕ). b ++ i) e₃ ∙ sym (append_assoc b d w.1), both g (subst (λ (m : ℕ). H y.0 m w.0 d) n k));
  }

module _ {A B : Type 0} {p : ℕ → Reader A} {q : A → ℕ → Filler B} {G : GramAt A} {H : A → GramAt B} (R : SplitsAt p G) (S : (a : A) → FillsAt (q a) (H a)) where
  pub fills_then : FillsAt (λ end. then_fit (p end) (λ a. q a end)) (ThenAt G H)
  unfolding then_fit
  fills_then = record {
    back = λ end s h. from_bind (p end s) (λ y. q y.0 end y.1 >>= λ w. got (y.0, w)) λ y e.
        let (b, e₁, g) = R.split end s h y e in
        let (l, n) = further end s b y.1 e₁ h in
        from_bind (q y.0 end y.1) (λ w. got (y.0, w)) λ w e₂.
        from_got (λ z. ThenAt G H (end - length s) z s) (y.0, w)
        (subst (λ (t : List ℕ). ThenAt G H (end - length s) (y.0, w) t) (sym e₁) (both g (subst (λ (m : ℕ). H y.0 m w y.1) n ((S y.0).back end y.1 l w e₂))));
  }

module _ {A : Type 0} {n : Reader ℕ} {N : Gram ℕ} {q : ℕ → Filler A} {H : GramAt A} (k : ℕ → List ℕ → Refusal) (R : Reads n N) (S : FillsAt q H) where
  pub splits_sized : SplitsAt (sized_of n k q) (SizedAt N H)
  unfolding sized_of
  splits_sized = record {
    split = λ end s h. from_bind (n s) (λ x. guard (leb x.0 (length x.1)) (k x.0 x.1) >> (q (end - length (drop x.0 x.1)) (take x.0 x.1) >>= λ a. got (a, drop x.0 x.1))) λ x e.
        from_guard (leb x.0 (length x.1)) (k x.0 x.1) (q (end - length (drop x.0 x.1)) (take x.0 x.1) >>= λ a. got (a, drop x.0 x.1)) λ t.
        from_bind (q (end - length (drop x.0 x.1)) (take x.0 x.1)) (λ a. got (a, drop x.0 x.1)) λ a e'.
        let (c, e₁, l) = R.split s x e in
        let b : List ℕ = take x.0 x.1 in
        let d : List ℕ = drop x.0 x.1 in
        let m : length b ≡ x.0 = length-take-le x.0 x.1 (leb→le x.0 (length x.1) (T_of (leb x.0 (length x.1)) t)) in
        let j : b ++ d ≡ x.1 = take-append-drop x.0 x.1 in
        let o : length s ≡ length c + (length b + length d) = ap length e₁ ∙ length-append c x.1 ∙ ap (λ (i : ℕ). length c + i) (ap length (sym j) ∙ length-append b d) in
        let g = S.back (end - length d) b (omega arith) a e' in
        let u : end - length d - length b ≡ end - length s + length c = omega arith in
        from_got (Cut (SizedAt N H (end - length s)) s) (a, d)
        (c ++ b, rw (append_assoc, take-append-drop x.0 x.1) e₁, sized {c = c} (rw m l) (subst (λ (i : ℕ). H i a b) u g));
  }

module _ {A B : Type 0} {q : ℕ → Filler A} {G : GramAt A} (f : A → B) (S : FillsAt q G) where
  pub fills_map : FillsAt (λ end. map_fit f (q end)) (λ at. Map f (G at))
  unfolding map_fit
  fills_map = record {
    back = λ end s h. from_bind (q end s) (λ a. got (f a)) λ a e. from_got (λ z. Map f (G (end - length s)) z s) (f a) (mapped (S.back end s h a e));
  }

-- the place of what fills s is counted from the end here, and from the front there
module _ {A B : Type 0} {q : ℕ → Filler A} {G : GramAt A} (f : A → Span → B) (S : FillsAt q G) where
  pub fills_hand : FillsAt (hand_fit (λ a b end. f a (span_of b end)) q) (HandedAt f G)
  unfolding hand_fit
  fills_hand = record {
    back = λ end s h. from_bind (q end s) (λ a. got (f a (span_of s end))) λ a e. from_got (λ z. HandedAt f G (end - length s) z s) (f a (span_of s end)) (handed (S.back end s h a e));
  }

pub fills_string : (t : List ℕ → Bool) (P : List ℕ → Type 0) (c : Refusal) → ((b : List ℕ) → (t b ≡ true) ↔ P b) → FillsAt (string_fit as_places t c) (StringAt P)
unfolding string_fit hand_fit is_fit
fills_string t P c D = record {
  back = λ end s h. from_bind (guard (t s) c >> got s) (λ b. got (span_of b end)) λ b e z e'.
      from_guard (t s) c (got s) (λ i v j. from_got (λ w. got (span_of w end) ≡ got z → StringAt P (end - length s) z s) s (λ k. from_got (λ w. StringAt P (end - length s) w s) (span_of s end) (handed (is ((D s).0 i))) z k) v j) b e e';
}

-- one after the other
module _ {A : Type 0} {p : ℕ → Reader A} {G : GramAt A} (R : SplitsAt p G) (end : ℕ) where
  run_at : (f s : List ℕ) → length s ≤ end → (vs : List A) → run_fit forget (λ _. p end) tt f s ≡ got vs → ManyAt G (end - length s) vs s
  unfolding run_fit
  run_at [] [] h = from_got (λ vs. ManyAt G (end - 0) vs []) [] done
  run_at [] (x ∷ s) h = λ vs e. absurd (bad_got e)
  run_at (y ∷ f) [] h = from_got (λ vs. ManyAt G (end - 0) vs []) [] done
  run_at (y ∷ f) (x ∷ s) h = from_bind (p end (x ∷ s)) (λ u. run_fit forget (λ _. p end) tt f u.1 >>= λ vs. got (u.0 ∷ vs)) λ u i.
      let (b, e, g) = R.split end (x ∷ s) h u i in
      let (l, n) = further end (x ∷ s) b u.1 e h in
      from_bind (run_fit forget (λ _. p end) tt f u.1) (λ vs. got (u.0 ∷ vs)) λ vs j.
      from_got (λ ws. ManyAt G (end - length (x ∷ s)) ws (x ∷ s)) (u.0 ∷ vs)
      (subst (λ (t : List ℕ). ManyAt G (end - length (x ∷ s)) (u.0 ∷ vs) t) (sym e) (more g (subst (λ (m : ℕ). ManyAt G m vs u.1) n (run_at f u.1 l vs j))))

pub fills_many : {A : Type 0} {p : ℕ → Reader A} {G : GramAt A} → SplitsAt p G → FillsAt (λ end. many_fit (p end)) (ManyAt G)
unfolding chain_fit
fills_many R = record {
  back = λ end s h vs e. run_at R end s s h vs e;
}

pub fills_only : {A : Type 0} {q : ℕ → Filler A} {G : GramAt A} (t : A → Bool) (k : Refusal) → FillsAt q G → FillsAt (λ end. only_fit t k (q end)) G
unfolding only_fit
fills_only {q = q} {G = G} t k S = record {
  back = λ end s h. from_bind (q end s) (λ a. guard (t a) k >> got a) λ a e.
      from_guard (t a) k (got a) λ _. from_got (λ z. G (end - length s) z s) a (S.back end s h a e);
}

pub fills_exact : {A : Type 0} {p : ℕ → Reader A} {G : GramAt A} (c : Refusal) → SplitsAt p G → FillsAt (λ end. exact_fit (p end) c) G
unfolding exact_fit
fills_exact {p = p} {G = G} c R = record {
  back = λ end s h. from_bind (p end s) (λ y. guard (is_empty y.1) c >> got y.0) λ y e.
      from_guard (is_empty y.1) c (got y.0) λ t.
      let (b, e₁, g) = R.split end s h y e in
      let i : s ≡ b = e₁ ∙ ap (λ (l : List ℕ). b ++ l) (nil_of y.1 t) ∙ append-nil b in
      from_got (λ z. G (end - length s) z s) y.0 (subst (λ (l : List ℕ). G (end - length s) y.0 l) (sym i) g);
}
