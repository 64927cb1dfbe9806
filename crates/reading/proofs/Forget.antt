-- Two readers that differ only in what they hand back: one law for each way to build a reader. Assumes nothing.
use mathlib.Core.Path.{◌≡◌, refl, sym, ap, ◌∙◌, subst}
use mathlib.Core.Bool.{Bool, true, false}
use mathlib.Core.List.{List, [], ◌∷◌, ◌++◌, map, append_assoc}
use Prim.Native.Nat.{ℕ, ◌+◌, ◌-◌, ◌≤◌}
use native.Mathlib.Omega.{arith}
use lib.Dec.{leb, leb→le}
use lib.ListN.{length, take, drop, length-append, take-append-drop}
use lib.Seq.{take-append_seam, drop_at}
use borrow.Author.Tests.{le-leb}
use Rattle.grammar.specs.Choice.{is_empty}
use Rattle.grammar.specs.Gram.{Gram, forget}
use Rattle.reading.specs.Refusal.{Refusal}
use Rattle.reading.specs.Reader.{Fit, got, bad, Reader, Filler, ◌>>=◌, ◌>>◌, guard, map_of, head_of, then_of, sized_of, map_fit, hand_fit, only_fit, then_fit, exact_fit, run_fit, chain_fit, many_fit}
use Rattle.reading.specs.Place.{span_of, part_of, held_of}
use Rattle.reading.proofs.Lists.{T_of}
use Rattle.reading.proofs.Reading.{Reads}

-- ---- two answers: the same refusal, or values that R relates

pub data Like {A B : Type 0} (R : A → B → Type 0) : Fit A → Fit B → Type 0 where
  gots : {a : A} {b : B} → R a b → Like R (got a) (got b)
  bads : {k : Refusal} → Like R (bad k) (bad k)

-- the second value is the first, seen through f
abbrev pub Via : {A B : Type 0} → (A → B) → A → B → Type 0
Via f a b = f a ≡ b

-- the second value is what f reads of the first
abbrev pub Reading : {A B : Type 0} → (A → Fit B) → A → B → Type 0
Reading f a b = f a ≡ got b

-- both of a pair
abbrev pub Both : {A B C D : Type 0} → (A → B → Type 0) → (C → D → Type 0) → A × C → B × D → Type 0
Both R Q z z' = R z.0 z'.0 × Q z.1 z'.1

-- the same rest is left
abbrev pub First : {A B : Type 0} → (A → B → Type 0) → A × List ℕ → B × List ℕ → Type 0
First R = Both R (Via (λ r. r))

module _ {A B : Type 0} {R : A → B → Type 0} where
  pub like_got : (m : Fit A) (m' : Fit B) (a : A) → Like R m m' → m ≡ got a → (b : B) × (m' ≡ got b) × R a b
  like_got _ _ a (gots {a = a'} {b = b} r) i = let j : a' ≡ a = cc in (b, refl, subst (λ (x : A). R x b) j r)
  like_got _ _ a bads i = let z : ◌≡◌ {A = ℕ} 0 1 = cc in absurd (omega arith)

  pub like_bind : {C D : Type 0} {Q : C → D → Type 0} (m : Fit A) (m' : Fit B) (k : A → Fit C) (k' : B → Fit D) → Like R m m'
      → ((a : A) (b : B) → m ≡ got a → m' ≡ got b → R a b → Like Q (k a) (k' b)) → Like Q (m >>= k) (m' >>= k')
  like_bind _ _ k k' (gots {a = a} {b = b} r) h = h a b refl refl r
  like_bind _ _ k k' bads h = bads

  pub like_guard : (t : Bool) (c : Refusal) (m : Fit A) (m' : Fit B) → (t ≡ true → Like R m m') → Like R (guard t c >> m) (guard t c >> m')
  like_guard true c m m' h = h refl
  like_guard false c m m' h = bads

-- a value seen through f is the other answer
pub like_is : {A B : Type 0} {f : A → B} (m : Fit A) (m' : Fit B) (g : Fit A → Fit B) → ((a : A) → g (got a) ≡ got (f a)) → ((k : Refusal) → g (bad k) ≡ bad k) → Like (Via f) m m' → g m ≡ m'
like_is _ _ g x y (gots {a = a} e) = x a ∙ ap got e
like_is _ _ g x y (bads {k = k}) = y k

-- an answer beside itself
like_self : {A : Type 0} {R : A → A → Type 0} → ((a : A) → R a a) → (m : Fit A) → Like R m m
like_self r (got a) = gots (r a)
like_self r (bad k) = bads

-- ---- where a list stands in the stream s: it ends at index `end`

pub record Stands (s : List ℕ) (end : ℕ) (l : List ℕ) : Type 0 where
  pub before : List ℕ
  pub after : List ℕ
  pub whole : s ≡ before ++ (l ++ after)
  pub stop : end ≡ length before + length l

module _ {s : List ℕ} {end : ℕ} where
  pub stands_rest : (l b r : List ℕ) → l ≡ b ++ r → Stands s end l → Stands s end r
  stands_rest l b r e w = record {
    before = w.before ++ b;
    after = w.after;
    whole = w.whole ∙ rw (e, append_assoc b r w.after, append_assoc w.before b (r ++ w.after));
    stop = w.stop ∙ rw (e, length-append b r, length-append w.before b) (omega arith);
  }

  stands_part : (n : ℕ) (r : List ℕ) → n ≤ length r → Stands s end r → Stands s (end - length (drop n r)) (take n r)
  stands_part n r h w =
      let e : take n r ++ drop n r ≡ r = take-append-drop n r in
      let l : length (take n r) + length (drop n r) ≡ length r = sym (length-append (take n r) (drop n r)) ∙ ap length e in
      record {
        before = w.before;
        after = drop n r ++ w.after;
        whole = w.whole ∙ rw (← append_assoc (take n r) (drop n r) w.after, e);
        stop = omega (arith, l, w.stop);
      }

  pub stands_within : (l : List ℕ) → Stands s end l → (end ≤ length s) × (end - length l + length l ≡ end)
  stands_within l w =
      (omega (arith, w.stop, ap length w.whole, length-append w.before (l ++ w.after), length-append l w.after), omega (arith, w.stop))

  -- its span leads back to it
  pub stands_span : (l : List ℕ) → Stands s end l → part_of s (span_of l end) ≡ l
  stands_span l w =
      let i : length w.before ≡ end - length l = omega (arith, w.stop) in
      rw (w.whole, drop_at w.before (l ++ w.after) (end - length l) i, take-append_seam l w.after)

  pub stands_held : (l : List ℕ) → Stands s end l → held_of s (span_of l end) ≡ l
  unfolding held_of
  stands_held l w =
      let (h, i) = stands_within l w in
      rw (i, le-leb end (length s) h) (stands_span l w)

-- ---- readers and fillers of lists that end at `end` of s, whose values R relates

pub record Forgets {A B : Type 0} (s : List ℕ) (end : ℕ) (R : A → B → Type 0) (p : Reader A) (p' : Reader B) : Type 0 where
  pub like : (l : List ℕ) → Stands s end l → Like (First R) (p l) (p' l)

pub record Drops {A B : Type 0} (s : List ℕ) (end : ℕ) (R : A → B → Type 0) (q : Filler A) (q' : Filler B) : Type 0 where
  pub like : (l : List ℕ) → Stands s end l → Like R (q l) (q' l)

module _ {s : List ℕ} {end : ℕ} where
  pub forgets_same : {A : Type 0} (p : Reader A) → Forgets s end (Via (λ v. v)) p p
  forgets_same p = record { like = λ l w. like_self (λ z. (refl, refl)) (p l) }

  pub drops_same : {A : Type 0} (q : Filler A) → Drops s end (Via (λ v. v)) q q
  drops_same q = record { like = λ l w. like_self (λ v. refl) (q l) }

  module _ {A A' : Type 0} {R : A → A' → Type 0} {p : Reader A} {p' : Reader A'} (F : Forgets s end R p p') where
    pub forgets_map : {B B' : Type 0} {Q : B → B' → Type 0} (g : A → B) (g' : A' → B') → ((a : A) (b : A') → R a b → Q (g a) (g' b)) → Forgets s end Q (map_of g p) (map_of g' p')
    unfolding map_of
    forgets_map g g' e = record { like = λ l w. like_bind (p l) (p' l) _ _ (F.like l w) λ x y i j r. gots (e x.0 y.0 r.0, r.1) }

    pub drops_exact : (c : Refusal) → Drops s end R (exact_fit p c) (exact_fit p' c)
    unfolding exact_fit
    drops_exact c = record {
      like = λ l w. like_bind (p l) (p' l) _ _ (F.like l w) λ x y i j r.
          rw r.1 (like_guard (is_empty y.1) c (got x.0) (got y.0) λ _. gots r.0);
    }

    module _ {G : Gram A'} (T : Reads p' G) where
      -- what is left stands there too
      left : (l : List ℕ) (y : A' × List ℕ) → Stands s end l → p' l ≡ got y → Stands s end y.1
      left l y w j = let (b, e, g) = T.split l y j in stands_rest l b y.1 e w

      -- p, then q at what is left; c joins what they say
      then_like : {B B' C C' : Type 0} {Q : B → B' → Type 0} {S : C → C' → Type 0} (q : A → Filler B) (q' : A' → Filler B') (c : A → B → C) (c' : A' → B' → C')
          → ((a : A) (b : A') → R a b → (l : List ℕ) → Stands s end l → Like Q (q a l) (q' b l)) → ((a : A) (b : A') (u : B) (v : B') → R a b → Q u v → S (c a u) (c' b v))
          → (l : List ℕ) → Stands s end l → Like S (p l >>= λ x. q x.0 x.1 >>= λ u. got (c x.0 u)) (p' l >>= λ y. q' y.0 y.1 >>= λ v. got (c' y.0 v))
      then_like q q' c c' h t l w = like_bind (p l) (p' l) _ _ (F.like l w) λ x y i j r.
          rw r.1 (like_bind (q x.0 y.1) (q' y.0 y.1) _ _ (h x.0 y.0 r.0 y.1 (left l y w j)) λ u v _ _ k. gots (t x.0 y.0 u v r.0 k))

      pub forgets_then : {B B' : Type 0} {Q : B → B' → Type 0} {q : Reader B} {q' : Reader B'} → Forgets s end Q q q'
          → Forgets s end (Both R Q) (then_of p (λ _. q)) (then_of p' (λ _. q'))
      unfolding then_of
      forgets_then {q = q} {q' = q'} H = record { like = then_like (λ _. q) (λ _. q') (λ a u. ((a, u.0), u.1)) (λ b v. ((b, v.0), v.1)) (λ _ _ _. H.like) (λ a b u v r h. ((r, h.0), h.1)) }

      pub drops_then : {B B' : Type 0} {Q : B → B' → Type 0} {q : Filler B} {q' : Filler B'} → Drops s end Q q q'
          → Drops s end (Both R Q) (then_fit p (λ _. q)) (then_fit p' (λ _. q'))
      unfolding then_fit
      drops_then {q = q} {q' = q'} H = record { like = then_like (λ _. q) (λ _. q') (λ a u. (a, u)) (λ b v. (b, v)) (λ _ _ _. H.like) (λ a b u v r h. (r, h)) }

  -- one after the other, where both sum up the same
  module _ {S A A' : Type 0} {f : A → A'} (step : S → A → S) (step' : S → A' → S) {p : S → Reader A} {p' : S → Reader A'}
      (E : (σ : S) (a : A) → step σ a ≡ step' σ (f a)) (F : (σ : S) → Forgets s end (Via f) (p σ) (p' σ)) {G : S → Gram A'} (T : (σ : S) → Reads (p' σ) (G σ)) where
    run_like : (σ : S) (φ l : List ℕ) → Stands s end l → Like (Via (map f)) (run_fit step p σ φ l) (run_fit step' p' σ φ l)
    unfolding run_fit
    run_like σ [] [] w = gots refl
    run_like σ [] (x ∷ l) w = bads
    run_like σ (y ∷ φ) [] w = gots refl
    run_like σ (y ∷ φ) (x ∷ l) w = like_bind (p σ (x ∷ l)) (p' σ (x ∷ l)) _ _ ((F σ).like (x ∷ l) w) λ u v i j r.
        let n : step σ u.0 ≡ step' σ v.0 = E σ u.0 ∙ ap (step' σ) r.0 in
        rw (n, r.1) (like_bind (run_fit step p (step' σ v.0) φ v.1) (run_fit step' p' (step' σ v.0) φ v.1) _ _ (run_like (step' σ v.0) φ v.1 (left (F σ) (T σ) (x ∷ l) v w j)) λ us vs _ _ h.
        gots (rw (r.0, h)))

    pub drops_chain : (σ : S) → Drops s end (Via (map f)) (chain_fit step p σ) (chain_fit step' p' σ)
    unfolding chain_fit
    drops_chain σ = record { like = λ l w. run_like σ l l w }

  pub drops_many : {A A' : Type 0} {f : A → A'} {p : Reader A} {p' : Reader A'} → Forgets s end (Via f) p p' → {G : Gram A'} → Reads p' G → Drops s end (Via (map f)) (many_fit p) (many_fit p')
  drops_many F T = drops_chain forget forget (λ _ _. refl) (λ _. F) (λ _. T) tt

  pub forgets_head : {A A' : Type 0} {R : A → A' → Type 0} {p : Reader A} {p' : Reader A'} → Forgets s end R p p' → (t : ℕ → Bool) (k : ℕ → Refusal) → Forgets s end R (head_of t k p) (head_of t k p')
  unfolding head_of
  forgets_head {R = R} {p = p} {p' = p'} F t k = record { like = go }
    where
      go : (l : List ℕ) → Stands s end l → Like (First R) (head_of t k p l) (head_of t k p' l)
      go [] w = F.like [] w
      go (i ∷ l) w = like_guard (t i) (k i) (p (i ∷ l)) (p' (i ∷ l)) λ _. F.like (i ∷ l) w

  module _ {A A' : Type 0} {R : A → A' → Type 0} {q : Filler A} {q' : Filler A'} (F : Drops s end R q q') where
    pub drops_map : {B B' : Type 0} {Q : B → B' → Type 0} (g : A → B) (g' : A' → B') → ((a : A) (b : A') → R a b → Q (g a) (g' b)) → Drops s end Q (map_fit g q) (map_fit g' q')
    unfolding map_fit
    drops_map g g' e = record { like = λ l w. like_bind (q l) (q' l) _ _ (F.like l w) λ a b i j r. gots (e a b r) }

    pub drops_only : (t : A → Bool) (t' : A' → Bool) (k : Refusal) → ((a : A) (b : A') → R a b → t a ≡ t' b) → Drops s end R (only_fit t k q) (only_fit t' k q')
    unfolding only_fit
    drops_only t t' k e = record { like = λ l w. like_bind (q l) (q' l) _ _ (F.like l w) λ a b i j r. rw (e a b r) (like_guard (t' b) k (got a) (got b) λ _. gots r) }

module _ {s : List ℕ} {A A' : Type 0} {R : A → A' → Type 0} {q : ℕ → Filler A} {q' : ℕ → Filler A'} (H : (e : ℕ) → Drops s e R (q e) (q' e)) (end : ℕ) where
  -- Q relates what g and g' hand back
  pub drops_hand : {B B' : Type 0} (Q : B → B' → Type 0) (g : A → List ℕ → ℕ → B) (g' : A' → List ℕ → ℕ → B')
      → ((a : A) (a' : A') (b : List ℕ) → Stands s end b → q' end b ≡ got a' → R a a' → Q (g a b end) (g' a' b end)) → Drops s end Q (hand_fit g q end) (hand_fit g' q' end)
  unfolding hand_fit
  drops_hand Q g g' e = record { like = λ l w. like_bind (q end l) (q' end l) _ _ ((H end).like l w) λ a a' i j r. gots (e a a' l w j r) }

  -- a length, and what fills as many bytes: these end elsewhere
  pub forgets_sized : {n : Reader ℕ} {N : Gram ℕ} (k : ℕ → List ℕ → Refusal) → Reads n N → Forgets s end R (sized_of n k q end) (sized_of n k q' end)
  unfolding sized_of
  forgets_sized {n = n} k T = record {
    like = λ l w. like_bind (n l) (n l) _ _ ((forgets_same n).like l w) λ x y i j r.
        rw (r.0, r.1) (like_guard (leb y.0 (length y.1)) (k y.0 y.1) _ _ λ t.
        let end' = end - length (drop y.0 y.1) in
        let b = take y.0 y.1 in
        let m = leb→le y.0 (length y.1) (T_of (leb y.0 (length y.1)) t) in
        like_bind (q end' b) (q' end' b) _ _ ((H end').like b (stands_part y.0 y.1 m (left (forgets_same n) T l y w j))) λ a a' _ _ h. gots (h, refl));
  }
