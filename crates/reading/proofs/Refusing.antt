-- When a reader refuses: just where its bytes have the fault, and with that refusal. One law for each way to build a reader. Assumes nothing.
use mathlib.Core.Path.{◌≡◌, refl, sym, ◌∙◌, subst}
use mathlib.Core.Bool.{Bool, true, false, false≢true}
use mathlib.Core.Logic.{◌↔◌}
use mathlib.Core.List.{List, [], ◌∷◌, ◌++◌}
use Prim.Native.Nat.{ℕ, zero, suc, ◌-◌, ◌≤◌, ◌<◌}
use native.Mathlib.Omega.{arith}
use lib.Dec.{leb, ltb, leb→le}
use lib.ListN.{length, take, drop, length-append, take-append-drop}
use lib.Seq.{take-append_seam, drop-append_seam, length-take-le}
use borrow.Author.Tests.{le-leb, lt-leb, leb-false, ltb-false, le-ltb}
use Rattle.grammar.specs.Choice.{is_empty}
use Rattle.grammar.specs.Gram.{Gram, forget, Solid}
use Rattle.reading.specs.Refusal.{Refusal, nr}
use Rattle.reading.specs.Fault.{Fault, Sound, OnlyFault, under, fails, OnlyByFault, under_by, fails_by, ThenFault, first, second, SizedFault, sizes, crosses, fills, ChainFault, ManyFault, now, later, HeadFault, no_head, head, behind, ExactFault, before, follows, IsFault, isnt, ByteFault, no_byte, BigFault, fewer, Tops, no_tops, a_top, GroupsFault, endless, long}
use Rattle.reading.specs.Reader.{Fit, got, bad, Reader, Filler, ◌>>=◌, ◌>>◌, guard, none_of, map_of, only_of, only_by_of, head_of, then_of, sized_of, is_fit, map_fit, hand_fit, then_fit, exact_fit, run_fit, chain_fit, many_fit}
use Rattle.reading.specs.Read.{big_of, byte_of, group_of, groups_of}
use Rattle.reading.proofs.Lists.{T_of}
use Rattle.reading.proofs.Reading.{bad_got, Reads, less, count_front}

-- ---- taking a refusal apart

pub got_bad : {A C : Type 0} {a : A} {k : Refusal} → got a ≡ bad k → C
got_bad e = absurd (bad_got (sym e))

pub of_bind : {A B C : Type 0} (m : Fit A) (f : A → Fit B) (k : Refusal) → (m ≡ bad k → C) → ((a : A) → m ≡ got a → f a ≡ bad k → C) → (m >>= f) ≡ bad k → C
of_bind (got a) f k x y e = y a refl e
of_bind (bad c) f k x y e = x (cc)

pub of_guard : {B C : Type 0} (t : Bool) (c : Refusal) (m : Fit B) (k : Refusal) → (t ≡ false → c ≡ k → C) → (t ≡ true → m ≡ bad k → C) → (guard t c >> m) ≡ bad k → C
of_guard true c m k x y e = y refl e
of_guard false c m k x y e = x refl (cc)

-- ---- what a reader, or a filler, that refuses has to do

pub record RefusesBy {B : Type 0} (p : List ℕ → Fit B) (F : Fault) : Type 0 where
  pub fault : (s : List ℕ) (k : Refusal) → p s ≡ bad k → F s k
  pub refuse : (s : List ℕ) (k : Refusal) → F s k → p s ≡ bad k

-- ---- numbers

module _ (c : Refusal) where
  byte_fault : (s : List ℕ) (k : Refusal) → byte_of c s ≡ bad k → ByteFault c s k
  unfolding byte_of
  byte_fault [] k e = subst (ByteFault c []) (cc) no_byte
  byte_fault (x ∷ s) k e = got_bad e

  byte_refuse : (s : List ℕ) (k : Refusal) → ByteFault c s k → byte_of c s ≡ bad k
  unfolding byte_of
  byte_refuse _ _ no_byte = refl

  pub refuses_byte : RefusesBy (byte_of c) (ByteFault c)
  refuses_byte = record { fault = byte_fault; refuse = byte_refuse }

  module _ (n : ℕ) where
    big_fault : (s : List ℕ) (k : Refusal) → big_of c n s ≡ bad k → BigFault c n s k
    unfolding big_of
    big_fault s k = of_guard (leb n (length s)) c _ k (λ h i. subst (BigFault c n s) i (fewer (leb-false n (length s) h))) (λ _ e. got_bad e)

    big_refuse : (s : List ℕ) (k : Refusal) → BigFault c n s k → big_of c n s ≡ bad k
    unfolding big_of
    big_refuse s _ (fewer h) = rw (lt-leb n (length s) h)

    pub refuses_big : RefusesBy (big_of c n) (BigFault c n)
    refuses_big = record { fault = big_fault; refuse = big_refuse }

  -- a byte with its top bit set before a fault
  more : (n x : ℕ) (s : List ℕ) (k : Refusal) → 128 ≤ x → GroupsFault c n s k → GroupsFault c (suc n) (x ∷ s) k
  more n x _ _ h (endless t l) = endless (a_top h t) (omega arith)
  more n x _ _ h (long r t l) = long r (a_top h t) (omega arith)

  groups_step : (n x : ℕ) (s : List ℕ) (k : Refusal) → (groups_of c n s ≡ bad k → GroupsFault c n s k) → (t : Bool) → ltb x 128 ≡ t → group_of t x s (groups_of c n s) ≡ bad k → GroupsFault c (suc n) (x ∷ s) k
  unfolding group_of
  groups_step n x s k ih true h e = got_bad e
  groups_step n x s k ih false h e = of_bind (groups_of c n s) _ k (λ e'. more n x s k (ltb-false x 128 h) (ih e')) (λ y e' e''. got_bad e'') e

  groups_fault : (n : ℕ) (s : List ℕ) (k : Refusal) → groups_of c n s ≡ bad k → GroupsFault c n s k
  unfolding groups_of
  groups_fault zero s k e = subst (GroupsFault c zero s) (cc) (long s no_tops refl)
  groups_fault (suc n) [] k e = subst (GroupsFault c (suc n) []) (cc) (endless no_tops (omega arith))
  groups_fault (suc n) (x ∷ s) k e = groups_step n x s k (groups_fault n s k) (ltb x 128) refl e

  tops_end : (n : ℕ) (s : List ℕ) → Tops s → length s < n → groups_of c n s ≡ bad c
  unfolding groups_of group_of
  tops_end zero s t h = absurd (omega arith)
  tops_end (suc n) _ no_tops h = refl
  tops_end (suc n) _ (a_top {x = x} {b = b} g t) h = rw (le-ltb x 128 g, tops_end n b t (omega arith))

  tops_long : (n : ℕ) (b r : List ℕ) → Tops b → length b ≡ n → groups_of c n (b ++ r) ≡ bad (nr 2 [])
  unfolding groups_of group_of
  tops_long zero _ r no_tops h = refl
  tops_long (suc n) _ r no_tops h = absurd (omega arith)
  tops_long zero _ r (a_top g t) h = absurd (omega arith)
  tops_long (suc n) _ r (a_top {x = x} {b = b} g t) h = rw (le-ltb x 128 g, tops_long n b r t (omega arith))

  groups_refuse : (n : ℕ) (s : List ℕ) (k : Refusal) → GroupsFault c n s k → groups_of c n s ≡ bad k
  groups_refuse n s _ (endless t h) = tops_end n s t h
  groups_refuse n _ _ (long {b = b} r t h) = tops_long n b r t h

  pub refuses_groups : (n : ℕ) → RefusesBy (groups_of c n) (GroupsFault c n)
  refuses_groups n = record { fault = groups_fault n; refuse = groups_refuse n }

-- ---- readers

pub refuses_none : {A : Type 0} (a : A) → RefusesBy (none_of a) Sound
unfolding none_of
refuses_none a = record { fault = λ s k e. got_bad e; refuse = λ s k f. elim f [ ] }

-- what is made of a value that was read refuses nothing
module _ {A B : Type 0} {p : List ℕ → Fit A} {F : Fault} (P : RefusesBy p F) (g : List ℕ → A → B) where
  via_fault : (s : List ℕ) (k : Refusal) → (p s >>= λ a. got (g s a)) ≡ bad k → F s k
  via_fault s k = of_bind (p s) _ k (P.fault s k) (λ a e e'. got_bad e')

  via_refuse : (s : List ℕ) (k : Refusal) → F s k → (p s >>= λ a. got (g s a)) ≡ bad k
  via_refuse s k h = rw (P.refuse s k h)

  refuses_via : RefusesBy (λ s. p s >>= λ a. got (g s a)) F
  refuses_via = record { fault = via_fault; refuse = via_refuse }

pub refuses_map : {A B : Type 0} {p : Reader A} {F : Fault} → RefusesBy p F → (f : A → B) → RefusesBy (map_of f p) F
unfolding map_of
refuses_map P f = refuses_via P (λ s y. (f y.0, y.1))

pub refuses_fit : {A B : Type 0} {q : Filler A} {F : Fault} (f : A → B) → RefusesBy q F → RefusesBy (map_fit f q) F
unfolding map_fit
refuses_fit f Q = refuses_via Q (λ s. f)

pub refuses_hand : {A B : Type 0} {q : ℕ → Filler A} {F : Fault} (f : A → List ℕ → ℕ → B) → ((e : ℕ) → RefusesBy (q e) F) → (end : ℕ) → RefusesBy (hand_fit f q end) F
unfolding hand_fit
refuses_hand f Q end = refuses_via (Q end) (λ s a. f a s end)

-- one after the other, whatever is made of the two values
module _ {A B C : Type 0} {p : Reader A} {q : A → List ℕ → Fit B} {G : Gram A} {F : Fault} {H : A → Fault} (P : RefusesBy p F) (R : Reads p G) (Q : (a : A) → RefusesBy (q a) (H a)) (g : A → B → C) where
  pair_fault : (s : List ℕ) (k : Refusal) → (p s >>= λ x. q x.0 x.1 >>= λ y. got (g x.0 y)) ≡ bad k → ThenFault G F H s k
  pair_fault s k = of_bind (p s) _ k (λ e. first (P.fault s k e)) λ x e. of_bind (q x.0 x.1) _ k
      (λ e'. let (b, e₁, r) = R.split s x e in rw e₁ (second r ((Q x.0).fault x.1 k e'))) (λ y e' e''. got_bad e'')

  pair_refuse : (s : List ℕ) (k : Refusal) → ThenFault G F H s k → (p s >>= λ x. q x.0 x.1 >>= λ y. got (g x.0 y)) ≡ bad k
  pair_refuse s k (first h) = rw (P.refuse s k h)
  pair_refuse _ k (second {a = a} {b = b} {r = r} h f) = rw (R.whole a b r h, (Q a).refuse r k f)

  refuses_pair : RefusesBy (λ s. p s >>= λ x. q x.0 x.1 >>= λ y. got (g x.0 y)) (ThenFault G F H)
  refuses_pair = record { fault = pair_fault; refuse = pair_refuse }

module _ {A B : Type 0} {p : Reader A} {G : Gram A} {F H : Fault} (P : RefusesBy p F) (R : Reads p G) where
  pub refuses_then : {q : Reader B} → RefusesBy q H → RefusesBy (then_of p (λ _. q)) (ThenFault G F (λ _. H))
  unfolding then_of
  refuses_then Q = refuses_pair P R (λ _. Q) (λ a y. ((a, y.0), y.1))

  pub refuses_end : {q : Filler B} → RefusesBy q H → RefusesBy (then_fit p (λ _. q)) (ThenFault G F (λ _. H))
  unfolding then_fit
  refuses_end Q = refuses_pair P R (λ _. Q) (λ a c. (a, c))

module _ {A : Type 0} {p : Reader A} {F : Fault} (P : RefusesBy p F) where
  module _ {G : Gram A} (R : Reads p G) where
    module _ (t : A → Bool) (c : A → Refusal) where
      only_fault : (s : List ℕ) (k : Refusal) → only_of t c p s ≡ bad k → OnlyFault t c G F s k
      unfolding only_of
      only_fault s k = of_bind (p s) _ k (λ e. under (P.fault s k e)) λ x e. of_guard (t x.0) (c x.0) _ k
          (λ h i. let (b, e₁, g) = R.split s x e in rw (e₁, ← i) (fails x.1 g h)) (λ h e'. got_bad e')

      only_refuse : (s : List ℕ) (k : Refusal) → OnlyFault t c G F s k → only_of t c p s ≡ bad k
      unfolding only_of
      only_refuse s k (under h) = rw (P.refuse s k h)
      only_refuse _ _ (fails {a = a} {b = b} r g h) = rw (R.whole a b r g, h)

      pub refuses_only : RefusesBy (only_of t c p) (OnlyFault t c G F)
      refuses_only = record { fault = only_fault; refuse = only_refuse }

    module _ (t : A → ℕ → Bool) (c : A → ℕ → Refusal) where
      by_fault : (s : List ℕ) (k : Refusal) → only_by_of t c p s ≡ bad k → OnlyByFault t c G F s k
      unfolding only_by_of
      by_fault s k = of_bind (p s) _ k (λ e. under_by (P.fault s k e)) λ x e. of_guard (t x.0 (length s - length x.1)) (c x.0 (length s - length x.1)) _ k
          (λ h i.
          let (b, e₁, g) = R.split s x e in
          let n : length s - length x.1 ≡ length b = count_front s b x.1 e₁ in
          rw (e₁, ← i, n) (fails_by x.1 g (rw n at h))) (λ h e'. got_bad e')

      by_refuse : (s : List ℕ) (k : Refusal) → OnlyByFault t c G F s k → only_by_of t c p s ≡ bad k
      unfolding only_by_of
      by_refuse s k (under_by h) = rw (P.refuse s k h)
      by_refuse _ _ (fails_by {a = a} {b = b} r g h) = rw (R.whole a b r g, count_front (b ++ r) b r refl, h)

      pub refuses_by : RefusesBy (only_by_of t c p) (OnlyByFault t c G F)
      refuses_by = record { fault = by_fault; refuse = by_refuse }

    module _ (c : Refusal) where
      after : (b r : List ℕ) (k : Refusal) (a : A) → G a b → is_empty r ≡ false → c ≡ k → ExactFault G F c (b ++ r) k
      after b [] k a g h i = absurd (false≢true (sym h))
      after b (y ∷ r) k a g h i = subst (ExactFault G F c (b ++ (y ∷ r))) i (follows y r g)

      exact_fault : (s : List ℕ) (k : Refusal) → exact_fit p c s ≡ bad k → ExactFault G F c s k
      unfolding exact_fit
      exact_fault s k = of_bind (p s) _ k (λ e. before (P.fault s k e)) λ x e. of_guard (is_empty x.1) c _ k
          (λ h i. let (b, e₁, g) = R.split s x e in rw e₁ (after b x.1 k x.0 g h i)) (λ h e'. got_bad e')

      exact_refuse : (s : List ℕ) (k : Refusal) → ExactFault G F c s k → exact_fit p c s ≡ bad k
      unfolding exact_fit
      exact_refuse s k (before h) = rw (P.refuse s k h)
      exact_refuse _ _ (follows {a = a} {b = b} y r g) = rw (R.whole a b (y ∷ r) g)

      pub refuses_exact : RefusesBy (exact_fit p c) (ExactFault G F c)
      refuses_exact = record { fault = exact_fault; refuse = exact_refuse }

-- one after the other, with what came before summed up
module _ {S A : Type 0} (step : S → A → S) {p : S → Reader A} {G : S → Gram A} {F : S → Fault} (P : (σ : S) → RefusesBy (p σ) (F σ)) (R : (σ : S) → Reads (p σ) (G σ)) (L : (σ : S) → Solid (G σ)) where
  run_fault : (σ : S) (f s : List ℕ) (k : Refusal) → length s ≤ length f → run_fit step p σ f s ≡ bad k → ChainFault step G F σ s k
  unfolding run_fit
  run_fault σ [] [] k h = got_bad
  run_fault σ [] (x ∷ s) k h = absurd (omega arith)
  run_fault σ (y ∷ f) [] k h = got_bad
  run_fault σ (y ∷ f) (x ∷ s) k h = of_bind (p σ (x ∷ s)) _ k (λ e. now ((P σ).fault (x ∷ s) k e)) λ z e.
      of_bind (run_fit step p (step σ z.0) f z.1) _ k
      (λ e'.
      let l : length z.1 < length (x ∷ s) = less (R σ) (L σ) (x ∷ s) z e in
      let (b, e₁, g) = (R σ).split (x ∷ s) z e in
      rw e₁ (later g (run_fault (step σ z.0) f z.1 k (omega arith) e')))
      (λ vs e' e''. got_bad e'')

  run_now : (σ : S) (f : List ℕ) (x : ℕ) (s : List ℕ) (k : Refusal) → length (x ∷ s) ≤ length f → F σ (x ∷ s) k → run_fit step p σ f (x ∷ s) ≡ bad k
  unfolding run_fit
  run_now σ [] x s k h g = absurd (omega arith)
  run_now σ (y ∷ f) x s k h g = rw ((P σ).refuse (x ∷ s) k g)

  run_later : (σ : S) (f : List ℕ) (a : A) (b s : List ℕ) (k : Refusal) → G σ a b → ((f' : List ℕ) → length s ≤ length f' → run_fit step p (step σ a) f' s ≡ bad k)
      → length (b ++ s) ≤ length f → run_fit step p σ f (b ++ s) ≡ bad k
  unfolding run_fit
  run_later σ f a [] s k g ih h = absurd (L σ a [] g refl)
  run_later σ [] a (x ∷ b) s k g ih h = absurd (omega arith)
  run_later σ (y ∷ f) a (x ∷ b) s k g ih h =
      let l : length s ≤ length f = omega (arith, length-append b s) in
      rw ((R σ).whole a (x ∷ b) s g, ih f l)

  run_refuse : (σ : S) (s : List ℕ) (k : Refusal) → ChainFault step G F σ s k → (f : List ℕ) → length s ≤ length f → run_fit step p σ f s ≡ bad k
  run_refuse σ _ k (now {x = x} {s = s} g) f h = run_now σ f x s k h g
  run_refuse σ _ k (later {a = a} {b = b} {s = s} g m) f h = run_later σ f a b s k g (λ f' h'. run_refuse (step σ a) s k m f' h') h

  chain_fault : (σ : S) (s : List ℕ) (k : Refusal) → chain_fit step p σ s ≡ bad k → ChainFault step G F σ s k
  unfolding chain_fit
  chain_fault σ s k e = run_fault σ s s k (omega arith) e

  chain_refuse : (σ : S) (s : List ℕ) (k : Refusal) → ChainFault step G F σ s k → chain_fit step p σ s ≡ bad k
  unfolding chain_fit
  chain_refuse σ s k h = run_refuse σ s k h s (omega arith)

  pub refuses_chain : (σ : S) → RefusesBy (chain_fit step p σ) (ChainFault step G F σ)
  refuses_chain σ = record { fault = chain_fault σ; refuse = chain_refuse σ }

pub refuses_many : {A : Type 0} {p : Reader A} {G : Gram A} {F : Fault} → RefusesBy p F → Reads p G → Solid G → RefusesBy (many_fit p) (ManyFault G F)
refuses_many P R L = refuses_chain forget (λ _. P) (λ _. R) (λ _. L) tt

-- a test of the first byte
module _ {A : Type 0} {p : Reader A} {F : Fault} (P : RefusesBy p F) (t : ℕ → Bool) (c : ℕ → Refusal) where
  head_fault : (s : List ℕ) (k : Refusal) → head_of t c p s ≡ bad k → HeadFault t c F s k
  unfolding head_of
  head_fault [] k e = no_head (P.fault [] k e)
  head_fault (i ∷ s) k e = of_guard (t i) (c i) (p (i ∷ s)) k (λ h j. rw (← j) (head h)) (λ h e'. behind h (P.fault (i ∷ s) k e')) e

  head_refuse : (s : List ℕ) (k : Refusal) → HeadFault t c F s k → head_of t c p s ≡ bad k
  unfolding head_of
  head_refuse _ k (no_head f) = P.refuse [] k f
  head_refuse _ _ (head h) = rw h
  head_refuse _ k (behind {i = i} {s = s} h f) = rw h (P.refuse (i ∷ s) k f)

  pub refuses_head : RefusesBy (head_of t c p) (HeadFault t c F)
  refuses_head = record { fault = head_fault; refuse = head_refuse }

module _ {A : Type 0} {n : Reader ℕ} {q : ℕ → Filler A} {N : Gram ℕ} {F H : Fault} (c : ℕ → List ℕ → Refusal) (R : Reads n N) (P : RefusesBy n F) (Q : (e : ℕ) → RefusesBy (q e) H) (end : ℕ) where
  sized_fault : (s : List ℕ) (k : Refusal) → sized_of n c q end s ≡ bad k → SizedFault N F c H s k
  unfolding sized_of
  sized_fault s k = of_bind (n s) _ k (λ e. sizes (P.fault s k e)) λ x e. of_guard (leb x.0 (length x.1)) (c x.0 x.1) _ k
      (λ h i. let (b, e₁, g) = R.split s x e in rw (e₁, ← i) (crosses x.1 g (leb-false x.0 (length x.1) h)))
      (λ h.
      let l : ℕ = x.0 in
      let r : List ℕ = x.1 in
      of_bind (q (end - length (drop l r)) (take l r)) _ k
      (λ e'.
      let (d, e₁, g) = R.split s x e in
      let m : length (take l r) ≡ l = length-take-le l r (leb→le l (length r) (T_of (leb l (length r)) h)) in
      let e₂ : s ≡ d ++ (take l r ++ drop l r) = rw (take-append-drop l r) e₁ in
      rw e₂ (fills {b = take l r} {d = d} (drop l r) (rw m g) ((Q (end - length (drop l r))).fault (take l r) k e')))
      (λ a e' e''. got_bad e''))

  sized_refuse : (s : List ℕ) (k : Refusal) → SizedFault N F c H s k → sized_of n c q end s ≡ bad k
  unfolding sized_of
  sized_refuse s k (sizes h) = rw (P.refuse s k h)
  sized_refuse _ _ (crosses {l = l} {b = b} r g h) = rw (R.whole l b r g, lt-leb l (length r) h)
  sized_refuse _ k (fills {b = b} {d = d} r g h) =
      rw (
        R.whole (length b) d (b ++ r) g,
        le-leb (length b) (length (b ++ r)) (rw length-append (omega arith)),
        take-append_seam b r,
        drop-append_seam b r,
        (Q (end - length r)).refuse b k h,
      )

  pub refuses_sized : RefusesBy (sized_of n c q end) (SizedFault N F c H)
  refuses_sized = record { fault = sized_fault; refuse = sized_refuse }

-- ---- bytes as they stand

module _ (t : List ℕ → Bool) (P : List ℕ → Type 0) (c : Refusal) (D : (b : List ℕ) → (t b ≡ true) ↔ P b) where
  is_fault : (s : List ℕ) (k : Refusal) → is_fit t c s ≡ bad k → IsFault P c s k
  unfolding is_fit
  is_fault s k = of_guard (t s) c _ k (λ h i. subst (IsFault P c s) i (isnt (λ g. false≢true (sym h ∙ (D s).1 g)))) (λ _ e. got_bad e)

  fails_test : (s : List ℕ) → (P s → ⊥) → (b : Bool) → t s ≡ b → t s ≡ false
  fails_test s h true e = absurd (h ((D s).0 e))
  fails_test s h false e = e

  is_refuse : (s : List ℕ) (k : Refusal) → IsFault P c s k → is_fit t c s ≡ bad k
  unfolding is_fit
  is_refuse s _ (isnt h) = rw (fails_test s h (t s) refl)

  pub refuses_is : RefusesBy (is_fit t c) (IsFault P c)
  refuses_is = record { fault = is_fault; refuse = is_refuse }
