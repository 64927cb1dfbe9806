-- A frame has one pair of numbers by `StandsIn`: what stands before the block, and its length, are spelled in one way. Assumes nothing.
use mathlib.Core.Path.{◌≡◌, refl, sym, ap, ◌∙◌}
use mathlib.Core.Option.{Option, some}
use mathlib.Core.List.{List, [], ◌∷◌, ◌++◌, append_assoc}
use Prim.Native.Nat.{ℕ, ◌+◌, ◌≤◌}
use native.Mathlib.Omega.{arith}
use lib.ListN.{length, length-append}
use Rattle.grammar.specs.Choice.{lookup}
use Rattle.grammar.specs.Gram.{Gram, only_by}
use Rattle.grammar.specs.Number.{big, byte, last, next, Spells}
use Rattle.grammar.specs.Record.{flag_qos, kind_of}
use Rattle.grammar.specs.Tables.{Layout, kinds}
use Rattle.reading.specs.Refusal.{cut}
use Rattle.reading.specs.Reader.{Reader}
use Rattle.reading.specs.Place.{Span}
use Rattle.reading.proofs.Reading.{got_inj, Reads}
use Rattle.reading.proofs.Fields.{reads_big, reads_num}
use Rattle.reading.proofs.Packets.{reads_ident}
use Rattle.placing.specs.Placing.{both, sized, BytesAt}
use Rattle.placing.specs.Stands.{HeadAt, of_publish_lem, of_ack_lem, of_subscribe_lem, of_reply_lem, of_unsubscribe_lem, NoLength, short, StandsAt, present, absent, unsent, StandsIn, in_frame}

-- ---- one spelling at the front

-- of what is read, the value, and what follows
module _ {A : Type 0} {p : Reader A} {G : Gram A} (R : Reads p G) {a a' : A} {b b' r r' : List ℕ} where
  reads_one : G a b → G a' b' → b ++ r ≡ b' ++ r' → (a ≡ a') × (r ≡ r')
  reads_one g g' e =
      let i : ◌≡◌ {A = A × List ℕ} (a, r) (a', r') = got_inj (sym (R.whole a b r g) ∙ ap p e ∙ R.whole a' b' r' g') in
      (ap (λ (z : A × List ℕ). z.0) i, ap (λ (z : A × List ℕ). z.1) i)

cons_tail : {a b : ℕ} {l r : List ℕ} → a ∷ l ≡ b ∷ r → l ≡ r
cons_tail e = cc

-- as many bytes of the same leave the same
same_rest : (b b' r r' : List ℕ) → length b ≡ length b' → b ++ r ≡ b' ++ r' → r ≡ r'
same_rest [] [] r r' h e = e
same_rest [] (x ∷ b') r r' h e = absurd (omega (arith, h))
same_rest (x ∷ b) [] r r' h e = absurd (omega (arith, h))
same_rest (x ∷ b) (y ∷ b') r r' h e = same_rest b b' r r' (omega (arith, h)) (cons_tail e)

same_length : (b b' r r' : List ℕ) → r ≡ r' → b ++ r ≡ b' ++ r' → length b ≡ length b'
same_length b b' r r' h e = omega (arith, ap length h, ap length e, length-append b r, length-append b' r')

topic_one : {at at' : ℕ} {p p' : Span} {b b' r r' : List ℕ} → BytesAt at p b → BytesAt at' p' b' → b ++ r ≡ b' ++ r' → r ≡ r'
topic_one {r = r} {r' = r'} (sized {b = b} {c = c} n m) (sized {b = b'} {c = c'} n' m') e =
    let (l, f) = reads_one (reads_big cut 2) n n' (sym (append_assoc c b r) ∙ e ∙ append_assoc c' b' r') in
    same_rest b b' r r' l f

head_one : {x at : ℕ} {l : Layout} {h h' r r' : List ℕ} → HeadAt x at l h → HeadAt x at l h' → h ++ r ≡ h' ++ r' → r ≡ r'
head_one {x = x} {r = r} {r' = r'} (of_publish_lem (both {b = a} {d = i} t n)) (of_publish_lem (both {b = a'} {d = i'} t' n')) e =
    (reads_one (reads_ident (flag_qos x)) n n' (topic_one t t' (sym (append_assoc a i r) ∙ e ∙ append_assoc a' i' r'))).1
head_one {r = r} {r' = r'} (of_ack_lem (both {b = a} i (byte {x = c}))) (of_ack_lem (both {b = a'} i' (byte {x = c'}))) e =
    cons_tail (reads_one (reads_big cut 2) i i' (sym (append_assoc a (c ∷ []) r) ∙ e ∙ append_assoc a' (c' ∷ []) r')).1
head_one (of_subscribe_lem i) (of_subscribe_lem i') e = (reads_one (reads_big cut 2) i i' e).1
head_one (of_reply_lem i) (of_reply_lem i') e = (reads_one (reads_big cut 2) i i' e).1
head_one (of_unsubscribe_lem i) (of_unsubscribe_lem i') e = (reads_one (reads_big cut 2) i i' e).1

-- ---- the body

-- a length that spells n is sent behind the fields before it
data SentAt (x at : ℕ) (l : Layout) (f : List ℕ) : ℕ × ℕ → Type 0 where
  sent : (h c r : List ℕ) {n : ℕ} → f ≡ h ++ (c ++ r) → HeadAt x at l h → Spells n c → SentAt x at l f (at + length h + length c, at + length h + length c + n)

pair_is : {a b c d : ℕ} → a ≡ c → b ≡ d → ◌≡◌ {A = ℕ × ℕ} (a, b) (c, d)
pair_is p q = rw (p, q)

some_byte : {n : ℕ} {c : List ℕ} → Spells n c → 1 ≤ length c
some_byte (only_by t (last h)) = omega arith
some_byte (only_by t (next h g)) = omega arith

-- where no length is sent, none is
not_both : {x at : ℕ} {l : Layout} {f : List ℕ} {z : ℕ × ℕ} → SentAt x at l f z → NoLength l f → ⊥
not_both (sent h c r e (of_publish_lem _) N) s = elim s [ ]
not_both (sent h c r e (of_subscribe_lem _) N) s = elim s [ ]
not_both (sent h c r e (of_reply_lem _) N) s = elim s [ ]
not_both (sent h c r e (of_unsubscribe_lem _) N) s = elim s [ ]
not_both (sent h c r e (of_ack_lem (both {b = a} (big k) (byte {x = d}))) N) (short s) =
    omega (arith, s, ap length e, length-append (a ++ (d ∷ [])) (c ++ r), length-append a (d ∷ []), length-append c r, k, some_byte N)

module _ {x at : ℕ} {l : Layout} {f : List ℕ} where
  sent_one : {z z' : ℕ × ℕ} → SentAt x at l f z → SentAt x at l f z' → z ≡ z'
  sent_one (sent h c r {n = n} e H N) (sent h' c' r' {n = n'} e' H' N') =
      let i : c ++ r ≡ c' ++ r' = head_one H H' (sym e ∙ e') in
      let a : length h ≡ length h' = same_length h h' (c ++ r) (c' ++ r') i (sym e ∙ e') in
      let (v, j) = reads_one (reads_num cut 4) N N' i in
      let b : length c ≡ length c' = same_length c c' r r' j i in
      pair_is (omega (arith, a, b)) (omega (arith, a, b, v))

  body_one : {o o' : Option Span} {z z' : ℕ × ℕ} → StandsAt x at l f o z → StandsAt x at l f o' z' → z ≡ z'
  body_one (unsent u) (unsent u') = refl
  body_one (unsent u) (present h c b t e H N place ps m) = absurd (not_both (sent h c (b ++ t) e H N) u)
  body_one (unsent u) (absent h c t e H N) = absurd (not_both (sent h c t e H N) u)
  body_one (present h c b t e H N place ps m) (unsent u) = absurd (not_both (sent h c (b ++ t) e H N) u)
  body_one (absent h c t e H N) (unsent u) = absurd (not_both (sent h c t e H N) u)
  body_one (present h c b t e H N place ps m) (present h' c' b' t' e' H' N' place' ps' m') = sent_one (sent h c (b ++ t) e H N) (sent h' c' (b' ++ t') e' H' N')
  body_one (present h c b t e H N place ps m) (absent h' c' t' e' H' N') = sent_one (sent h c (b ++ t) e H N) (sent h' c' t' e' H' N') ∙ none_more (at + length h' + length c')
    where
      none_more : (k : ℕ) → ◌≡◌ {A = ℕ × ℕ} (k, k + 0) (k, k)
      none_more k = pair_is refl (omega arith)
  body_one (absent h c t e H N) (present h' c' b' t' e' H' N' place' ps' m') = none_more (at + length h + length c) ∙ sent_one (sent h c t e H N) (sent h' c' (b' ++ t') e' H' N')
    where
      none_more : (k : ℕ) → ◌≡◌ {A = ℕ × ℕ} (k, k) (k, k + 0)
      none_more k = pair_is refl (omega arith)
  body_one (absent h c t e H N) (absent h' c' t' e' H' N') =
      let q = sent_one (sent h c t e H N) (sent h' c' t' e' H' N') in
      let a : at + length h + length c ≡ at + length h' + length c' = ap (λ (z : ℕ × ℕ). z.0) q in
      pair_is a a

-- ---- the frame

some_inj : {A : Type 0} {a b : A} → some a ≡ some b → a ≡ b
some_inj e = cc

cons_head : {a b : ℕ} {l r : List ℕ} → a ∷ l ≡ b ∷ r → a ≡ b
cons_head e = cc

-- 02, P7: the two numbers of a frame are no others, also where no properties are present
pub stands_one : {f : List ℕ} {o o' : Option Span} {z z' : ℕ × ℕ} → StandsIn f o z → StandsIn f o' z' → z ≡ z'
stands_one {o' = o'} {z' = z'} (in_frame {x = x} {l = l} c b e i k w) (in_frame {x = x'} {l = l'} c' b' e' i' k' w') =
    let j = sym e ∙ e' in
    let a : x ≡ x' = cons_head j in
    let (_, q) = reads_one (reads_num cut 4) k k' (cons_tail j) in
    let n : length c ≡ length c' = same_length c c' b b' q (cons_tail j) in
    let m : l ≡ l' = some_inj (sym i ∙ ap (λ (y : ℕ). lookup kinds (kind_of y)) a ∙ i') in
    let v : StandsAt x (1 + length c) l b o' z' = rw (a, n, m, q) w' in
    body_one w v
