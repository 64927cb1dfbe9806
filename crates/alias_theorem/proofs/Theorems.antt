-- The theorems of P6. **laid-in-turn**: where each alias stands in the table. **set_before**, **set-behind**: setting writes no other byte.
-- **reached-agrees**: whatever was sent before, the table is good and says the last topic of each alias. **in-force-is**: the part in force has
-- that topic, or the packet's own. **in-force-again**: it may be asked before or after learning. **in-force-within**: it lies within its slice,
-- and is not empty. Assumes nothing.
use Rattle.std.specs.Prelude.{Result, Ok, Err}
use mathlib.Core.Path.{◌≡◌, refl, sym, ap, ◌∙◌}
use mathlib.Core.Bool.{Bool, true, false, cond, false≢true}
use mathlib.Core.Option.{Option, none, some}
use mathlib.Core.List.{List, [], ◌∷◌, ◌++◌, append_assoc}
use Prim.Native.Nat.{ℕ, zero, suc, ◌+◌, ◌-◌, ◌*◌, ◌≤◌, ◌<◌}
use native.Mathlib.Omega.{arith}
use native.Mathlib.Numerals.{add-one}
use lib.Dec.{leb, eqb}
use lib.ListN.{length, take, drop, get_or, set, replicate, length-set, length-take, length-drop, get_or-replicate}
use lib.Seq.{sets, sets-eq, length-sets, get_or-set_same, get_or-set_other, get_or-take, get_or-drop, ext_get_or, drop_at, drop-append-add, drop-drop, take_at, take-append_seam, length-take-le}
use borrow.Author.Tests.{ne_eqb, eqb-true, eqb-false, le-leb, leb-true, leb-false, not-true}
use Rattle.reading.specs.Reader.{Fit, got, bad, ◌>>◌}
use Rattle.reading.specs.Place.{Span, held_of, part_of}
use Rattle.reading.proofs.Reading.{bad_got, got_inj}
use denote.Ref.{Bor}
use Rattle.wire.proofs.Laws.{held_within}
use Rattle.alias.specs.Table.{slot, stored_len, stored_topic, lengths_good, table_good, topic_of, set_alias, in_turn, Nth, first, later}
use Rattle.alias.specs.Alias.{empty, permit, table_after, Lies, in_packet, in_table, stored_at, in_force, bytes_at}
use Rattle.alias_theorem.specs.Known.{Known, known_after, known_by, forced, force_bytes, Agrees, Reached, fresh, learnt}
use Rattle.alias.specs.AliasAnswer.{told_alias, Learnt, PartIn}
use Rattle.alias.specs.declared.AliasError.{AliasError}
use Rattle.alias.proofs.Laws.{good_length, good_lengths, good_is, length_good, in_range_lem, has_room, permits, after_bad, after_got, permit_new, force_own}

-- ---- where each alias stands

-- every one has its 128 bytes
abbrev Full : List (ℕ × List ℕ) → Type 0
Full [] = Unit {0}
Full ((n, b) ∷ rest) = (length b ≡ 128) × Full rest

-- what stands behind so many whole ones
laid_drop : (a : ℕ) {es : List (ℕ × List ℕ)} {n : ℕ} {b : List ℕ} → Full es → Nth (suc a) es n b → (r : List ℕ) × (drop (a * 129) (in_turn es) ≡ n ∷ (b ++ r))
laid_drop zero f (first {n} {b} {rest}) = (in_turn rest, refl)
laid_drop (suc a) f (later {n} {m} {b} {c} {rest} l) =
    let (r, e) = laid_drop a f.1 l in
    let d : suc a * 129 ≡ suc (128 + a * 129) = omega arith in
    (r, rw (d, sym f.0, drop-append-add c (in_turn rest) (a * 129)) e)

nth_full : {a : ℕ} {es : List (ℕ × List ℕ)} {n : ℕ} {b : List ℕ} → Full es → Nth a es n b → length b ≡ 128
nth_full f first = f.0
nth_full f (later l) = nth_full f.1 l

-- P6: "for aliases 1 to 16 in turn a length byte .. and 128 bytes for the topic": length and bytes of the a-th
pub laid_in_turn : (a : ℕ) {es : List (ℕ × List ℕ)} {n : ℕ} {b : List ℕ} → Full es → Nth (suc a) es n b → (stored_len (in_turn es) (suc a) ≡ n) × (take 128 (drop (slot (suc a) + 1) (in_turn es)) ≡ b)
laid_in_turn a {es} {n} {b} f l =
    let (r, e) = laid_drop a f l in
    let s : suc a - 1 ≡ a = omega arith in
    let z : a * 129 + 0 ≡ a * 129 = omega arith in
    let head : get_or (in_turn es) (a * 129) 0 ≡ n = sym (ap (λ (i : ℕ). get_or (in_turn es) i 0) z) ∙ sym (get_or-drop (a * 129) (in_turn es) 0 0) ∙ ap (λ (u : List ℕ). get_or u 0 0) e in
    let rest : drop (a * 129 + 1) (in_turn es) ≡ b ++ r = sym (drop-drop 1 (a * 129) (in_turn es)) ∙ ap (drop 1) e in
    rw s (head, ap (take 128) rest ∙ take_at b r 128 (nth_full f l))

-- ---- a put leaves the rest alone

module _ (j : ℕ) where
  sets_before : (vs l : List ℕ) (i : ℕ) → j < i → get_or (sets l i vs) j 0 ≡ get_or l j 0
  sets_before [] l i h = refl
  sets_before (v ∷ vs) l i h = sets_before vs (set l i v) (suc i) (omega arith) ∙ get_or-set_other l i j v 0 (omega arith)

  sets_behind : (vs l : List ℕ) (i : ℕ) → i + length vs ≤ j → get_or (sets l i vs) j 0 ≡ get_or l j 0
  sets_behind [] l i h = refl
  sets_behind (v ∷ vs) l i h = sets_behind vs (set l i v) (suc i) (omega arith) ∙ get_or-set_other l i j v 0 (omega arith)

-- P6: "writes its length and topic and no other byte"
module _ (t : List ℕ) (a : ℕ) (x : List ℕ) (j : ℕ) where
  pub set_before : j < slot a → get_or (set_alias t a x) j 0 ≡ get_or t j 0
  unfolding set_alias
  set_before h = sets_before j (length x ∷ x) t (slot a) h

  pub set_behind : slot a + 1 + length x ≤ j → get_or (set_alias t a x) j 0 ≡ get_or t j 0
  unfolding set_alias
  set_behind h = sets_behind j (length x ∷ x) t (slot a) (omega arith)

pub set_length : (t : List ℕ) (a : ℕ) (x : List ℕ) → length (set_alias t a x) ≡ length t
unfolding set_alias
set_length t a x = length-sets t (slot a) (length x ∷ x)

-- ---- what is read back

-- at the front of what was put
put_first : (l : List ℕ) (i v : ℕ) (vs : List ℕ) → i < length l → get_or (sets l i (v ∷ vs)) i 0 ≡ v
put_first l i v vs h = sets_before i vs (set l i v) (suc i) (omega arith) ∙ get_or-set_same l i v 0 h

put_back : (l : List ℕ) (i : ℕ) (vs : List ℕ) → i + length vs ≤ length l → take (length vs) (drop i (sets l i vs)) ≡ vs
put_back l i vs h =
    rw (sets-eq vs l i h, append_assoc, drop_at (take i l) (vs ++ drop (i + length vs) l) i (length-take-le i l (omega arith))) (take-append_seam vs (drop (i + length vs) l))

module _ (t : List ℕ) (a : ℕ) (x : List ℕ) (e : length t ≡ 2064) (h : 1 ≤ a) (k : a ≤ 16) (l : length x ≤ 128) where
  len_same : stored_len (set_alias t a x) a ≡ length x
  unfolding set_alias
  len_same = put_first t (slot a) (length x) x (omega arith)

  topic_back : stored_topic (set_alias t a x) a ≡ x
  unfolding set_alias
  topic_back =
      let z = put_back (set t (slot a) (length x)) (suc (slot a)) x (omega (arith, length-set t (slot a) (length x))) in
      rw (put_first t (slot a) (length x) x (omega arith), add-one (slot a)) z

  -- P6: the alias stands for the topic
  pub topic_same : 0 < length x → topic_of (set_alias t a x) a ≡ some x
  unfolding topic_of
  topic_same o = rw (topic_back, len_same, ne_eqb (length x) 0 (λ z. omega arith))

  module _ (b : ℕ) (n : b ≡ a → ⊥) (h₂ : 1 ≤ b) (k₂ : b ≤ 16) where
    pub len_other : stored_len (set_alias t a x) b ≡ stored_len t b
    len_other = go (leb b a) refl
      where
        go : (c : Bool) → leb b a ≡ c → stored_len (set_alias t a x) b ≡ stored_len t b
        go true p = set_before t a x (slot b) (omega (arith, leb-true b a p))
        go false p = set_behind t a x (slot b) (omega (arith, leb-false b a p))

    byte_other : (j : ℕ) → j < 128 → get_or (set_alias t a x) (slot b + 1 + j) 0 ≡ get_or t (slot b + 1 + j) 0
    byte_other j o = go (leb b a) refl
      where
        go : (c : Bool) → leb b a ≡ c → get_or (set_alias t a x) (slot b + 1 + j) 0 ≡ get_or t (slot b + 1 + j) 0
        go true p = set_before t a x (slot b + 1 + j) (omega (arith, leb-true b a p))
        go false p = set_behind t a x (slot b + 1 + j) (omega (arith, leb-false b a p))

    part_other : (m : ℕ) → m ≤ 128 → take m (drop (slot b + 1) (set_alias t a x)) ≡ take m (drop (slot b + 1) t)
    part_other m o =
        ext_get_or 0 _ _ (simp (length-take, length-drop, set_length)) λ j g.
        let i : j < m = omega (arith, simp (length-take, length-drop) at g) in
        rw (get_or-take m (drop (slot b + 1) (set_alias t a x)) j 0 i, get_or-take m (drop (slot b + 1) t) j 0 i, get_or-drop, get_or-drop) (byte_other j (omega arith))

    -- and every other alias for what it stood for
    pub topic_other : stored_len t b ≤ 128 → topic_of (set_alias t a x) b ≡ topic_of t b
    unfolding topic_of
    topic_other o = rw (len_other, part_other (stored_len t b) o)

-- ---- the table stays good

lengths_all : (t : List ℕ) (n : ℕ) → ((a : ℕ) → 1 ≤ a → a ≤ n → stored_len t a ≤ 128) → lengths_good n t ≡ true
unfolding lengths_good
lengths_all t zero f = refl
lengths_all t (suc n) f = rw (le-leb (stored_len t (suc n)) 128 (f (suc n) (omega arith) (omega arith))) (lengths_all t n (λ a h k. f a h (omega arith)))

set_good : (t : List ℕ) (a : ℕ) (x : List ℕ) → table_good t ≡ true → 1 ≤ a → a ≤ 16 → length x ≤ 128 → table_good (set_alias t a x) ≡ true
set_good t a x g h k l =
    good_is (set_alias t a x) (set_length t a x ∙ good_length t g) (sym (lengths_all (set_alias t a x) 16 (λ b h₂ k₂. go b h₂ k₂ (eqb b a) refl)))
  where
    go : (b : ℕ) → 1 ≤ b → b ≤ 16 → (c : Bool) → eqb b a ≡ c → stored_len (set_alias t a x) b ≤ 128
    go b h₂ k₂ true p = rw (eqb-true b a p) (omega (arith, len_same t a x (good_length t g) h k l))
    go b h₂ k₂ false p = omega (arith, len_other t a x (good_length t g) h k l b (eqb-false b a p) h₂ k₂, length_good t 16 b (good_lengths t g) h₂ k₂)

-- ---- a message

some_topic : (c : ℕ) (s : List ℕ) → 0 < length (c ∷ s)
some_topic c s = omega arith

-- what is set is known
set_agrees : (t : List ℕ) (f : Known) (a : ℕ) (c : ℕ) (s : List ℕ) → table_good t ≡ true → 1 ≤ a → a ≤ 16 → length (c ∷ s) ≤ 128 → Agrees t f
    → Agrees (set_alias t a (c ∷ s)) (known_after f (c ∷ s) (some a))
set_agrees t f a c s g h k l y b h₂ k₂ = go (eqb a b) refl
  where
    go : (d : Bool) → eqb a b ≡ d → topic_of (set_alias t a (c ∷ s)) b ≡ cond (eqb a b) (some (c ∷ s)) (f b)
    go true p = rw (p, sym (eqb-true a b p)) (topic_same t a (c ∷ s) (good_length t g) h k l (some_topic c s))
    go false p = rw p (topic_other t a (c ∷ s) (good_length t g) h k l b (λ e. eqb-false a b p (sym e)) h₂ k₂ (length_good t 16 b (good_lengths t g) h₂ k₂) ∙ y b h₂ k₂)

-- P6: after a message that is not refused, the table is good and says what is known
pub sent_agrees : (t : List ℕ) (f : Known) (topic : List ℕ) (a : Option ℕ) → permit t topic a ≡ got tt → Agrees t f
    → (table_good (table_after t topic a) ≡ true) × Agrees (table_after t topic a) (known_after f topic a)
sent_agrees t f topic none e y = rw (sym (after_got t topic none (sym e))) ((permits t topic none e).good, y)
sent_agrees t f [] (some a) e y = rw (sym (after_got t [] (some a) (sym e))) ((permits t [] (some a) e).good, y)
sent_agrees t f (c ∷ s) (some a) e y =
    let p = permits t (c ∷ s) (some a) e in
    let r = in_range_lem t (c ∷ s) (some a) a refl p.valid in
    let l = has_room t (c ∷ s) (some a) a refl e in
    rw (sym (after_got t (c ∷ s) (some a) (sym e))) (set_good t a (c ∷ s) p.good r.0 r.1 l, set_agrees t f a c s p.good r.0 r.1 l y)

fresh_none : Agrees (replicate 2064 0) (λ a. none)
unfolding topic_of
fresh_none a h k = rw (get_or-replicate {A = ℕ} 2064 (slot a) 0 0 (omega arith))

fresh_good : table_good (replicate 2064 0) ≡ true
unfolding lengths_good
fresh_good = refl

-- what is left behind any answer
answered : (t u : List ℕ) (f : Known) (topic : List ℕ) (a : Option ℕ) (r : Result (Unit {0}) AliasError) → Learnt t topic a u r → (table_good t ≡ true) × Agrees t f
    → (table_good u ≡ true) × Agrees u (known_by r f topic a)
answered t u f topic a (Ok v) l i = rw l.after (sent_agrees t f topic a (sym l.told) i.1)
answered t u f topic a (Err e) l i = rw (l.after, sym (after_bad t topic a (told_alias e) l.told)) i

-- P6: whatever was sent before, from a fresh table on
pub reached_agrees : {t : List ℕ} {f : Known} → Reached t f → (table_good t ≡ true) × Agrees t f
reached_agrees fresh = (fresh_good, fresh_none)
reached_agrees (learnt {t} {u} {f} topic a r h l) = answered t u f topic a r l (reached_agrees h)

-- ---- the topic in force

-- the two parts of the definition
abbrev WhereAt : List ℕ → List ℕ → Span → Option ℕ → Lies
WhereAt s t p a = cond (empty (held_of s p)) (stored_at t p a) (in_packet p)

force_parts : (s t : List ℕ) (p : Span) (a : Option ℕ) (l : Lies) → in_force s t p a ≡ got l → (permit t (held_of s p) a ≡ got tt) × (WhereAt s t p a ≡ l)
unfolding in_force
force_parts s t p a l e = go (permit t (held_of s p) a) refl e
  where
    go : (m : Fit (Unit {0})) → permit t (held_of s p) a ≡ m → (m >> got (WhereAt s t p a)) ≡ got l → (permit t (held_of s p) a ≡ got tt) × (WhereAt s t p a ≡ l)
    go (got u) q h = (q, got_inj h)
    go (bad k) q h = absurd (bad_got h)

-- the place of a stored topic lies in the table
stored_within : (t : List ℕ) (b : ℕ) → table_good t ≡ true → 1 ≤ b → b ≤ 16 → slot b + 1 + stored_len t b ≤ length t
stored_within t b g h k = omega (arith, good_length t g, length_good t 16 b (good_lengths t g) h k)

some_stored : (t : List ℕ) (a : ℕ) → (stored_len t a ≡ 0 → ⊥) → topic_of t a ≡ some (stored_topic t a)
unfolding topic_of
some_stored t a h = rw (ne_eqb (stored_len t a) 0 h)

-- P6: the part in force has the bytes that are known: s is the stream, p where the packet's own topic stands
pub in_force_is : (s t : List ℕ) (f : Known) (p : Span) (a : Option ℕ) (l : Lies) → in_force s t p a ≡ got l → Agrees t f → some (bytes_at s t l) ≡ forced f (held_of s p) a
in_force_is s t f p a l e y = let (g, w) = force_parts s t p a l e in rw (sym w) (go (held_of s p) refl a g)
  where
    go : (topic : List ℕ) → held_of s p ≡ topic → (a : Option ℕ) → permit t (held_of s p) a ≡ got tt → some (bytes_at s t (WhereAt s t p a)) ≡ forced f (held_of s p) a
    go (c ∷ topic) q none g = rw q (ap some q)
    go (c ∷ topic) q (some b) g = rw q (ap some q)
    go [] q none g = absurd (false≢true (permits t [] none (rw q at g)).given)
    go [] q (some b) g =
        let m = permits t [] (some b) (rw q at g) in
        let r = in_range_lem t [] (some b) b refl m.valid in
        let n = eqb-false (stored_len t b) 0 (not-true (eqb (stored_len t b) 0) m.known) in
        let h = held_within t (record { start = slot b + 1; len = stored_len t b }) (stored_within t b m.good r.0 r.1) in
        rw q (rw (sym h, sym (some_stored t b n)) (y b r.0 r.1))

-- P6: the same after any messages on a fresh table, in one statement
pub in_force_reached : (s t : List ℕ) (f : Known) (p : Span) (a : Option ℕ) (l : Lies) → Reached t f → in_force s t p a ≡ got l → some (bytes_at s t l) ≡ forced f (held_of s p) a
in_force_reached s t f p a l h e = in_force_is s t f p a l e (reached_agrees h).1

-- within the slice that it lies in, one byte at least
abbrev pub Within : List ℕ → List ℕ → Lies → Type 0
Within s t (in_packet p) = (p.start + p.len ≤ length s) × (0 < p.len)
Within s t (in_table p) = (p.start + p.len ≤ length t) × (0 < p.len)

held_some : (s : List ℕ) (p : Span) (c : ℕ) (topic : List ℕ) → held_of s p ≡ c ∷ topic → (p.start + p.len ≤ length s) × (0 < p.len)
unfolding held_of
held_some s p c topic e = go (leb (p.start + p.len) (length s)) refl p.len refl e
  where
    go : (b : Bool) → leb (p.start + p.len) (length s) ≡ b → (n : ℕ) → p.len ≡ n → cond b (part_of s p) [] ≡ c ∷ topic → (p.start + p.len ≤ length s) × (0 < p.len)
    go true h (suc n) q e = (leb-true (p.start + p.len) (length s) h, omega arith)
    go true h zero q e = absurd (none_some (rw q at e))
      where
        none_some : take 0 (drop p.start s) ≡ c ∷ topic → ⊥
        none_some e = let z : ◌≡◌ {A = ℕ} 0 (suc (length topic)) = ap length e in omega arith
    go false h n q e = let z : ◌≡◌ {A = ℕ} 0 (suc (length topic)) = ap length e in absurd (omega arith)

-- P6: where it is said to lie, it does; so an empty part of `topic_in_force` says that the message was refused
pub in_force_within : (s t : List ℕ) (p : Span) (a : Option ℕ) (l : Lies) → in_force s t p a ≡ got l → Within s t l
in_force_within s t p a l e = let (g, w) = force_parts s t p a l e in rw (sym w) (go (held_of s p) refl a g)
  where
    go : (topic : List ℕ) → held_of s p ≡ topic → (a : Option ℕ) → permit t (held_of s p) a ≡ got tt → Within s t (WhereAt s t p a)
    go (c ∷ topic) q a g = rw q (held_some s p c topic q)
    go [] q none g = absurd (false≢true (permits t [] none (rw q at g)).given)
    go [] q (some b) g =
        let m = permits t [] (some b) (rw q at g) in
        let r = in_range_lem t [] (some b) b refl m.valid in
        let n = eqb-false (stored_len t b) 0 (not-true (eqb (stored_len t b) 0) m.known) in
        rw q (stored_within t b m.good r.0 r.1, omega (arith, n))

-- P6: the topic in force is not empty ..
pub in_force_some : (s t : List ℕ) (p : Span) (a : Option ℕ) (l : Lies) → in_force s t p a ≡ got l → 0 < length (bytes_at s t l)
in_force_some s t p a l e = go l (in_force_within s t p a l e)
  where
    held : (s : List ℕ) (p : Span) → p.start + p.len ≤ length s → 0 < p.len → 0 < length (held_of s p)
    held s p h k = rw (sym (held_within s p h)) (simp (length-take, length-drop) (omega arith))

    go : (l : Lies) → Within s t l → 0 < length (bytes_at s t l)
    go (in_packet q) (h, k) = held s q h k
    go (in_table q) (h, k) = held t q h k

empty_held : (s : List ℕ) → held_of s (record { start = 0; len = 0 }) ≡ []
unfolding held_of
empty_held s = go (leb 0 (length s))
  where
    go : (b : Bool) → cond b (take 0 s) [] ≡ []
    go true = refl
    go false = refl

-- .. so that the part that `topic_in_force` hands back is empty exactly where the message is refused: its bytes
pub part_in_bytes : (s t r : Bor (List ℕ)) (w : Fit Lies) → PartIn s t w r → r.now ≡ force_bytes s.now t.now w
part_in_bytes s t r (got (in_packet p)) h = h.bytes
part_in_bytes s t r (got (in_table p)) h = h.bytes
part_in_bytes s t r (bad k) h = h.bytes ∙ empty_held s.now

-- P6: where the topic in force lies may be asked before the message is learnt or after
pub in_force_again : (s t : List ℕ) (p : Span) (a : Option ℕ) → in_force s (table_after t (held_of s p) a) p a ≡ in_force s t p a
in_force_again s t p a = go (held_of s p) refl a (permit t (held_of s p) a) refl
  where
    go : (topic : List ℕ) → held_of s p ≡ topic → (a : Option ℕ) (m : Fit (Unit {0})) → permit t (held_of s p) a ≡ m → in_force s (table_after t (held_of s p) a) p a ≡ in_force s t p a
    go topic q a (bad k) e = rw (sym (after_bad t (held_of s p) a k (sym e)))
    go topic q none (got u) e = rw (sym (after_got t (held_of s p) none (sym e)))
    go [] q (some a) (got u) e = let w = after_got t (held_of s p) (some a) (sym e) in rw (sym w, q)
    go (c ∷ x) q (some a) (got u) e =
        let g = rw q at e in
        let m = permits t (c ∷ x) (some a) g in
        let r = in_range_lem t (c ∷ x) (some a) a refl m.valid in
        let l = has_room t (c ∷ x) (some a) a refl g in
        let n = permit_new (set_alias t a (c ∷ x)) (c ∷ x) (set_good t a (c ∷ x) m.good r.0 r.1 l) a r.0 r.1 (λ z. omega arith) l in
        let w = after_got t (c ∷ x) (some a) (sym g) in
        let before = force_own s t (c ∷ x) p (some a) (sym q) (sym g) (some_topic c x) in
        let after = force_own s (set_alias t a (c ∷ x)) (c ∷ x) p (some a) (sym q) n (some_topic c x) in
        rw (q, sym w) (sym after ∙ before)
