-- A write is accepted or refused exactly as 01's rows and its writing order say. Assumes nothing.
use mathlib.Core.Path.{◌≡◌, refl, sym, ap, ◌∙◌, subst}
use mathlib.Core.Bool.{Bool, true, false, false≢true}
use mathlib.Core.Option.{Option, none, some}
use mathlib.Core.Logic.{◌↔◌, ◌⊎◌, inl, inr}
use mathlib.Core.List.{List, [], ◌∷◌}
use Prim.Native.Nat.{ℕ, zero, suc, ◌≤◌, ◌<◌}
use lib.Dec.{eqb-suc-zero}
use lib.ListN.{length}
use borrow.Author.Tests.{le-leb, lt-leb}
use Rattle.grammar.specs.Choice.{is_in}
use Rattle.grammar.specs.Text.{Utf8}
use Rattle.grammar.specs.Sentence.{qos_fine, rule_fine}
use Rattle.grammar.specs.Octets.{Each, nil, ◌&◌}
use Rattle.reading.specs.Refusal.{Refusal, nr}
use Rattle.reading.specs.Reader.{Fit, got, bad, ◌>>◌}
use Rattle.reading.specs.Read.{is_text}
use Rattle.reading.proofs.Reading.{bad_got, got_inj}
use Rattle.reading.proofs.Fields.{text_fine}
use Rattle.writing.specs.Handed.{Handed, belongs}
use Rattle.writing.specs.Size.{most, rest_is, size_is}
use Rattle.writing.specs.Order.{Field, raw, word, filter, code, fields_of, numbers_of, has_ident, has_entries, permit_sized, permit}
use Rattle.writing.specs.Write.{frame_bytes, size_of, write_of, answer_of}
use Rattle.writing.specs.Refuse.{Belongs, Short, Writable, Faulty, long_raw, long_word, long_filter, bad_word, bad_filter, bad_rule, bad_qos, unlisted, FirstFault, Small, Fine, Unfit, large, nought, FirstUnfit, LacksIdent, LacksEntries, Within, Countable, Refuses, field, too_large, no_name, number, none_asked, no_room, Accepts, Unsized, HasSize}
use Rattle.writing.proofs.Tests.{passes_when, fails_when, decide_by, le_or}
use Rattle.writing.proofs.Belong.{belongs_when, unnamed_when, unasked_when}
use Rattle.writing.proofs.Judge.{fields_pass, fields_fault, numbers_pass, numbers_fault, limit_pass, limit_fault}
use Rattle.writing.specs.Refuse as r

-- ---- decisions

either : (t : Bool) → (t ≡ true) ⊎ (t ≡ false)
either t = decide_by t (λ e. e) (λ e. e)

-- of a test that holds exactly when P does
holds_or : {P : Type 0} (t : Bool) → (t ≡ true) ↔ P → P ⊎ (P → ⊥)
holds_or t w = decide_by t w.0 (λ e p. false≢true (sym e ∙ w.1 p))

-- of one that fails exactly when P does
fails_or : {P : Type 0} (t : Bool) → (t ≡ false) ↔ P → (P → ⊥) ⊎ P
fails_or t w = decide_by t (passes_when t w).0 w.0

decide_word : (s : List ℕ) → (Short s × Utf8 s) ⊎ ((65535 < length s) ⊎ (Short s × (Utf8 s → ⊥)))
decide_word s = go (le_or (length s) 65535) (holds_or (is_text s) (text_fine s))
  where
    go : (Short s ⊎ (65535 < length s)) → (Utf8 s ⊎ (Utf8 s → ⊥)) → (Short s × Utf8 s) ⊎ ((65535 < length s) ⊎ (Short s × (Utf8 s → ⊥)))
    go (inr l) u = inr (inl l)
    go (inl h) (inl u) = inl (h, u)
    go (inl h) (inr n) = inr (inr (h, n))

decide_field : (f : Field) → Writable f ⊎ ((k : Refusal) × Faulty f k)
decide_field (raw s) = go (le_or (length s) 65535)
  where
    go : (Short s ⊎ (65535 < length s)) → Writable (raw s) ⊎ ((k : Refusal) × Faulty (raw s) k)
    go (inl h) = inl h
    go (inr l) = inr (nr 18 (length s ∷ []), long_raw l)
decide_field (word s) = go (decide_word s)
  where
    go : ((Short s × Utf8 s) ⊎ ((65535 < length s) ⊎ (Short s × (Utf8 s → ⊥)))) → Writable (word s) ⊎ ((k : Refusal) × Faulty (word s) k)
    go (inl h) = inl h
    go (inr (inl l)) = inr (nr 18 (length s ∷ []), long_word l)
    go (inr (inr t)) = inr (nr 9 [], bad_word t.0 t.1)
decide_field (filter s o) = go (decide_word s) (either (rule_fine o)) (either (qos_fine o))
  where
    go : ((Short s × Utf8 s) ⊎ ((65535 < length s) ⊎ (Short s × (Utf8 s → ⊥)))) → ((rule_fine o ≡ true) ⊎ (rule_fine o ≡ false)) → ((qos_fine o ≡ true) ⊎ (qos_fine o ≡ false))
        → Writable (filter s o) ⊎ ((k : Refusal) × Faulty (filter s o) k)
    go (inr (inl l)) p q = inr (nr 18 (length s ∷ []), long_filter l)
    go (inr (inr t)) p q = inr (nr 9 [], bad_filter t.0 t.1)
    go (inl t) (inr p) q = inr (nr 14 (3 ∷ []), bad_rule t.0 t.1 p)
    go (inl t) (inl p) (inr q) = inr (nr 11 (3 ∷ []), bad_qos t.0 t.1 p q)
    go (inl t) (inl p) (inl q) = inl (t.0, t.1, p, q)
decide_field (code rs c) = go (either (is_in c rs))
  where
    go : ((is_in c rs ≡ true) ⊎ (is_in c rs ≡ false)) → Writable (code rs c) ⊎ ((k : Refusal) × Faulty (code rs c) k)
    go (inl p) = inl p
    go (inr p) = inr (nr 15 (c ∷ []), unlisted p)

decide_fields : (fs : List Field) → Each Writable fs ⊎ ((k : Refusal) × FirstFault k fs)
decide_fields [] = inl nil
decide_fields (f ∷ fs) = go (decide_field f) (decide_fields fs)
  where
    go : (Writable f ⊎ ((k : Refusal) × Faulty f k)) → (Each Writable fs ⊎ ((k : Refusal) × FirstFault k fs)) → Each Writable (f ∷ fs) ⊎ ((k : Refusal) × FirstFault k (f ∷ fs))
    go (inr t) m = inr (t.0, r.FirstFault.here t.1)
    go (inl p) (inl ps) = inl (p & ps)
    go (inl p) (inr t) = inr (t.0, r.FirstFault.later p t.1)

decide_number : (n : ℕ) → Fine n ⊎ ((k : Refusal) × Unfit n k)
decide_number zero = inr (nr 23 [], nought)
decide_number (suc n) = go (le_or (suc n) most)
  where
    go : (Small (suc n) ⊎ (most < suc n)) → Fine (suc n) ⊎ ((k : Refusal) × Unfit (suc n) k)
    go (inl p) = inl (p, rw (eqb-suc-zero n))
    go (inr p) = inr (nr 17 [], large p)

decide_numbers : (ns : List ℕ) → Each Fine ns ⊎ ((k : Refusal) × FirstUnfit k ns)
decide_numbers [] = inl nil
decide_numbers (n ∷ ns) = go (decide_number n) (decide_numbers ns)
  where
    go : (Fine n ⊎ ((k : Refusal) × Unfit n k)) → (Each Fine ns ⊎ ((k : Refusal) × FirstUnfit k ns)) → Each Fine (n ∷ ns) ⊎ ((k : Refusal) × FirstUnfit k (n ∷ ns))
    go (inr t) m = inr (t.0, r.FirstUnfit.here t.1)
    go (inl p) (inl ps) = inl (p & ps)
    go (inl p) (inr t) = inr (t.0, r.FirstUnfit.later p t.1)

decide_limit : (limit : Option ℕ) (n : ℕ) → Within limit n ⊎ ((m : ℕ) × (limit ≡ some m) × (m < n))
decide_limit none n = inl tt
decide_limit (some m) n = go (le_or n m)
  where
    go : ((n ≤ m) ⊎ (m < n)) → (n ≤ m) ⊎ ((l : ℕ) × (some m ≡ some l) × (l < n))
    go (inl h) = inl h
    go (inr h) = inr (m, refl, h)

-- ---- the order

module _ (limit : Option ℕ) (room : ℕ) (h : Handed) where
  -- a row applies, or none does
  decide : Accepts limit room h ⊎ ((k : Refusal) × Refuses limit room h k)
  decide = go (holds_or (belongs h) (belongs_when h)) (decide_fields (fields_of h)) (le_or (rest_is h) most) (decide_limit limit (size_is h)) (fails_or (has_ident h) (unnamed_when h))
      (decide_numbers (numbers_of h)) (fails_or (has_entries h) (unasked_when h)) (le_or (size_is h) room)
    where
      go : (Belongs h ⊎ (Belongs h → ⊥)) → (Each Writable (fields_of h) ⊎ ((k : Refusal) × FirstFault k (fields_of h))) → (Small (rest_is h) ⊎ (most < rest_is h))
          → (Within limit (size_is h) ⊎ ((m : ℕ) × (limit ≡ some m) × (m < size_is h))) → ((LacksIdent h → ⊥) ⊎ LacksIdent h) → (Each Fine (numbers_of h) ⊎ ((k : Refusal) × FirstUnfit k (numbers_of h)))
          → ((LacksEntries h → ⊥) ⊎ LacksEntries h) → ((size_is h ≤ room) ⊎ (room < size_is h)) → Accepts limit room h ⊎ ((k : Refusal) × Refuses limit room h k)
      go (inr w) f l m i n s o = inr (nr 20 [], r.Refuses.mismatch w)
      go (inl w) (inr f) l m i n s o = inr (f.0, field w f.1)
      go (inl w) (inl f) (inr l) m i n s o = inr (nr 17 [], r.Refuses.too_long w f l)
      go (inl w) (inl f) (inl l) (inr m) i n s o = inr (nr 16 (size_is h ∷ m.0 ∷ []), too_large (record { belongs = w; fields = f; rest = l }) m.1 m.2)
      go (inl w) (inl f) (inl l) (inl m) (inr i) n s o = inr (nr 12 [], no_name (record { belongs = w; fields = f; rest = l }) m i)
      go (inl w) (inl f) (inl l) (inl m) (inl i) (inr n) s o = inr (n.0, number (record { belongs = w; fields = f; rest = l }) m i n.1)
      go (inl w) (inl f) (inl l) (inl m) (inl i) (inl n) (inr s) o = inr (nr 13 [], none_asked (record { belongs = w; fields = f; rest = l }) m i n s)
      go (inl w) (inl f) (inl l) (inl m) (inl i) (inl n) (inl s) (inr o) = inr (nr 19 (size_is h ∷ []), no_room (record { belongs = w; fields = f; rest = l }) m i n s o)
      go (inl w) (inl f) (inl l) (inl m) (inl i) (inl n) (inl s) (inl o) =
          inl (record { countable = record { belongs = w; fields = f; rest = l }; within = m; has_ident = i; numbers = n; has_entries = s; fits = o })

  unnamed_not : (LacksIdent h → ⊥) → has_ident h ≡ true
  unnamed_not = (passes_when (has_ident h) (unnamed_when h)).1

  unasked_not : (LacksEntries h → ⊥) → has_entries h ≡ true
  unasked_not = (passes_when (has_entries h) (unasked_when h)).1

  go_on : Countable h → permit limit room h ≡ permit_sized limit room h
  unfolding permit
  go_on c = rw ((belongs_when h).1 c.belongs, fields_pass c.fields, le-leb (rest_is h) most c.rest)

  accepts_got : Accepts limit room h → permit limit room h ≡ got tt
  accepts_got p =
      go_on p.countable
      ∙ rw (limit_pass limit (size_is h) p.within, unnamed_not p.has_ident, numbers_pass p.numbers, unasked_not p.has_entries, le-leb (size_is h) room p.fits)

  refuses_bad : (k : Refusal) → Refuses limit room h k → permit limit room h ≡ bad k
  unfolding permit
  refuses_bad _ (r.Refuses.mismatch w) = rw (fails_when (belongs h) (belongs_when h) w)
  refuses_bad _ (field w f) = rw ((belongs_when h).1 w, fields_fault f)
  refuses_bad _ (r.Refuses.too_long w f l) = rw ((belongs_when h).1 w, fields_pass f, lt-leb (rest_is h) most l)
  refuses_bad _ (too_large {m} c e l) = go_on c ∙ rw (e, limit_fault m (size_is h) l)
  refuses_bad _ (no_name c m i) = go_on c ∙ rw (limit_pass limit (size_is h) m, (unnamed_when h).1 i)
  refuses_bad _ (number c m i n) = go_on c ∙ rw (limit_pass limit (size_is h) m, unnamed_not i, numbers_fault n)
  refuses_bad _ (none_asked c m i n s) = go_on c ∙ rw (limit_pass limit (size_is h) m, unnamed_not i, numbers_pass n, (unasked_when h).1 s)
  refuses_bad _ (no_room c m i n s o) = go_on c ∙ rw (limit_pass limit (size_is h) m, unnamed_not i, numbers_pass n, unasked_not s, lt-leb (size_is h) room o)

-- ---- the verdict

-- an answer that is a if P holds, and k if Q k does, where one of them does: it is so exactly then
module _ {A : Type 0} {P : Type 0} {Q : Refusal → Type 0} (m : Fit A) (a : A) (yes' : P → m ≡ got a) (no' : (k : Refusal) → Q k → m ≡ bad k) (decided : P ⊎ ((k : Refusal) × Q k)) where
  got_when : (b : A) → (m ≡ got b) ↔ (P × (a ≡ b))
  got_when b = (go decided, λ p. yes' p.0 ∙ ap got p.1)
    where
      go : P ⊎ ((k : Refusal) × Q k) → m ≡ got b → P × (a ≡ b)
      go (inl p) e = (p, got_inj (sym (yes' p) ∙ e))
      go (inr t) e = absurd (bad_got (sym (no' t.0 t.1) ∙ e))

  bad_when : (k : Refusal) → (m ≡ bad k) ↔ Q k
  bad_when k = (go decided, no' k)
    where
      go : P ⊎ ((k : Refusal) × Q k) → m ≡ bad k → Q k
      go (inl p) e = absurd (bad_got (sym e ∙ yes' p))
      go (inr t) e =
          let q : ◌≡◌ {A = Fit A} (bad t.0) (bad k) = sym (no' t.0 t.1) ∙ e in
          let i : t.0 ≡ k = cc in
          subst Q i t.1

module _ (limit : Option ℕ) (room : ℕ) (h : Handed) where
  -- what is given if the write is permitted, and else the refusal
  module _ {A : Type 0} (a : A) where
    abbrev given : Fit A
    given = permit limit room h >> got a

    given_got : Accepts limit room h → given ≡ got a
    given_got p = rw (accepts_got limit room h p)

    given_bad : (k : Refusal) → Refuses limit room h k → given ≡ bad k
    given_bad k p = rw (refuses_bad limit room h k p)

  -- a write is accepted exactly when no row applies, and then it is the frame
  pub accepted_when : (b : List ℕ) → (write_of limit room h ≡ got b) ↔ (Accepts limit room h × (frame_bytes h ≡ b))
  unfolding write_of
  accepted_when = got_when (given (frame_bytes h)) (frame_bytes h) (given_got (frame_bytes h)) (given_bad (frame_bytes h)) (decide limit room h)

  -- it is refused exactly as the first row that applies says
  pub refused_when : (k : Refusal) → (write_of limit room h ≡ bad k) ↔ Refuses limit room h k
  unfolding write_of
  refused_when = bad_when (given (frame_bytes h)) (frame_bytes h) (given_got (frame_bytes h)) (given_bad (frame_bytes h)) (decide limit room h)

  -- the answer is the size, exactly when the write is accepted
  pub answered_when : (n : ℕ) → (answer_of limit room h ≡ got n) ↔ (Accepts limit room h × (size_is h ≡ n))
  unfolding answer_of
  answered_when = got_when (given (size_is h)) (size_is h) (given_got (size_is h)) (given_bad (size_is h)) (decide limit room h)

  -- and the refusal, exactly when it is refused
  pub unanswered_when : (k : Refusal) → (answer_of limit room h ≡ bad k) ↔ Refuses limit room h k
  unfolding answer_of
  unanswered_when = bad_when (given (size_is h)) (size_is h) (given_got (size_is h)) (given_bad (size_is h)) (decide limit room h)

-- inputs admit one result only: no two rows are given
module _ (limit : Option ℕ) (room : ℕ) (h : Handed) where
  pub one_refusal : (k k' : Refusal) → Refuses limit room h k → Refuses limit room h k' → k ≡ k'
  one_refusal k k' p p' = let e : ◌≡◌ {A = Fit (Unit {0})} (bad k) (bad k') = sym (refuses_bad limit room h k p) ∙ refuses_bad limit room h k' p' in cc

-- what was accepted, and its bytes
module _ (limit : Option ℕ) (room : ℕ) (h : Handed) (b : List ℕ) (e : write_of limit room h ≡ got b) where
  pub accepts : Accepts limit room h
  accepts = ((accepted_when limit room h b).0 e).0

  pub written : b ≡ frame_bytes h
  written = sym ((accepted_when limit room h b).0 e).1

-- ---- size, asked alone

module _ (h : Handed) where
  decide_size : HasSize h ⊎ ((k : Refusal) × Unsized h k)
  decide_size = go (holds_or (belongs h) (belongs_when h)) (le_or (rest_is h) most)
    where
      go : (Belongs h ⊎ (Belongs h → ⊥)) → (Small (rest_is h) ⊎ (most < rest_is h)) → HasSize h ⊎ ((k : Refusal) × Unsized h k)
      go (inr w) l = inr (nr 20 [], r.Unsized.mismatch w)
      go (inl w) (inr l) = inr (nr 17 [], r.Unsized.too_long w l)
      go (inl w) (inl l) = inl (w, l)

  sized_got : HasSize h → size_of h ≡ got (size_is h)
  unfolding size_of
  sized_got (w, l) = rw ((belongs_when h).1 w, le-leb (rest_is h) most l)

  unsized_bad : (k : Refusal) → Unsized h k → size_of h ≡ bad k
  unfolding size_of
  unsized_bad _ (r.Unsized.mismatch w) = rw (fails_when (belongs h) (belongs_when h) w)
  unsized_bad _ (r.Unsized.too_long w l) = rw ((belongs_when h).1 w, lt-leb (rest_is h) most l)

  -- the size is told exactly when what is handed over belongs together and R can be written
  pub sized_when : (n : ℕ) → (size_of h ≡ got n) ↔ (HasSize h × (size_is h ≡ n))
  sized_when = got_when (size_of h) (size_is h) sized_got unsized_bad decide_size

  -- it is refused exactly as 20, then 17 for R say
  pub unsized_when : (k : Refusal) → (size_of h ≡ bad k) ↔ Unsized h k
  unsized_when = bad_when (size_of h) (size_is h) sized_got unsized_bad decide_size
