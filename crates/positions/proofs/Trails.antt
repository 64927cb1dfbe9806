-- What a reader leaves is an end of what it was given: one law for each way to build a reader, and so of every reader, whatever strings
-- are handed back as. Assumes nothing.
use mathlib.Core.Path.{◌≡◌, refl, sym, ◌∙◌}
use mathlib.Core.Bool.{Bool}
use mathlib.Core.Option.{Option, none, some}
use mathlib.Core.List.{List, [], ◌∷◌, ◌++◌, append_assoc}
use Prim.Native.Nat.{ℕ, ◌-◌}
use lib.Dec.{leb}
use lib.ListN.{length, take, drop, take-append-drop}
use Rattle.grammar.specs.Gram.{Gram}
use Rattle.grammar.specs.Tables.{Form, u8, u16, u32, number, text, bytes, pair, Row, form_at}
use Rattle.grammar.specs.Record.{num, str, PropOf, mk_filter}
use Rattle.grammar.specs.Sentence.{duo_of, not_zero}
use Rattle.reading.specs.Refusal.{Refusal, cut}
use Rattle.reading.specs.Reader.{got, Reader, Filler, map_of, only_of, then_of, sized_of}
use Rattle.reading.specs.Read.{big_of, byte_of, num_of, Shape, bytes_of, text_of, value_of, value_at, property_of, block_of, filter_of, reason_of}
use Rattle.reading.proofs.Reading.{bad_got, from_got, from_bind, from_guard, Reads}
use Rattle.reading.proofs.Fields.{reads_byte, reads_big, reads_num}

-- s ends with r
abbrev pub Ends : List ℕ → List ℕ → Type 0
Ends s r = (b : List ℕ) × (s ≡ b ++ r)

-- what a reader leaves is an end of what it was given
abbrev pub Trails : {A : Type 0} → Reader A → Type 0
Trails {A = A} p = (s : List ℕ) (z : A × List ℕ) → p s ≡ got z → Ends s z.1

ends_then : (s r t : List ℕ) → Ends s r → Ends r t → Ends s t
ends_then s r t (b, e) (c, e') = (b ++ c, e ∙ rw (e', append_assoc b c t))

ends_drop : (n : ℕ) (r : List ℕ) → Ends r (drop n r)
ends_drop n r = (take n r, sym (take-append-drop n r))

-- so of a reader that reads a grammar
pub trails_reads : {A : Type 0} {p : Reader A} {G : Gram A} → Reads p G → Trails p
trails_reads R s z e = let (b, e₁, g) = R.split s z e in (b, e₁)

module _ {A : Type 0} {p : Reader A} (T : Trails p) where
  pub trails_map : {B : Type 0} (f : A → B) → Trails (map_of f p)
  unfolding map_of
  trails_map {B = B} f s = from_bind (p s) _ λ y e. from_got (λ (z : B × List ℕ). Ends s z.1) _ (T s y e)

  trails_only : (t : A → Bool) (k : A → Refusal) → Trails (only_of t k p)
  unfolding only_of
  trails_only t k s = from_bind (p s) _ λ y e. from_guard (t y.0) _ _ λ _. from_got (λ (z : A × List ℕ). Ends s z.1) _ (T s y e)

  pub trails_then : {B : Type 0} {q : A → Reader B} → ((a : A) → Trails (q a)) → Trails (then_of p q)
  unfolding then_of
  trails_then {B = B} {q = q} H s = from_bind (p s) _ λ x e. from_bind (q x.0 x.1) _ λ y e'.
      from_got (λ (z : (A × B) × List ℕ). Ends s z.1) _ (ends_then s x.1 y.1 (T s x e) (H x.0 x.1 y e'))

trails_sized : {A : Type 0} {n : Reader ℕ} → Trails n → (k : ℕ → List ℕ → Refusal) (q : ℕ → Filler A) (end : ℕ) → Trails (sized_of n k q end)
unfolding sized_of
trails_sized {A = A} {n = n} T k q end s = from_bind (n s) _ λ x e. from_guard (leb x.0 (length x.1)) _ _ λ _.
    from_bind (q (end - length (drop x.0 x.1)) (take x.0 x.1)) _ λ a e'.
    from_got (λ (z : A × List ℕ). Ends s z.1) _ (ends_then s x.1 (drop x.0 x.1) (T s x e) (ends_drop x.0 x.1))

-- ---- every reader

pub trails_byte : (c : Refusal) → Trails (byte_of c)
trails_byte c = trails_reads (reads_byte c)

pub trails_big : (c : Refusal) (k : ℕ) → Trails (big_of c k)
trails_big c k = trails_reads (reads_big c k)

pub trails_num : (c : Refusal) (k : ℕ) → Trails (num_of c k)
trails_num c k = trails_reads (reads_num c k)

module _ (h : Shape) (end : ℕ) where
  pub trails_bytes : Trails (bytes_of h end)
  unfolding bytes_of
  trails_bytes = trails_sized (trails_big cut 2) _ _ end

  pub trails_text : Trails (text_of h end)
  unfolding text_of
  trails_text = trails_sized (trails_big cut 2) _ _ end

  trails_value : (f : Form) → Trails (value_of h f end)
  unfolding value_of
  trails_value u8 = trails_map (trails_byte cut) num
  trails_value u16 = trails_map (trails_big cut 2) num
  trails_value u32 = trails_map (trails_big cut 4) num
  trails_value number = trails_map (trails_only (trails_num cut 4) not_zero _) num
  trails_value text = trails_map trails_text str
  trails_value bytes = trails_map trails_bytes str
  trails_value pair = trails_map (trails_then trails_text (λ _. trails_text)) duo_of

  trails_at : (o : Option Form) (i : ℕ) (s : List ℕ) (z : PropOf h.Str × List ℕ) → value_at h o i end s ≡ got z → Ends (i ∷ s) z.1
  unfolding value_at
  trails_at none i s = λ z e. absurd (bad_got e)
  trails_at (some f) i s = from_bind (value_of h f end s) _ λ y e.
      from_got (λ (z : PropOf h.Str × List ℕ). Ends (i ∷ s) z.1) _ (ends_then (i ∷ s) s y.1 (i ∷ [], refl) (trails_value f s y e))

  pub trails_property : (row : Row) → Trails (property_of h row end)
  unfolding property_of
  trails_property row [] = λ z e. absurd (bad_got e)
  trails_property row (i ∷ s) = trails_at (form_at row i) i s

  pub trails_block : {A : Type 0} (row : Row) (f : List (PropOf h.Str) → List ℕ → ℕ → A) → Trails (block_of h row f end)
  unfolding block_of
  trails_block row f = trails_sized (trails_num cut 4) _ _ end

  pub trails_filter : Trails (filter_of h end)
  unfolding filter_of
  trails_filter = trails_map (trails_then trails_text (λ _. trails_only (trails_only (trails_byte cut) _ _) _ _)) mk_filter

pub trails_reason : (rs : List ℕ) → Trails (reason_of rs)
trails_reason rs = trails_only (trails_byte cut) _ _
