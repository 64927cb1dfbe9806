-- How a property is read at an index: its identifier, then its value by the form that the row gives it. Assumes nothing.
use Rattle.std.specs.Prelude.{Result, Ok, Err}
use mathlib.Core.Path.{◌≡◌, refl, sym, ap, ◌∙◌}
use mathlib.Core.Option.{Option, none, some}
use mathlib.Core.List.{List, [], ◌∷◌}
use Prim.Native.Nat.{ℕ, ◌-◌, ◌<◌}
use native.Mathlib.Omega.{arith}
use lib.ListN.{length, drop, length-drop}
use Rattle.grammar.specs.Tables.{Form, u8, u16, u32, number, text, bytes, pair, Row, form_at}
use Rattle.grammar.specs.Record.{Val, num, str, PropOf}
use Rattle.grammar.specs.Sentence.{duo_of, not_zero}
use Rattle.reading.specs.Refusal.{Refusal, nr, cut}
use Rattle.reading.specs.Reader.{Fit, got, bad, Reader, ◌>>=◌, map_of, only_of, then_of}
use Rattle.reading.specs.Read.{big_of, byte_of, num_of, bytes_of, text_of, value_of, value_at, property_of}
use Rattle.reading.specs.Place.{Span, as_places}
use Rattle.reading.proofs.Reading.{bad_got, from_got, from_bind, reads_only}
use Rattle.reading.proofs.Fields.{reads_num}
use Rattle.reading.proofs.Refusing.{got_bad}
use Rattle.positions.specs.Position.{from_at, next_or}
use Rattle.positions.proofs.Less.{property_less}
use Rattle.positions.proofs.Trails.{Trails, trails_reads, trails_map, trails_then, trails_byte, trails_big, trails_num, trails_bytes, trails_text, trails_property}
use Rattle.positions.proofs.Position.{got_left, got_within, bad_left, left_at, left_bad}
use borrow.Author.Tests.{ne_eqb}
use Rattle.positions.proofs.Fill.{then_bad, map_bad, then_got, map_got}
use Rattle.records.specs.AsNumbers.{told_error, told_span}
use Rattle.records.specs.declared.error.Error.{Error}
use Rattle.records.specs.declared.span.Span as records
use Rattle.property_value.specs.OneProperty.{identifier_of, told_value, form_of, told_property, OfForm, ValueRead, PropertyRead, ValuePassed, PropertyPassed}
use Rattle.property_value.specs.declared.Value.{Value}
use Rattle.property_value.specs.declared.Value.TheVariants.{Pair}

-- ---- the value, by its form

-- values of the form f are what p reads, seen through inj
pub record Reader-of (f : Form) {A : Type 0} (inj : A → Val Span) (p : Reader A) (end : ℕ) : Type 0 where
  pub same : value_of as_places f end ≡ map_of inj p
  pub trails : Trails p

module _ (end : ℕ) where
  pub of_u8 : Reader-of u8 num (byte_of cut) end
  unfolding value_of
  of_u8 = record { same = refl; trails = trails_byte cut }

  pub of_u16 : Reader-of u16 num (big_of cut 2) end
  unfolding value_of
  of_u16 = record { same = refl; trails = trails_big cut 2 }

  pub of_u32 : Reader-of u32 num (big_of cut 4) end
  unfolding value_of
  of_u32 = record { same = refl; trails = trails_big cut 4 }

  pub of_number : Reader-of number num identifier_of end
  unfolding value_of
  of_number = record { same = refl; trails = trails_reads (reads_only not_zero (λ _. nr 23 []) (reads_num cut 4)) }

  pub of_text : Reader-of text str (text_of as_places end) end
  unfolding value_of
  of_text = record { same = refl; trails = trails_text as_places end }

  pub of_bytes : Reader-of bytes str (bytes_of as_places end) end
  unfolding value_of
  of_bytes = record { same = refl; trails = trails_bytes as_places end }

  pub of_pair : Reader-of pair duo_of (then_of (text_of as_places end) (λ _. text_of as_places end)) end
  unfolding value_of
  of_pair = record { same = refl; trails = trails_then (trails_text as_places end) (λ _. trails_text as_places end) }

-- ---- a subscription identifier

module _ (s : List ℕ) (at : ℕ) where
  pub identifier_bad : (k : Refusal) → bad k ≡ from_at (num_of cut 4) s at → bad k ≡ from_at identifier_of s at
  unfolding from_at only_of
  identifier_bad k e = rw (bad_left (num_of cut 4) s at k (sym e))

  module _ (x n : ℕ) (e : got (x, n) ≡ from_at (num_of cut 4) s at) where
    pub identifier_zero : x ≡ 0 → bad (nr 23 []) ≡ from_at identifier_of s at
    unfolding from_at only_of
    identifier_zero z = rw (got_left (num_of cut 4) s at (trails_num cut 4) x n (sym e), z)

    pub identifier_fine : (x ≡ 0 → ⊥) → got (x, n) ≡ from_at identifier_of s at
    unfolding only_of
    identifier_fine z = sym (left_at identifier_of s at x n (rw (got_left (num_of cut 4) s at (trails_num cut 4) x n (sym e), ne_eqb x 0 z)) (got_within (num_of cut 4) s at (trails_num cut 4) x n (sym e)))

-- the value with its identifier
abbrev tagged : {A : Type 0} → (A → Val Span) → Reader A → ℕ → Reader (PropOf Span)
tagged inj p k = map_of (λ v. (k, v)) (map_of inj p)

value_tagged : {f : Form} {A : Type 0} {inj : A → Val Span} {p : Reader A} (s : List ℕ) → Reader-of f inj p (length s) → (k at : ℕ)
    → from_at (value_at as_places (some f) k (length s)) s at ≡ from_at (tagged inj p k) s at
unfolding value_at map_of
value_tagged s R k at = ap (λ (q : Reader (Val Span)). from_at (map_of (λ v. (k, v)) q) s at) R.same

module _ {f : Form} {A : Type 0} {inj : A → Val Span} {p : Reader A} (s : List ℕ) (k at : ℕ) (R : Reader-of f inj p (length s)) where
  value_got : (x : A) (m : ℕ) → got (x, m) ≡ from_at p s at → got ((k, inj x), m) ≡ from_at (value_at as_places (some f) k (length s)) s at
  value_got x m e =
      sym (map_got (map_of inj p) s at (trails_map R.trails inj) (inj x) m (map_got p s at R.trails x m (sym e) inj) (λ w. (k, w)))
      ∙ sym (value_tagged s R k at)

  value_bad : (c : Refusal) → bad c ≡ from_at p s at → bad c ≡ from_at (value_at as_places (some f) k (length s)) s at
  value_bad c h = sym (map_bad (map_of inj p) s at (λ w. (k, w)) c (map_bad p s at inj c (sym h))) ∙ sym (value_tagged s R k at)

module _ {f : Form} {A : Type 0} {inj : A → Val Span} {p : Reader A} {s : List ℕ} {k : ℕ} where
  pub found : {at m : ℕ} {x : A} {v : Value} → Reader-of f inj p (length s) → got (x, m) ≡ from_at p s at → told_value v ≡ inj x → form_of v ≡ f → ValueRead (some f) k s at (Ok (k, v, m))
  found {at = at} {m = m} {x = x} R e t u = record { says = ap (λ (w : Val Span). got ((k, w), m)) t ∙ value_got s k at R x m e; typed = ap some (sym u) }

  pub refused : {at : ℕ} {e : Error} → Reader-of f inj p (length s) → bad (told_error e) ≡ from_at p s at → ValueRead (some f) k s at (Err e)
  refused {at = at} {e = e} R h = record { says = value_bad s k at R (told_error e) h; typed = tt }

  -- the same where only the index after the value is asked for
  module _ {at start : ℕ} (R : Reader-of f inj p (length s)) where
    pub past : {x : A} {m : ℕ} → got (x, m) ≡ from_at p s start → ValuePassed f k s at start m
    past {x = x} {m = m} e = record { says = ap (next_or at) (value_got s k start R x m e) }

    pub not_past : {c : Refusal} → bad c ≡ from_at p s start → ValuePassed f k s at start at
    not_past {c = c} h = record { says = ap (next_or at) (value_bad s k start R c h) }

-- ---- two texts

-- the text at an index
abbrev text_at : List ℕ → ℕ → Fit (Span × ℕ)
text_at s at = from_at (text_of as_places (length s)) s at

-- the two texts at an index
abbrev texts_at : List ℕ → ℕ → Fit ((Span × Span) × ℕ)
texts_at s at = from_at (then_of (text_of as_places (length s)) (λ _. text_of as_places (length s))) s at

texts_next : (s : List ℕ) (at : ℕ) (x : Span) (m : ℕ) → got (x, m) ≡ text_at s at → texts_at s at ≡ (text_at s m >>= λ z. got ((x, z.0), z.1))
texts_next s at x m e = then_got (text_of as_places (length s)) s at (trails_text as_places (length s)) x m (sym e) (λ _. text_of as_places (length s))

module _ (s : List ℕ) (at : ℕ) where
  texts_bad : (c : Refusal) → bad c ≡ text_at s at → bad c ≡ texts_at s at
  texts_bad c h = sym (then_bad (text_of as_places (length s)) s at (λ _. text_of as_places (length s)) c (sym h))

  module _ (x : Span) (m : ℕ) (d : got (x, m) ≡ text_at s at) where
    texts_next_bad : (c : Refusal) → bad c ≡ text_at s m → bad c ≡ texts_at s at
    texts_next_bad c h = sym (texts_next s at x m d ∙ rw (sym h))

    texts_got : (y : Span) (n : ℕ) → got (y, n) ≡ text_at s m → got ((x, y), n) ≡ texts_at s at
    texts_got y n h = sym (texts_next s at x m d ∙ rw (sym h))

module _ {s : List ℕ} {k at : ℕ} where
  pub pair_bad : {e : Error} → bad (told_error e) ≡ text_at s at → ValueRead (some pair) k s at (Err e)
  pair_bad {e = e} h = refused (of_pair (length s)) (texts_bad s at (told_error e) h)

  pub pair_next_bad : {x : Span} {m : ℕ} {e : Error} → got (x, m) ≡ text_at s at → bad (told_error e) ≡ text_at s m → ValueRead (some pair) k s at (Err e)
  pair_next_bad {x = x} {m = m} {e = e} d h = refused (of_pair (length s)) (texts_next_bad s at x m d (told_error e) h)

  pub pair_got : {x y : records.Span} {m n : ℕ} → got (told_span x, m) ≡ text_at s at → got (told_span y, n) ≡ text_at s m → ValueRead (some pair) k s at (Ok (k, Pair x y, n))
  pair_got {x = x} {y = y} {m = m} {n = n} d h = found (of_pair (length s)) (texts_got s at (told_span x) m d (told_span y) n h) refl refl

  module _ {start : ℕ} where
    pub pair_not_past : {c : Refusal} → bad c ≡ text_at s start → ValuePassed pair k s at start at
    pair_not_past {c = c} h = not_past (of_pair (length s)) (texts_bad s start c h)

    pub pair_next_not_past : {x : Span} {m : ℕ} {c : Refusal} → got (x, m) ≡ text_at s start → bad c ≡ text_at s m → ValuePassed pair k s at start at
    pair_next_not_past {x = x} {m = m} {c = c} d h = not_past (of_pair (length s)) (texts_next_bad s start x m d c h)

    pub pair_past : {x y : Span} {m n : ℕ} → got (x, m) ≡ text_at s start → got (y, n) ≡ text_at s m → ValuePassed pair k s at start n
    pair_past {x = x} {y = y} {m = m} {n = n} d h = past (of_pair (length s)) (texts_got s start x m d y n h)

-- ---- the identifier before it

-- what is read has the identifier that was asked for
pub value_tag : (o : Option Form) (k end : ℕ) (l : List ℕ) (y : PropOf Span × List ℕ) → value_at as_places o k end l ≡ got y → y.0.0 ≡ k
unfolding value_at
value_tag none k end l = λ y e. absurd (bad_got e)
value_tag (some f) k end l = from_bind (value_of as_places f end l) _ λ x e. from_got (λ (y : PropOf Span × List ℕ). y.0.0 ≡ k) ((k, x.0), x.1) refl

value_id : (o : Option Form) (k end : ℕ) (s : List ℕ) (at : ℕ) (z : PropOf Span × ℕ) → from_at (value_at as_places o k end) s at ≡ got z → z.0.0 ≡ k
unfolding from_at
value_id o k end s at = from_bind (value_at as_places o k end (drop at s)) _ λ y e.
    from_got (λ (z : PropOf Span × ℕ). z.0.0 ≡ k) (y.0, length s - length y.1) (value_tag o k end (drop at s) y e)

byte_cons : (l : List ℕ) (k : ℕ) (r : List ℕ) → byte_of cut l ≡ got (k, r) → l ≡ k ∷ r
unfolding byte_of
byte_cons [] k r e = absurd (bad_got e)
byte_cons (x ∷ l) k r e = from_got (λ (z : ℕ × List ℕ). x ∷ l ≡ z.0 ∷ z.1) (x, l) refl (k, r) e

module _ (row : Row) (s : List ℕ) (at : ℕ) where
  no_byte_lem : (l : List ℕ) (k : Refusal) → byte_of cut l ≡ bad k → property_of as_places row (length s) l ≡ bad k
  unfolding byte_of property_of
  no_byte_lem [] k e = let h : cut ≡ k = cc in ap bad h
  no_byte_lem (x ∷ l) k e = absurd (got_bad e)

  property_bad : (k : Refusal) → bad k ≡ from_at (byte_of cut) s at → bad k ≡ from_at (property_of as_places row (length s)) s at
  property_bad k h = sym (left_bad (property_of as_places row (length s)) s at k (no_byte_lem (drop at s) k (bad_left (byte_of cut) s at k (sym h))))

  pub property_refused : (e : Error) → bad (told_error e) ≡ from_at (byte_of cut) s at → PropertyRead row s at (Err e)
  property_refused e h = record { says = property_bad (told_error e) h; typed = tt }

  pub past_none : {k : Refusal} → bad k ≡ from_at (byte_of cut) s at → PropertyPassed row s at at
  past_none {k = k} h = record { says = ap (next_or at) (property_bad k h) }

  module _ (k m : ℕ) (e : got (k, m) ≡ from_at (byte_of cut) s at) where
    property_next : from_at (property_of as_places row (length s)) s at ≡ from_at (value_at as_places (form_at row k) k (length s)) s m
    unfolding from_at property_of
    property_next = rw (byte_cons (drop at s) k (drop m s) (got_left (byte_of cut) s at (trails_byte cut) k m (sym e)))

    retyped : (r : Result (ℕ × Value × ℕ) Error) → told_property r ≡ from_at (value_at as_places (form_at row k) k (length s)) s m → OfForm (λ _. form_at row k) r → OfForm (form_at row) r
    retyped (Ok (j, v, n)) h t = rw (value_id (form_at row k) k (length s) s m ((j, told_value v), n) (sym h)) t
    retyped (Err c) h t = tt

    pub property_read : (o : Option Form) (r : Result (ℕ × Value × ℕ) Error) → o ≡ form_at row k → ValueRead o k s m r → PropertyRead row s at r
    property_read o r h v =
        let w : ValueRead (form_at row k) k s m r = rw h at v in
        record { says = w.says ∙ sym property_next; typed = retyped r w.says w.typed }

    pub past_in : (i r : ℕ) (f : Form) → k ≡ i → form_at row i ≡ some f → ValuePassed f i s at m r → PropertyPassed row s at r
    past_in i r f j h v = record { says = v.says ∙ sym (ap (next_or at) property_next ∙ rw (j, h)) }

    pub past_out : form_at row k ≡ none → PropertyPassed row s at at
    unfolding value_at from_at
    past_out h = record { says = sym (ap (next_or at) property_next ∙ rw h) }

-- ---- a property takes a byte at least

module _ (row : Row) (s : List ℕ) (at : ℕ) (a : PropOf Span) (n : ℕ) (e : got (a, n) ≡ from_at (property_of as_places row (length s)) s at) where
  pub property_left : property_of as_places row (length s) (drop at s) ≡ got (a, drop n s)
  property_left = got_left (property_of as_places row (length s)) s at (trails_property as_places (length s) row) a n (sym e)

  pub property_ahead : at < n
  property_ahead =
      let l : length (drop n s) < length (drop at s) = property_less row (length s) (drop at s) (a, drop n s) (rw length-drop (omega arith)) property_left in
      omega (arith, simp length-drop at l)
