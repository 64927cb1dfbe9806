-- What is put of a text is read back as the text, up to its quote and no further; so no two texts have one spelling. Assumes nothing.
use mathlib.Core.Path.{◌≡◌, refl, sym, ap, ◌∙◌}
use mathlib.Core.Bool.{Bool, true, false}
use mathlib.Core.Option.{Option, none, some}
use mathlib.Core.List.{List, [], ◌∷◌, ◌++◌, append_assoc}
use Prim.Native.Nat.{ℕ, ◌+◌, ◌*◌, ◌/◌, ◌%◌, ◌≤◌, ◌<◌}
use native.Mathlib.Omega.{arith}
use lib.Dec.{eqb, ltb}
use borrow.Author.Tests.{lt-ltb, le-ltb, ne_eqb, eqb-true, eqb-false, ltb-true, ltb-false}
use Rattle.desk_render.specs.Shown.{hex_digit, hex_of}
use Rattle.json_text.specs.Text.{escaped_of, each}
use Rattle.json_text.specs.Back.{Awaits, digit_of, before, text_in}
use Rattle.json_text.proofs.Laws.{form_mark, form_slash, form_low, form_delete, form_plain}

digit_back : (d : ℕ) → d < 16 → digit_of (hex_digit d) ≡ d
digit_back d h = go (ltb d 10) refl
  where
    go : (b : Bool) → ltb d 10 ≡ b → digit_of (hex_digit d) ≡ d
    go true e =
        let l : d < 10 = ltb-true d 10 e in
        rw (e, lt-ltb (48 + d) 65 (omega arith)) (omega arith)
    go false e =
        let l : 10 ≤ d = ltb-false d 10 e in
        rw (e, le-ltb (55 + d) 65 (omega arith), lt-ltb (55 + d) 97 (omega arith)) (omega arith)

module _ (b : ℕ) (r : List ℕ) where
  -- behind a reverse solidus
  marked_back : (b ≡ 34 → ⊥) → escaped_of b ≡ 92 ∷ b ∷ [] → b ≡ 92 → text_in Awaits.character (escaped_of b ++ r) ≡ before b (text_in Awaits.character r)
  unfolding text_in
  marked_back m f e = rw (f, e)

  quote_back : escaped_of b ≡ 92 ∷ b ∷ [] → b ≡ 34 → text_in Awaits.character (escaped_of b ++ r) ≡ before b (text_in Awaits.character r)
  unfolding text_in
  quote_back f e = rw (f, e)

  -- by its code
  code_back : b < 256 → escaped_of b ≡ 92 ∷ 117 ∷ 48 ∷ 48 ∷ hex_of b → text_in Awaits.character (escaped_of b ++ r) ≡ before b (text_in Awaits.character r)
  unfolding text_in
  code_back h f =
      let v : (((0 * 16 + digit_of 48) * 16 + digit_of 48) * 16 + b / 16 % 16) * 16 + b % 16 ≡ b = omega arith in
      rw (f, digit_back (b / 16 % 16) (omega arith), digit_back (b % 16) (omega arith), v)

  -- as it is
  plain_back : (b ≡ 34 → ⊥) → (b ≡ 92 → ⊥) → 32 ≤ b → escaped_of b ≡ b ∷ [] → text_in Awaits.character (escaped_of b ++ r) ≡ before b (text_in Awaits.character r)
  unfolding text_in
  plain_back m l h f = rw (f, ne_eqb b 34 m, ne_eqb b 92 l, le-ltb b 32 h)

  byte_back : text_in Awaits.character (escaped_of b ++ r) ≡ before b (text_in Awaits.character r)
  byte_back = quote (eqb b 34) refl
    where
      delete : (b ≡ 34 → ⊥) → (b ≡ 92 → ⊥) → 32 ≤ b → (t : Bool) → eqb b 127 ≡ t → text_in Awaits.character (escaped_of b ++ r) ≡ before b (text_in Awaits.character r)
      delete m l h true e = let q : b ≡ 127 = eqb-true b 127 e in code_back (omega arith) (form_delete b m l h q)
      delete m l h false e = plain_back m l h (form_plain b m l h (eqb-false b 127 e))

      low : (b ≡ 34 → ⊥) → (b ≡ 92 → ⊥) → (t : Bool) → ltb b 32 ≡ t → text_in Awaits.character (escaped_of b ++ r) ≡ before b (text_in Awaits.character r)
      low m l true e = let h : b < 32 = ltb-true b 32 e in code_back (omega arith) (form_low b m l h)
      low m l false e = delete m l (ltb-false b 32 e) (eqb b 127) refl

      slash : (b ≡ 34 → ⊥) → (t : Bool) → eqb b 92 ≡ t → text_in Awaits.character (escaped_of b ++ r) ≡ before b (text_in Awaits.character r)
      slash m true e = let q : b ≡ 92 = eqb-true b 92 e in marked_back m (form_slash b q) q
      slash m false e = low m (eqb-false b 92 e) (ltb b 32) refl

      quote : (t : Bool) → eqb b 34 ≡ t → text_in Awaits.character (escaped_of b ++ r) ≡ before b (text_in Awaits.character r)
      quote true e = let q : b ≡ 34 = eqb-true b 34 e in quote_back (form_mark b q) q
      quote false e = slash (eqb-false b 34 e) (eqb b 92) refl

-- RFC 8259, 7: a text that is put, the quote that ends it, and whatever follows
pub reads_back : (s t : List ℕ) → text_in Awaits.character (each escaped_of s ++ (34 ∷ t)) ≡ some (s, t)
unfolding text_in each
reads_back [] t = refl
reads_back (b ∷ s) t =
    ap (text_in Awaits.character) (append_assoc (escaped_of b) (each escaped_of s) (34 ∷ t))
    ∙ byte_back b (each escaped_of s ++ (34 ∷ t))
    ∙ ap (before b) (reads_back s t)

-- the text that an answer has
told : Option (List ℕ × List ℕ) → List ℕ
told none = []
told (some p) = p.0

-- no two texts have one spelling
pub one_spelling : (s t : List ℕ) → each escaped_of s ≡ each escaped_of t → s ≡ t
unfolding told
one_spelling s t e = ap told (sym (reads_back s []) ∙ ap (λ (l : List ℕ). text_in Awaits.character (l ++ (34 ∷ []))) e ∙ reads_back t [])
