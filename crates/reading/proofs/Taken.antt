-- What a refusal takes is fixed by its number and the stream; the numbers that the fields of a frame are refused with, spelled again. Assumes nothing.
use mathlib.Core.Path.{◌≡◌, refl, sym, ap, ◌∙◌}
use mathlib.Core.Bool.{Bool, true, false, ◌||◌, false≢true}
use mathlib.Core.Option.{Option}
use mathlib.Core.List.{List, [], ◌∷◌}
use Prim.Native.Nat.{ℕ}
use lib.Dec.{eqb}
use lib.ListN.{length}
use borrow.Author.Tests.{eqb-true}
use Rattle.grammar.specs.Choice.{is_in}
use Rattle.grammar.specs.Sentence.{Packet}
use Rattle.grammar.proofs.Tables.{count, chosen}
use Rattle.reading.specs.Refusal.{nr, Answer, accepted, refused}
use Rattle.reading.specs.Reader.{Fit, got, bad}
use Rattle.reading.specs.Read.{as_bytes, body_fit, body_answer, whole_answer, read_of}
use Rattle.reading.specs.Rows.{Overlong, Holds, holds}
use Rattle.reading.specs.Demand.{of_fields, Taken, nothing_yet, own_length, whole_frame}
use Rattle.reading.proofs.Demand.{whole_answer_lem}
use Rattle.reading.proofs.Rows.{row_2}

-- 01, rows 2 and 7 to 15, and 02, P9: of all 256 numbers
fields_numbers : chosen (λ k. is_in k of_fields) (count 256 0) ≡ 2 ∷ 7 ∷ 8 ∷ 9 ∷ 10 ∷ 11 ∷ 12 ∷ 13 ∷ 14 ∷ 15 ∷ 22 ∷ 23 ∷ []
fields_numbers = refl

-- 01: "Taken is the count of stream bytes used up"
abbrev took : Answer Packet → ℕ
took (accepted v n) = n
took (refused k vs n) = n

body_took : (n : ℕ) (m : Fit Packet) → took (body_answer n m) ≡ n
unfolding body_answer
body_took n (got v) = refl
body_took n (bad (nr k vs)) = refl

whole_took : (limit : Option ℕ) (s : List ℕ) (x : ℕ) (b : List ℕ) (t : ℕ) → Holds limit s x b t → took (read_of limit s) ≡ t
unfolding whole_answer
whole_took limit _ x b _ (holds {c = c} r f) = ap took (whole_answer_lem as_bytes limit (x, b) c r f) ∙ body_took (length c) (body_fit as_bytes x (length c) b)

own_took : (limit : Option ℕ) (s : List ℕ) → Overlong s → took (read_of limit s) ≡ 0
own_took limit s o = ap took ((row_2 limit s []).1 (o, refl, refl))

-- rows 1 and 3 are none of the others
apart : (k : ℕ) → is_in k (1 ∷ 3 ∷ []) ≡ true → is_in k (4 ∷ 5 ∷ 6 ∷ of_fields) ≡ true → ⊥
apart k h = go (eqb k 1) refl (eqb k 3) refl h
  where
    go : (a : Bool) → eqb k 1 ≡ a → (c : Bool) → eqb k 3 ≡ c → (a || (c || false)) ≡ true → is_in k (4 ∷ 5 ∷ 6 ∷ of_fields) ≡ true → ⊥
    go true e c e' w i = false≢true (ap (λ (j : ℕ). is_in j (4 ∷ 5 ∷ 6 ∷ of_fields)) (sym (eqb-true k 1 e)) ∙ i)
    go false e true e' w i = false≢true (ap (λ (j : ℕ). is_in j (4 ∷ 5 ∷ 6 ∷ of_fields)) (sym (eqb-true k 3 e')) ∙ i)
    go false e false e' w i = false≢true w

module _ (limit : Option ℕ) (s : List ℕ) where
  -- 01, column Taken: of a stream and the number of its refusal there is one count
  pub taken_one : (k t u : ℕ) → Taken limit s k t → Taken limit s k u → t ≡ u
  taken_one k _ _ (nothing_yet h) (nothing_yet i) = refl
  taken_one _ _ _ (nothing_yet h) (own_length o) = refl
  taken_one k _ u (nothing_yet h) (whole_frame i f) = absurd (apart k h i)
  taken_one _ _ _ (own_length o) (nothing_yet i) = refl
  taken_one _ _ _ (own_length o) (own_length p) = refl
  taken_one _ _ u (own_length o) (whole_frame {x = x} {b = b} i f) = sym (own_took limit s o) ∙ whole_took limit s x b u f
  taken_one k t _ (whole_frame h f) (nothing_yet i) = absurd (apart k i h)
  taken_one _ t _ (whole_frame {x = x} {b = b} h f) (own_length o) = sym (whole_took limit s x b t f) ∙ own_took limit s o
  taken_one k t u (whole_frame {x = x} {b = b} h f) (whole_frame {x = y} {b = c} i g) = sym (whole_took limit s x b t f) ∙ whole_took limit s y c u g
