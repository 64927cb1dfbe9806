-- What demand 3 and 01's column Taken say of an answer. Assumes nothing.
use Rattle.std.specs.Prelude.{◌≡◌, true, ◌⊎◌, List, [], ◌∷◌, ◌++◌, ℕ, length}
use Rattle.std.proofs.Math.Option.{Option, none, some}
use Rattle.grammar.specs.Choice.{is_in}
use Rattle.grammar.specs.Gram.{Gram}
use Rattle.grammar.specs.Sentence.{Packet}
use Rattle.reading.specs.Refusal.{refused}
use Rattle.reading.specs.Read.{Shape, read_as}
use Rattle.reading.specs.Rows.{Overlong, Above, Holds}

-- demand 3: the stream s "begins with a sentence", of G, of n bytes, which says v
abbrev pub Begins : Gram Packet → List ℕ → Packet → ℕ → Type 0
Begins G s v n = (b : List ℕ) × (r : List ℕ) × (s ≡ b ++ r) × G v b × (length b ≡ n)

-- demand 3, "A limit adds the size refusal alone": either the header is whole and F is above the limit m, and the answer is 3 with F and m,
-- nothing taken; or it is the answer with no limit
abbrev pub Limited : Shape → ℕ → List ℕ → Type 0
Limited h m s = ((F : ℕ) × Above s F m × (read_as h (some m) s ≡ refused 3 (F ∷ m ∷ []) 0)) ⊎ (((F : ℕ) → Above s F m → ⊥) × (read_as h (some m) s ≡ read_as h none s))

-- 01, rows 7 to 15, and 2, and 02, P9: the numbers that the fields of a frame are refused with
abbrev pub of_fields : List ℕ
of_fields = 2 ∷ 7 ∷ 8 ∷ 9 ∷ 10 ∷ 11 ∷ 12 ∷ 13 ∷ 14 ∷ 15 ∷ 22 ∷ 23 ∷ []

-- 01, column Taken, of the refusal numbered k of the stream s
pub data Taken (limit : Option ℕ) (s : List ℕ) : ℕ → ℕ → Type 0 where
  -- rows 1 and 3: 0
  nothing_yet : {k : ℕ} → is_in k (1 ∷ 3 ∷ []) ≡ true → Taken limit s k 0
  -- row 2: "0 for the frame's own"
  own_length : Overlong s → Taken limit s 2 0
  -- the others, and row 2 else: F
  whole_frame : {k x t : ℕ} {b : List ℕ} → is_in k (4 ∷ 5 ∷ 6 ∷ of_fields) ≡ true → Holds limit s x b t → Taken limit s k t
