-- When each refusal of a read is given, in the words of 01, "When the desk says no", with values and bytes taken. Nothing here knows of a
-- reader. Assumes nothing.
use Rattle.std.specs.Prelude.{◌≡◌, Bool, true, false, not, ◌||◌, cond, List, [], ◌∷◌, ◌++◌, ℕ, ◌+◌, ◌-◌, ◌^◌, ◌<◌, leb, ltb, length, drop}
use Rattle.std.proofs.Math.Option.{Option, none, some}
use Rattle.grammar.specs.Choice.{is_in, lookup, is_empty, all}
use Rattle.grammar.specs.Number.{Groups, Spells}
use Rattle.grammar.specs.Tables.{Layout, kinds, reserved, is_ping}
use Rattle.grammar.specs.Record.{kind_of}
use Rattle.reading.specs.Refusal.{Refusal, passes}
use Rattle.reading.specs.Fault.{Tops, FieldsFault, Passing}

-- ---- rows 1 to 3: no frame is taken

-- 01, row 1: "frame incomplete": the stream lacks n bytes
pub data Incomplete (limit : Option ℕ) : List ℕ → ℕ → Type 0 where
  -- "2 less the bytes held if under two"
  under_two : {s : List ℕ} → length s < 2 → Incomplete limit s (2 - length s)
  -- "1 while the length number lacks its end"
  no_end : {x : ℕ} {b : List ℕ} → Tops b → length b < 4 → Incomplete limit (x ∷ b) 1
  -- "else F less the bytes held": F is the first byte, the bytes of the length number, and the R that it counts
  partly : {x R : ℕ} {b : List ℕ} (r : List ℕ) → Spells R b → passes limit R (length b) ≡ true → length r < R → Incomplete limit (x ∷ (b ++ r)) (1 + length b + R - length (x ∷ (b ++ r)))

-- 01, row 2: "fourth byte of a variable length number has its top bit set", of the frame's own
pub data Overlong : List ℕ → Type 0 where
  overlong : {x : ℕ} {b : List ℕ} (r : List ℕ) → Tops b → length b ≡ 4 → Overlong (x ∷ (b ++ r))
  -- 02, P8: "uses more bytes than it needs": more than one, and one fewer could hold R
  winded : {x R : ℕ} {b : List ℕ} (r : List ℕ) → Groups 4 R b → 1 < length b → R < 128 ^ (length b - 1) → Overlong (x ∷ (b ++ r))

-- 02, P2: "Test F": F, which is the first byte, the bytes of the length number, and the R that it counts, is above the limit m
pub data Above : List ℕ → ℕ → ℕ → Type 0 where
  above : {x R m : ℕ} {b : List ℕ} (r : List ℕ) → Spells R b → m < 1 + length b + R → Above (x ∷ (b ++ r)) (1 + length b + R) m

-- ---- from row 4 on: the frame is taken

-- the stream begins with a frame that the limit lets pass: its first byte, its R bytes, and F
pub data Holds (limit : Option ℕ) : List ℕ → ℕ → List ℕ → ℕ → Type 0 where
  holds : {x : ℕ} {b c : List ℕ} (r : List ℕ) → Passing limit (x, b) c → Holds limit (c ++ r) x b (length c)

-- rows 1 to 6, by name
pub data Framing : Type 0 where
  insufficient malformed exceeded invalid required notCarried : Framing

-- 01, "When the desk says no": the number of the row
abbrev pub row_number : Framing → ℕ
row_number insufficient = 1
row_number malformed = 2
row_number exceeded = 3
row_number invalid = 4
row_number required = 5
row_number notCarried = 6

-- 01, rows 1 to 6: the stream s, the values of the refusal, and the bytes taken
abbrev pub FramingGiven : Option ℕ → Framing → List ℕ → List ℕ → ℕ → Type 0
-- 1: InsufficientBytes(n)
FramingGiven limit insufficient s vs t = (n : ℕ) × Incomplete limit s n × (vs ≡ n ∷ []) × (t ≡ 0)
-- 2: MalformedRemainingLength, of the frame's own length
FramingGiven limit malformed s vs t = Overlong s × (vs ≡ []) × (t ≡ 0)
-- 3: PayloadSizeLimitExceeded(F, limit)
FramingGiven limit exceeded s vs t = (F : ℕ) × (m : ℕ) × (limit ≡ some m) × Above s F m × (vs ≡ F ∷ m ∷ []) × (t ≡ 0)
-- 4: InvalidPacketType(k), "k is 0 or 15"
FramingGiven limit invalid s vs t = (x : ℕ) × (b : List ℕ) × Holds limit s x b t × (is_in (kind_of x) reserved ≡ true) × (vs ≡ kind_of x ∷ [])
-- 5: PayloadRequired, "R = 0, kind not a ping"
FramingGiven limit required s vs t = (x : ℕ) × Holds limit s x [] t × (is_in (kind_of x) reserved ≡ false) × (is_ping (lookup kinds (kind_of x)) ≡ false) × (vs ≡ [])
-- 6: KindNotCarried(k)
FramingGiven limit notCarried s vs t = (x : ℕ) × (y : ℕ) × (b : List ℕ) × Holds limit s x (y ∷ b) t × (is_in (kind_of x) reserved ≡ false) × (lookup kinds (kind_of x) ≡ none) × (vs ≡ kind_of x ∷ [])

-- 01, rows 7 to 15, and 2 inside a frame; 02, P9: 22 and 23: the frame is of a kind that is carried, and its fields break, first from the left, with k
abbrev pub Breaks : Option ℕ → List ℕ → Refusal → ℕ → Type 0
Breaks limit s k t = (x : ℕ) × (l : Layout) × (b : List ℕ) × Holds limit s x b t × (lookup kinds (kind_of x) ≡ some l) × ((is_ping (some l) || not (is_empty b)) ≡ true) × FieldsFault l x b k

-- ---- 01: "n is 2 less the bytes held if under two; 1 while the length number lacks its end; else F less the bytes held"

-- each byte has its top bit set
abbrev pub all_tops : List ℕ → Bool
all_tops = all (leb 128)

-- of the front s of a frame of F bytes
unfoldable pub lacks : List ℕ → ℕ → ℕ
lacks s F = cond (ltb (length s) 2) (2 - length s) (cond (all_tops (drop 1 s)) 1 (F - length s))
