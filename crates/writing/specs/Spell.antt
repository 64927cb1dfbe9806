-- The bytes that are written, one function for each way that the grammar is built. Assumes nothing.
use Rattle.std.specs.Prelude.{Bool, true, false, List, [], ◌∷◌, ◌++◌, ℕ, zero, suc, ◌+◌, ◌/◌, ◌%◌, ltb, length}
use Rattle.grammar.specs.Tables.{Form, u8, u16, u32, number, text, bytes, pair, Row}
use Rattle.grammar.specs.Record.{num, str, duo}
use Rattle.grammar.specs.Sentence.{Value}
use Rattle.writing.specs.Lists.{flat}
use Rattle.writing.specs.Handed.{Given, Givens, items, Entry, tag}

-- 01, grammar: "Numbers are big-endian": k bytes
unfoldable pub wide : ℕ → ℕ → List ℕ
wide zero n = []
wide (suc k) n = wide k (n / 256) ++ (n % 256 ∷ [])

-- 01, grammar: "seven bits each, low group first": n ends the number, or b is the rest of it
unfoldable pub spell_step : Bool → ℕ → List ℕ → List ℕ
spell_step true n b = n ∷ []
spell_step false n b = (n % 128 + 128) ∷ b

-- 01, grammar: the spelling of n in as few bytes as it needs, k at most
unfoldable pub spell : ℕ → ℕ → List ℕ
spell zero n = []
spell (suc k) n = spell_step (ltb n 128) n (spell k (n / 128))

-- 01, grammar: "only the shortest is written"; writing order: "four bytes for a subscription identifier too large to write"
unfoldable pub short : ℕ → List ℕ
short n = spell 4 n

-- 01, grammar: "A string is a u16 length and that many bytes"
unfoldable pub string : List ℕ → List ℕ
string s = wide 2 (length s) ++ s

-- ---- properties

-- 01, table of properties: a number of each form
unfoldable pub numeral : Form → ℕ → List ℕ
numeral u8 n = n ∷ []
numeral u16 n = wide 2 n
numeral u32 n = wide 4 n
numeral number n = short n
numeral text n = []
numeral bytes n = []
numeral pair n = []

-- 01, table of properties: a value of each form
unfoldable pub value : Form → Value → List ℕ
value f (num n) = numeral f n
value f (str s) = string s
value f (duo a b) = string a ++ string b

-- 01, grammar: "an identifier byte and a value"
abbrev pub entry : Entry → List ℕ
entry e = e.0.0 ∷ value e.0.1 e.1

-- what is written of a row: its values in order
abbrev pub row_bytes : ℕ × Form → Given → List ℕ
row_bytes r g = flat entry (tag r (items g))

-- 01, grammar: "The writer emits the properties in the order of the table above": what fills a row's block
unfoldable pub props_bytes : Row → Givens → List ℕ
props_bytes row g = flat (λ r. row_bytes r (g r.0)) row.forms

-- the number of bytes, and the bytes: R and what fills a frame, L and what fills a block
unfoldable pub counted : List ℕ → List ℕ
counted b = short (length b) ++ b

-- 01, grammar: "A property block is a variable length number L and L bytes"
unfoldable pub block : Row → Givens → List ℕ
block row g = counted (props_bytes row g)

-- ---- filters

-- 01, "What must change shape": "an options byte for each filter, bits 6-7 written as 0"
abbrev pub filter_bytes : List ℕ × ℕ → List ℕ
filter_bytes f = string f.0 ++ (f.1 % 64 ∷ [])
