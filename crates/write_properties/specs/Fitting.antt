-- The bytes that are put of a row: of a value that does not fit nothing behind its identifier byte. Assumes nothing.
use Rattle.std.specs.Prelude.{List, [], ◌∷◌, ◌++◌, ℕ}
use Rattle.grammar.specs.Tables.{Form, u8, u16, u32, number, text, bytes, pair, Row}
use Rattle.grammar.specs.Record.{num, str, duo}
use Rattle.grammar.specs.Sentence.{Value}
use Rattle.writing.specs.Lists.{flat}
use Rattle.writing.specs.Handed.{Given, Givens, items, Entry, tag}
use Rattle.writing.specs.Spell.{numeral}
use Rattle.write_lengths.specs.Fitting.{fit_short}
use Rattle.write_strings.specs.Fitting.{fit_string}

-- 01, table of properties: a number of each form
unfoldable pub fit_numeral : Form → ℕ → List ℕ
fit_numeral u8 n = numeral u8 n
fit_numeral u16 n = numeral u16 n
fit_numeral u32 n = numeral u32 n
fit_numeral number n = fit_short n
fit_numeral text n = []
fit_numeral bytes n = []
fit_numeral pair n = []

-- 01, table of properties: a value of each form
unfoldable pub fit_value : Form → Value → List ℕ
fit_value f (num n) = fit_numeral f n
fit_value f (str s) = fit_string s
fit_value f (duo a b) = fit_string a ++ fit_string b

-- 01, grammar: "an identifier byte and a value"
abbrev pub fit_entry : Entry → List ℕ
fit_entry e = e.0.0 ∷ fit_value e.0.1 e.1

-- a row: its values in order
abbrev pub fit_row : ℕ × Form → Given → List ℕ
fit_row r g = flat fit_entry (tag r (items g))

-- 01, grammar: "The writer emits the properties in the order of the table above": what fills a row's block
unfoldable pub fit_props : Row → Givens → List ℕ
fit_props row g = flat (λ r. fit_row r (g r.0)) row.forms
