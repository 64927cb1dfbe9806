-- Where every field was tested, what is put of a row is what is written of it. Assumes nothing.
use mathlib.Core.Path.{◌≡◌, refl, ap, ◌∙◌}
use mathlib.Core.Bool.{Bool, true, false, cond}
use mathlib.Core.Logic.{◌⊎◌, inl, inr}
use mathlib.Core.Option.{Option, none, some}
use mathlib.Core.List.{List, [], ◌∷◌, map}
use Prim.Native.Nat.{ℕ, ◌≤◌, ◌<◌}
use native.Mathlib.Omega.{arith}
use lib.ListN.{length}
use Rattle.grammar.specs.Tables.{Form, number, text, pair}
use Rattle.grammar.specs.Record.{num, str, duo}
use Rattle.grammar.specs.Sentence.{Value}
use Rattle.grammar.specs.Octets.{Each, nil, ◌&◌}
use Rattle.writing.specs.Lists.{flat}
use Rattle.writing.specs.Handed.{Lent, Run, one, lent, pairs, several, strings, duos, tag}
use Rattle.writing.specs.Size.{most, cap}
use Rattle.writing.specs.Spell.{short, string, numeral, value, entry, row_bytes}
use Rattle.writing.specs.Order.{word, given_fields, or_none}
use Rattle.writing.specs.Refuse.{Writable, Fine}
use Rattle.writing.proofs.Tests.{le_or}
use Rattle.writing.proofs.Sizes.{length_short}
use Rattle.writing.proofs.ForCode.{cap_small}
use Rattle.write_sizes.proofs.Laws.{len_len_most}
use Rattle.write_lengths.specs.Fitting.{fit_short}
use Rattle.write_lengths.proofs.Fits.{short_fits, short_not}
use Rattle.write_strings.specs.Fitting.{fit_string}
use Rattle.write_strings.proofs.Fits.{string_fits}
use Rattle.write_properties.specs.Fitting.{fit_numeral, fit_value, fit_entry, fit_row}

-- four bytes at most
pub short_most : (n : ℕ) → length (fit_short n) ≤ 4
short_most n = go (le_or n most)
  where
    go : (n ≤ most) ⊎ (most < n) → length (fit_short n) ≤ 4
    go (inl h) = omega (arith, ap length (short_fits n h) ∙ length_short n, len_len_most n)
    go (inr h) = omega (arith, ap length (short_not n h))

-- R or L, cut off where it is too large, is put where it is not
pub cap_fits : (m n : ℕ) → m ≡ cap n → n ≤ most → fit_short m ≡ short n
cap_fits m n e h = let i : m ≡ n = e ∙ cap_small n h in rw i (short_fits n h)

-- the values of a row
row_fits : (r : ℕ × Form) {vs : List Value} → Each (λ v. fit_value r.1 v ≡ value r.1 v) vs → flat fit_entry (tag r vs) ≡ flat entry (tag r vs)
row_fits r nil = refl
row_fits r (e & es) = rw (e, row_fits r es)

number_fit : (n : ℕ) → Fine n → fit_value number (num n) ≡ value number (num n)
unfolding fit_value fit_numeral value numeral
number_fit n (h, z) = short_fits n h

-- a subscription identifier, or none
pub one_fits : (i : ℕ) (o : Option ℕ) → Each Fine (or_none o) → fit_row (i, number) (one o) ≡ row_bytes (i, number) (one o)
one_fits i none p = refl
one_fits i (some n) (p & nil) = row_fits (i, number) (number_fit n p & nil)

-- subscription identifiers
pub several_fit : (i : ℕ) (ns : List ℕ) → Each Fine ns → fit_row (i, number) (several ns) ≡ row_bytes (i, number) (several ns)
several_fit i ns p = row_fits (i, number) (all ns p)
  where
    all : (ns : List ℕ) → Each Fine ns → Each (λ v. fit_value number v ≡ value number v) (map num ns)
    all [] p = nil
    all (n ∷ ns) (p & ps) = number_fit n p & all ns ps

string_fit_lem : (f : Form) (s : List ℕ) → length s ≤ 65535 → fit_value f (str s) ≡ value f (str s)
unfolding fit_value value
string_fit_lem f s h = string_fits s h

-- a text, if it is on
pub lent_fits : (i : ℕ) (l : Lent) → Each Writable (given_fields text (lent l)) → fit_row (i, text) (lent l) ≡ row_bytes (i, text) (lent l)
lent_fits i l p = row_fits (i, text) (go l.on p)
  where
    go : (t : Bool) → Each Writable (cond t (word l.bytes ∷ []) []) → Each (λ v. fit_value text v ≡ value text v) (cond t (str l.bytes ∷ []) [])
    go true (p & nil) = string_fit_lem text l.bytes p.0 & nil
    go false p = nil

pair_fit : (a b : List ℕ) → length a ≤ 65535 → length b ≤ 65535 → fit_value pair (duo a b) ≡ value pair (duo a b)
unfolding fit_value value
pair_fit a b h k = rw (string_fits a h, string_fits b k)

-- user properties
pub pairs_fit : (r : Run) → Each Writable (map word (strings r)) → fit_row (38, pair) (pairs r) ≡ row_bytes (38, pair) (pairs r)
pairs_fit r p = row_fits (38, pair) (all (strings r) p)
  where
    all : (ss : List (List ℕ)) → Each Writable (map word ss) → Each (λ v. fit_value pair v ≡ value pair v) (duos ss)
    all [] p = nil
    all (k ∷ []) p = nil
    all (k ∷ v ∷ ss) (p & (q & ps)) = pair_fit k v p.0 q.0 & all ss ps

-- texts one after the other
pub words_fit : (ss : List (List ℕ)) → Each Writable (map word ss) → flat fit_string ss ≡ flat string ss
words_fit [] p = refl
words_fit (s ∷ ss) (p & ps) = rw (string_fits s p.0, words_fit ss ps)
