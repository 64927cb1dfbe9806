-- What the functions on numbers hand back of what is read. Assumes nothing.
use Rattle.std.specs.Prelude.{ℕ, List}
use Rattle.grammar.specs.Gram.{forget}
use Rattle.reading.specs.Refusal.{cut}
use Rattle.reading.specs.Reader.{Fit, got, bad, fold_fit}
use Rattle.reading.specs.Read.{num_of}
use Rattle.positions.specs.Count.{wrapped, or_zero}

-- the number, or what stood there before
abbrev pub number_or : ℕ → Fit (ℕ × ℕ) → ℕ
number_or old (got (n, next)) = n
number_or old (bad k) = old

-- the sum of the numbers that fill s, beside what came before
abbrev pub numbers_sum_from : ℕ → List ℕ → Fit ℕ
numbers_sum_from sum s = fold_fit forget (λ _. num_of cut 4) wrapped sum tt s

-- 01, grammar: variable length numbers, one behind the other to the end
unfoldable pub numbers_sum : List ℕ → ℕ
numbers_sum s = or_zero (numbers_sum_from 0 s)
