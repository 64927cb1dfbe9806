-- `numbers::fixed::read_u16` is right by the law of fixed widths, at width 2: the digits summed up are the number. Assumes nothing.
use native.Mathlib.Omega.{arith}
use Rattle.reading.specs.Refusal.{cut}
use Rattle.numbers.proofs.Laws.{fixed_at, fixed_cut}
use Rattle.numbers.proofs.fixed.read_u16.Goals as goal

pub returns-then-s-lt2 : goal.returns-then-s-lt2
returns-then-s-lt2 c = fixed_cut cut 2 _ _ (omega arith)

pub returns-then-s-at : goal.returns-then-s-at
returns-then-s-at c = fixed_cut cut 2 _ _ (omega arith)

pub returns : goal.returns
returns c = fixed_at cut 2 _ _ _ (omega arith) (omega arith)
