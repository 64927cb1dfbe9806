-- `numbers::fixed::read_u32` is right by the law of fixed widths, at width 4: the digits summed up are the number. Assumes nothing.
use native.Mathlib.Omega.{arith}
use Rattle.reading.specs.Refusal.{cut}
use Rattle.numbers.proofs.Laws.{fixed_at, fixed_cut}
use Rattle.numbers.proofs.fixed.read_u32.Goals as goal

pub returns-then-left-lt4 : goal.returns-then-left-lt4
returns-then-left-lt4 c = fixed_cut cut 4 _ _ (omega arith)

pub returns : goal.returns
returns c = fixed_at cut 4 _ _ _ (omega arith) (omega arith)
