-- `numbers::fixed::read_u8` is right by the law of fixed widths, at width 1: the digits summed up are the number. Assumes nothing.
use native.Mathlib.Omega.{arith}
use mathlib.Core.Path.{◌∙◌}
use Rattle.reading.specs.Refusal.{cut}
use Rattle.numbers.proofs.Laws.{fixed_at, fixed_cut, byte_width}
use Rattle.numbers.proofs.fixed.read_u8.Goals as goal

pub returns-then-left-lt1 : goal.returns-then-left-lt1
returns-then-left-lt1 c = fixed_cut cut 1 _ _ (omega arith) ∙ byte_width cut _ _

pub returns : goal.returns
returns c = fixed_at cut 1 _ _ _ (omega arith) (omega arith) ∙ byte_width cut _ _
