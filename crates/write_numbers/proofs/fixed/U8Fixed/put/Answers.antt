-- The put of a u8 is right since a byte is its own one digit; past the end nothing is stored. Assumes nothing.
use mathlib.Core.Path.{ap}
use native.Mathlib.Omega.{arith}
use lib.Seq.{sets}
use Rattle.writing.specs.Spell.{wide, numeral}
use Rattle.write_bytes.proofs.Laws.{sets_out}
use Rattle.write_numbers.proofs.Laws.Put.{wide_one}
use Rattle.write_numbers.proofs.fixed.U8Fixed.put.Goals as goal

pub returns-then-at-out : goal.returns-then-at-out
unfolding numeral
returns-then-at-out c = record { stores = ap (sets _ _) (wide_one (omega arith)); row = wide_one (omega arith) }

pub returns-else-at-out : goal.returns-else-at-out
unfolding numeral
returns-else-at-out c =
    let a = c.args in
    record { stores = sets_out (wide 1 a.self) a.out.now a.at (omega arith); row = wide_one (omega arith) }
