-- The put of a u32 is right since a number is its high half, then its low one; past the end nothing is stored. Assumes nothing.
use mathlib.Core.Path.{refl}
use native.Mathlib.Omega.{arith}
use Rattle.writing.specs.Spell.{wide, numeral}
use Rattle.write_bytes.proofs.Laws.{sets_out}
use Rattle.write_numbers.proofs.Laws.Put.{put_halves}
use Rattle.write_numbers.proofs.fixed.U32Fixed.put.Goals as goal

pub returns-then-at-out : goal.returns-then-at-out
unfolding numeral
returns-then-at-out c =
    let a = c.args in
    record { stores = put_halves 2 a.self a.at a.out.now _ _ c.put.ensures.stores c.put-then-at-out.ensures.stores; row = refl }

pub returns-else-at-out : goal.returns-else-at-out
unfolding numeral
returns-else-at-out c =
    let a = c.args in
    record { stores = sets_out (wide 4 a.self) a.out.now a.at (omega arith); row = refl }
