-- `desk_render::put_byte` is right since the count tells the form: as it is, marked, or in hexadecimal. Assumes nothing.
use native.Mathlib.Omega.{arith}
use lib.ListN.{length-set}
use Rattle.desk_render.proofs.Laws.{size_some, put_plain, put_marked, put_escape}
use Rattle.desk_render.proofs.put_byte.Goals as goal

pub returns-then-n-eq1 : goal.returns-then-n-eq1
returns-then-n-eq1 c = put_plain _ _ _ _ c.requires.n_value c.if-n-eq1.true

pub bounds-out-at-2 : goal.bounds-out-at-2
bounds-out-at-2 c =
    omega (arith, c.requires.n_value, c.requires.n_in_bounds, size_some c.args.b)

pub returns-then-n-eq2 : goal.returns-then-n-eq2
returns-then-n-eq2 c = put_marked _ _ _ _ c.requires.n_value c.if-n-eq2.true

pub bounds-out-at-3 : goal.bounds-out-at-3
bounds-out-at-3 c =
    simp length-set (omega (arith, c.requires.n_value, c.requires.n_in_bounds, c.if-n-eq1.false, size_some c.args.b))

pub returns : goal.returns
returns c =
    put_escape _ _ _ _ c.requires.n_value c.if-n-eq1.false c.if-n-eq2.false c.put_hex.ensures
