-- `desk_lines::name` is right since the name is the part before the zeros. Assumes nothing.
use mathlib.Core.Path.{◌∙◌}
use Prim.Native.Nat.{◌-◌}
use native.Mathlib.Omega.{arith}
use lib.ListN.{length}
use Rattle.refusal_names.specs.Names.{name_of}
use Rattle.desk_lines.proofs.Laws.{name_part, name_short}
use Rattle.desk_lines.proofs.name.Goals as goal

pub returns : goal.returns
returns c =
    let e = c.args.e in
    let h = rw c.name-shown.ensures at c.part.ensures.bytes in
    let w = rw (h ∙ name_part (name_of e) (24 - length (name_of e))) at c.word.ensures in
    record { placed = w; short = omega (arith, w.behind, name_short e) }
