-- `desk_render::put_decimal` is right since the kit's digits, which are put as they are, are the fewest. Assumes nothing.
use mathlib.Core.Path.{◌∙◌}
use native.Mathlib.Omega.{arith}
use Rattle.desk_render.proofs.Laws.{fewest_decimal, fewest_length, decimal_short}
use Rattle.desk_render.proofs.put_decimal.Goals as goal

pub returns : goal.returns
returns c =
    let d = c.decimal-k in
    let f = d.ensures.len in
    let n = c.args.n in
    record { count = fewest_length _ _ f; stores = c.put_bytes.ensures ∙ rw (d.ensures.digits, fewest_decimal _ _ f); short = omega (arith, fewest_length _ _ f, decimal_short 19 n n (omega arith)) }
