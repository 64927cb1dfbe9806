-- `write_properties::put_id` is right since a byte is a number of one byte. Assumes nothing.
use mathlib.Core.Path.{ap, sym, ◌∙◌}
use mathlib.Core.List.{List}
use Prim.Native.Nat.{ℕ}
use native.Mathlib.Omega.{arith}
use lib.Seq.{sets}
use Rattle.write_numbers.proofs.Laws.Put.{wide_one}
use Rattle.write_properties.proofs.put_id.Goals as goal

pub returns : goal.returns
returns c =
    let a = c.args in
    record { stores = c.put.ensures.stores ∙ ap (λ (l : List ℕ). sets a.out.now a.at l) (sym (wide_one (omega arith))); place = c.after.ensures }
