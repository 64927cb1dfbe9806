-- What a row of the table of kinds says of the layout. Assumes nothing.
use mathlib.Core.Path.{◌≡◌, ap}
use mathlib.Core.Bool.{Bool}
use mathlib.Core.Option.{Option}
use Prim.Native.Nat.{ℕ}
use Rattle.grammar.specs.Choice.{lookup}
use Rattle.grammar.specs.Tables.{Layout, kinds}
use Rattle.kinds.specs.Kinds.{kind_row}

pub row_layout : {kind k : ℕ} {b : Bool} {o : Option Layout} → (k, b, o) ≡ kind_row kind → o ≡ lookup kinds kind
row_layout e = ap (λ (z : ℕ × Bool × Option Layout). z.2) e
