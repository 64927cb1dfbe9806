-- `publish::apply` meets its contract: by the row, the form of a value tells which field it is of; the identifier is asked
-- for text alone. Assumes nothing.
use mathlib.Core.Path.{◌≡◌}
use mathlib.Core.Logic.{◌⊎◌, ⊎_elim}
use Prim.Native.Nat.{ℕ}
use Rattle.properties.proofs.Laws.Fold.{publish_is}
use Rattle.publish.proofs.apply.Goals as goal

not_eight : (k : ℕ) → (k ≡ 8 → ⊥) → (k ≡ 8) ⊎ (k ≡ 3) → k ≡ 3
not_eight k n = ⊎_elim (λ e. absurd (n e)) (λ e. e)

pub returns-in-U8 : goal.returns-in-U8
returns-in-U8 c =
    let e = c.in-U8.is in
    rw (e, publish_is c.args.k e c.requires)

pub returns-in-U16 : goal.returns-in-U16
returns-in-U16 c =
    let e = c.in-U16.is in
    rw (e, publish_is c.args.k e c.requires)

pub returns-in-U32 : goal.returns-in-U32
returns-in-U32 c =
    let e = c.in-U32.is in
    rw (e, publish_is c.args.k e c.requires)

pub returns-in-Number : goal.returns-in-Number
returns-in-Number c = rw (c.in-Number.is, publish_is c.args.k c.in-Number.is c.requires)

pub returns-else-k-eq8 : goal.returns-else-k-eq8
returns-else-k-eq8 c =
    let e = c.in-Text.is in
    rw (e, not_eight c.args.k c.if-k-eq8.false (publish_is c.args.k e c.requires))

pub returns-in-Bytes : goal.returns-in-Bytes
returns-in-Bytes c =
    let e = c.in-Bytes.is in
    rw (e, publish_is c.args.k e c.requires)

pub returns-in-Pair : goal.returns-in-Pair
returns-in-Pair c = rw (c.in-Pair.is, publish_is c.args.k c.in-Pair.is c.requires)
