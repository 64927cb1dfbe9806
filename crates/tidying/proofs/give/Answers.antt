-- `tidying::give` is right since the size is told, and nothing is put where there is no room. Assumes nothing.
use native.Mathlib.Omega.{arith}
use mathlib.Core.Path.{refl}
use lib.ListN.{length}
use Rattle.tidying.proofs.Laws.Put.{gives_put}
use Rattle.tidying.proofs.give.Goals as goal

pub returns : goal.returns
returns c = gives_put c.args.b.now c.args.n c.args.out.now _ (length c.args.b.now) refl (omega arith) c.put_bytes.ensures
