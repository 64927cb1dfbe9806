-- `c_inflight::claim_for` is right since the byte that changes is the first free one. Assumes nothing.
use mathlib.Core.Path.{refl, ap}
use Prim.Native.Nat.{ℕ}
use lib.ListN.{set}
use Rattle.c_inflight.proofs.Laws.{granted_ends, full_ends}
use Rattle.c_inflight.proofs.claim_for.Goals as goal

pub returns-in_default : goal.returns-in_default
returns-in_default c = full_ends _ _ refl c.in_default.ensures refl

pub returns : goal.returns
returns c = granted_ends _ _ c.in-Some.ensures.0 c.in-Some.ensures.1 refl (ap (λ (w : ℕ). set c.args.codes.now c.in-Some.i w) c.code.ensures)
