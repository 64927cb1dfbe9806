-- `InFlight::claim_for` is right since the place found is the first free one. Assumes nothing.
use mathlib.Core.Path.{◌≡◌, ap, ◌∙◌}
use Prim.Native.Nat.{ℕ, ◌+◌, ◌<◌}
use native.Mathlib.Omega.{arith}
use borrow.Author.Rules.{rules}
use lib.ListN.{length, set}
use Rattle.inflight.specs.Rules.{limit, first_free}
use Rattle.inflight.specs.TableAnswer.{code_of, waits_of}
use Rattle.inflight.proofs.Laws.{waits_length, wait_set, unmapped, claim_granted, claim_full, free_position}
use Rattle.inflight.proofs.InFlight.claim_for.Goals as goal

pub returns-in_default : goal.returns-in_default
returns-in_default c =
    let l : length c.args.self.places ≡ limit = search (rules, unmapped) in
    claim_full _ (omega (arith, waits_length c.args.self, l, free_position c.args.self c.in_default.ensures l))

pub returns : goal.returns
returns c =
    let l : length c.args.self.places ≡ limit = search (rules, unmapped) in
    let p : (c.in-Some.i ≡ first_free (waits_of c.args.self)) × (c.in-Some.i < limit) = free_position c.args.self c.in-Some.ensures l in
    claim_granted (waits_of c.args.self) _ (omega (arith, waits_length c.args.self, l, p.0, p.1))
    (wait_set _ _ _ ∙ ap (λ (i : ℕ). set (waits_of c.args.self) i (code_of c.args.w)) p.0)
    (ap (λ (i : ℕ). i + 1) p.0)
