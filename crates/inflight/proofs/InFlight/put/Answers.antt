-- `InFlight::put` is right since one place changes, or none. Assumes nothing.
use mathlib.Core.Path.{◌≡◌, ◌∙◌}
use native.Mathlib.Omega.{arith}
use borrow.Author.Rules.{rules}
use lib.ListN.{length}
use Rattle.inflight.specs.Rules.{limit}
use Rattle.inflight.proofs.Laws.{waits_length, wait_set, put_zero, put_above, put_in, unmapped}
use Rattle.inflight.proofs.InFlight.put.Goals as goal

pub returns-then-n-eq0 : goal.returns-then-n-eq0
returns-then-n-eq0 c = put_zero _ _ _ c.if-n-eq0.true

pub returns-then-n-gt-LIMIT : goal.returns-then-n-gt-LIMIT
returns-then-n-gt-LIMIT c =
    let e : length c.args.self.places ≡ limit = search (rules, unmapped) in
    put_above _ _ _ (omega (arith, waits_length c.args.self, e))

pub returns : goal.returns
returns c = wait_set _ _ _ ∙ put_in _ _ _ (omega arith)
