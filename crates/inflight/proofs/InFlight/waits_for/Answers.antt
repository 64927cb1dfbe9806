-- `InFlight::waits_for` is right since an identifier outside has no place. Assumes nothing.
use mathlib.Core.Path.{◌≡◌, sym, ◌∙◌}
use native.Mathlib.Omega.{arith}
use borrow.Author.Rules.{rules}
use lib.ListN.{length}
use Rattle.inflight.specs.Rules.{limit}
use Rattle.inflight.proofs.Laws.{waits_length, wait_at, wait_zero, wait_above, wait_in_lem, unmapped}
use Rattle.inflight.proofs.InFlight.waits_for.Goals as goal

pub returns-then-n-lt1 : goal.returns-then-n-lt1
returns-then-n-lt1 c = wait_zero _ _ (omega arith)

pub returns-then-n-gt-LIMIT : goal.returns-then-n-gt-LIMIT
returns-then-n-gt-LIMIT c =
    let l : length c.args.self.places ≡ limit = search (rules, unmapped) in
    wait_above _ _ (omega (arith, waits_length c.args.self, l))

pub returns : goal.returns
returns c =
    let l : length c.args.self.places ≡ limit = search (rules, unmapped) in
    sym (wait_at c.args.self _ _ (omega (arith, l))) ∙ wait_in_lem _ _ (omega arith)
