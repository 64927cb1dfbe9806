-- `journal::put_marks` is right since each byte is that of its four places. Assumes nothing.
use mathlib.Core.Path.{◌≡◌}
use native.Mathlib.Omega.{arith}
use borrow.Author.Rules.{rules}
use lib.ListN.{length}
use Rattle.inflight.specs.Rules.{limit}
use Rattle.inflight.proofs.Laws.{unmapped}
use Rattle.journal.proofs.Turns.{mark_none, mark_more, four_places}
use Rattle.journal.proofs.put_marks.Goals as goal

pub loop-j-init : goal.loop-j-init
loop-j-init c = mark_none _ _

pub loop-j-preserved : goal.loop-j-preserved
loop-j-preserved c =
    let l : length c.args.table.places ≡ limit = search (rules, unmapped) in
    mark_more c.loop-j.invariant (omega arith) (four_places c.args.table _ _ _ _ _ (omega (arith, l)) c.four.ensures)
