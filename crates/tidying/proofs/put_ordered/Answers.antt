-- `tidying::put_ordered` is right since properties that stand in order are put as they stand, and others by their identifiers. Assumes nothing.
use mathlib.Core.Path.{◌∙◌}
use native.Mathlib.Omega.{arith}
use lib.ListN.{length, drop, length-drop}
use lib.Seq.{take_all}
use Rattle.tidying.proofs.Laws.Order.{ordered_put, rows_put}
use Rattle.tidying.proofs.put_ordered.Goals as goal

pub returns-then-in_order : goal.returns-then-in_order
returns-then-in_order c = ordered_put c.args.row c.args.ids.now c.args.s.now c.args.start c.args.out.now _ c.requires (λ ps v. c.in_order.ensures ps v c.if-in_order.true) c.piece.result.now (c.piece.ensures.bytes ∙ take_all (length c.args.s.now) (drop c.args.start c.args.s.now) (omega (arith, length-drop c.args.start c.args.s.now))) c.put_bytes.ensures

pub returns : goal.returns
returns c = rows_put c.args.row c.args.ids.now c.args.s.now c.args.start c.args.out.now _ c.requires c.put_rows.ensures
