-- `c_journal::put_all` is right since each byte stored is the one of the table. Assumes nothing.
use mathlib.Core.Path.{◌≡◌, sym, ◌∙◌}
use native.Mathlib.Omega.{arith}
use borrow.Author.Rules.{rules}
use lib.ListN.{length}
use Rattle.inflight.specs.Rules.{limit}
use Rattle.inflight.proofs.Laws.{waits_length, wait_at, unmapped}
use Rattle.journal.proofs.Stores.{put_all}
use Rattle.c_journal.proofs.Bytes.{code_more}
use Rattle.c_journal.proofs.put_all.Goals as goal

pub loop-i-preserved : goal.loop-i-preserved
loop-i-preserved c = let l : length c.args.table.places ≡ limit = search (rules, unmapped) in code_more c.loop-i.invariant (omega (arith, waits_length c.args.table, l)) (c.code.ensures ∙ sym (wait_at c.args.table _ _ (omega (arith, l))))

pub returns : goal.returns
returns c = let l : length c.args.table.places ≡ limit = search (rules, unmapped) in put_all c.loop-i.invariant (omega (arith, waits_length c.args.table, l))
