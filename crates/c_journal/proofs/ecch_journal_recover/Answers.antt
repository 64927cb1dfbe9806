-- `c_journal::ecch_journal_recover` is right since number, table and answer are those of `recover`. Assumes nothing.
use mathlib.Core.Path.{ap, ◌∙◌}
use Rattle.inflight.specs.TableAnswer.{waits_of}
use Rattle.c_journal.specs.Given.{number_of, first_of}
use Rattle.c_journal.proofs.Laws.{number_any, first_found, recovered_table}
use Rattle.c_journal.proofs.ecch_journal_recover.Goals as goal

pub returns : goal.returns
returns c =
    let r = c.recover-r in
    let number = c.found-number.ensures ∙ number_any r.result.found (waits_of r.result.table) ∙ ap number_of r.ensures.says in
    let first = c.unwrap_or.ensures ∙ first_found r.result.found (waits_of r.result.table) ∙ ap first_of r.ensures.says in
    record { number = c.with_room.ensures ∙ rw number; left = c.put_found.ensures ∙ rw (number, recovered_table r.result r.ensures); stored = c.store.ensures ∙ rw first }
