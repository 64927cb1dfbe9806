-- `c_journal::ecch_journal_save` is right since what is stored is what `saves` says. Assumes nothing.
use mathlib.Core.Path.{ap, ◌∙◌}
use lib.Seq.{sets}
use Rattle.c_journal.proofs.Laws.{ends_by, stored_by}
use Rattle.c_journal.proofs.ecch_journal_save.Goals as goal

pub returns : goal.returns
returns c = record {
  left = ends_by c.saves-s.ensures c.saved.ensures;
  stored = c.store.ensures ∙ ap (sets c.args.answer.now 0) c.numbers.ensures ∙ stored_by c.args.answer.now c.saves-s.ensures;
}
