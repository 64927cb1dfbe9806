-- `c_filters::put_entry` is right since the numbers are stored in the part behind `at`. Assumes nothing.
use Rattle.c_filters.proofs.Laws.{put_behind}
use mathlib.Core.Path.{refl, ◌∙◌}
use lib.ListN.{length}
use Rattle.c_filters.specs.Numbers.{entry_numbers}
use Rattle.c_filters.proofs.put_entry.Goals as goal

pub returns : goal.returns
returns c =
    let a = c.args in
    put_behind a.table.now (entry_numbers a.e) a.at (length a.table.now) c.requires refl (c.store.ensures ∙ rw c.entry_numbers-numbers.ensures)
