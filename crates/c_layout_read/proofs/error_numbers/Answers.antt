-- `c_layout_read::error_numbers` is right since the values are those of the row. Assumes nothing.
use mathlib.Core.Path.{◌∙◌}
use Rattle.records.specs.AsNumbers.{told_error}
use Rattle.c_layout_read.proofs.Laws.{refused_encoded}
use Rattle.c_layout_read.proofs.error_numbers.Goals as goal

pub returns : goal.returns
returns c =
    c.numbers.ensures
    ∙ rw (c.second_value.ensures, c.first_value.ensures, c.values-v.ensures)
    (refused_encoded (told_error c.args.e) _)
