-- `filters::read_filter` is right since a filter is a text, then an options byte, and its options decide. Assumes nothing.
use mathlib.Core.Path.{◌∙◌}
use Rattle.records.proofs.Laws.{handed_on}
use Rattle.filters.proofs.Laws.{filter_text, filter_cut, filter_options}
use Rattle.filters.proofs.read_filter.Goals as goal

pub returns-in_err-path : goal.returns-in_err-path
returns-in_err-path c = handed_on _ _ _ c.from_residual.ensures.1 (filter_text _ _ c.in_err-path.ensures)

pub returns-in_err-options : goal.returns-in_err-options
returns-in_err-options c = handed_on _ _ _ c.from_residual-in_err-options.ensures.1 (filter_cut _ _ c.in_ok-path.ensures c.in_err-options.ensures)

pub returns : goal.returns
returns c = c.with_options.ensures ∙ filter_options _ _ c.in_ok-path.ensures c.in_ok-options.ensures
