-- `filters::pass_filter` is right since a filter is a text, then an options byte, and goes on behind it where its options may stand. Assumes nothing.
use mathlib.Core.Path.{sym, ◌∙◌}
use Rattle.filters.proofs.Laws.{past_text, past_cut, past_fine, past_unfit}
use Rattle.filters.proofs.pass_filter.Goals as goal

pub returns-in_default : goal.returns-in_default
returns-in_default c = past_text _ _ (rw c.in_default.is at c.read_mqtt_string.ensures)

pub returns-in_default-read_u8 : goal.returns-in_default-read_u8
returns-in_default-read_u8 c = past_cut _ _ (rw c.in-Ok.is at c.read_mqtt_string.ensures) (rw c.in_default-read_u8.is at c.read_u8.ensures)

pub returns-then-has_options : goal.returns-then-has_options
returns-then-has_options c =
    past_fine _ _
    (rw c.in-Ok.is at c.read_mqtt_string.ensures)
    (rw c.in-Ok-read_u8.is at c.read_u8.ensures)
    (sym c.has_options.ensures ∙ c.if-has_options.true)

pub returns-else-has_options : goal.returns-else-has_options
returns-else-has_options c =
    past_unfit _ _
    (rw c.in-Ok.is at c.read_mqtt_string.ensures)
    (rw c.in-Ok-read_u8.is at c.read_u8.ensures)
    (sym c.has_options.ensures ∙ c.if-has_options.false)
