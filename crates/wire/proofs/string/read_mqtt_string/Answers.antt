-- `wire::string::read_mqtt_string` meets its contract: what is refused as bytes is refused as text, and the part that stands there is
-- tested. Assumes nothing.
use mathlib.Core.Path.{ap, sym, ◌∙◌}
use Rattle.reading.specs.Read.{is_text}
use Rattle.records.proofs.Laws.{handed_on}
use Rattle.wire.proofs.Laws.{string_stands, text_bad, text_fine, text_broken}
use Rattle.wire.proofs.string.read_mqtt_string.Goals as goal

pub returns-in_err-p : goal.returns-in_err-p
returns-in_err-p c = handed_on _ _ _ c.from_residual.ensures.1 (text_bad _ _ _ c.in_err-p.ensures)

pub returns-then-is_utf8 : goal.returns-then-is_utf8
returns-then-is_utf8 c =
    let h = string_stands _ _ _ c.in_ok-p.ensures in
    text_fine _ _ h (sym c.if-is_utf8.true ∙ c.is_utf8.ensures ∙ ap is_text c.part.ensures.bytes)

pub returns : goal.returns
returns c =
    let h = string_stands _ _ _ c.in_ok-p.ensures in
    text_broken _ _ h (sym c.if-is_utf8.false ∙ c.is_utf8.ensures ∙ ap is_text c.part.ensures.bytes)
