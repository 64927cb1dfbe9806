-- `desk_text::put_piece` is right since the byte is put as it stands, or as `desk_render` shows it. Assumes nothing.
use mathlib.Core.Path.{sym, ◌∙◌}
use Rattle.desk_text.proofs.Laws.{put_byte, piece_plain, piece_stands, piece_shown}
use Rattle.desk_text.proofs.put_piece.Goals as goal

pub returns-then-is_plain : goal.returns-then-is_plain
returns-then-is_plain c = piece_plain _ _ _ (c.is_plain.ensures c.if-is_plain.true) c.put_one.ensures

pub returns-then-does_stand : goal.returns-then-does_stand
returns-then-does_stand c = piece_stands _ _ _ (sym c.if-does_stand.true ∙ c.does_stand.ensures) c.put_one-then-does_stand.ensures

pub returns : goal.returns
returns c = piece_shown _ _ _ (sym c.if-does_stand.false ∙ c.does_stand.ensures) (put_byte c.put_shown-step.ensures.shows)
