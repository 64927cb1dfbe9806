-- `desk_render::shown_size` is right case by case. Assumes nothing.
use Rattle.desk_render.proofs.Laws.{size_mark, size_slash, size_below, size_above, size_plain}
use Rattle.desk_render.proofs.shown_size.Goals as goal

pub returns-then-b-eq34 : goal.returns-then-b-eq34
returns-then-b-eq34 c = size_mark _ c.if-b-eq34.true

pub returns-then-b-eq92 : goal.returns-then-b-eq92
returns-then-b-eq92 c = size_slash _ c.if-b-eq92.true

pub returns-then-b-lt32 : goal.returns-then-b-lt32
returns-then-b-lt32 c = size_below _ c.if-b-eq34.false c.if-b-eq92.false c.if-b-lt32.true

pub returns-then-b-gt126 : goal.returns-then-b-gt126
returns-then-b-gt126 c = size_above _ c.if-b-eq34.false c.if-b-eq92.false c.if-b-lt32.false c.if-b-gt126.true

pub returns : goal.returns
returns c = size_plain _ c.if-b-eq34.false c.if-b-eq92.false c.if-b-lt32.false c.if-b-gt126.false
