-- `json_text::put_escaped` is right since its tests are those of the form. Assumes nothing.
use Rattle.json_text.proofs.Laws.{form_mark, form_slash, form_low, form_delete, form_plain}
use Rattle.json_text.proofs.put_escaped.Goals as goal

pub put_marked-requires : goal.put_marked-requires
put_marked-requires c = form_mark _ c.if-b-eq34.true

pub put_marked-requires-then-b-eq92 : goal.put_marked-requires-then-b-eq92
put_marked-requires-then-b-eq92 c = form_slash _ c.if-b-eq92.true

pub put_code-requires : goal.put_code-requires
put_code-requires c = form_low _ c.if-b-eq34.false c.if-b-eq92.false c.if-b-lt32.true

pub put_code-requires-then-b-eq127 : goal.put_code-requires-then-b-eq127
put_code-requires-then-b-eq127 c = form_delete _ c.if-b-eq34.false c.if-b-eq92.false c.if-b-lt32.false c.if-b-eq127.true

pub put_plain-requires : goal.put_plain-requires
put_plain-requires c = form_plain _ c.if-b-eq34.false c.if-b-eq92.false c.if-b-lt32.false c.if-b-eq127.false
