-- `desk_text::is_plain` is right since those behind 0x22, but for 0x5C, are neither marked nor escaped. Assumes nothing.
use borrow.Author.Tests.{leb-true}
use Rattle.desk_text.proofs.Laws.{plain_shown}
use Rattle.desk_text.proofs.is_plain.Goals as goal

pub returns : goal.returns
returns c = λ e. plain_shown _ c.if-b-lt35.false c.if-b-eq92.false (leb-true _ _ e)
