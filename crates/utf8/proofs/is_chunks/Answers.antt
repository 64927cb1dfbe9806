-- `utf8::is_chunks` is right since the size is chosen so that the chunks cover the text. Assumes nothing.
use mathlib.Core.Bool.{false≢true}
use Rattle.utf8.proofs.is_chunks.Goals as goal

pub returns-then-end-lt16 : goal.returns-then-end-lt16
returns-then-end-lt16 c = λ e. absurd (false≢true e)

pub returns : goal.returns
returns c = λ e. absurd (false≢true e)
