-- `utf8::is_utf8` meets its contract: a few bytes are tested one by one, others by chunks. Assumes nothing.
use mathlib.Core.Path.{refl}
use Rattle.utf8.proofs.is_utf8.Goals as goal

pub by_chunks-requires : goal.by_chunks-requires
by_chunks-requires c = refl
