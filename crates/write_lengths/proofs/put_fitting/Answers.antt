-- `write_lengths::put_fitting` is right since past the end nothing is stored, and `len_len` counts all the same. Assumes nothing.
use mathlib.Core.Path.{sym, ◌∙◌}
use native.Mathlib.Omega.{arith}
use Rattle.writing.specs.Spell.{short}
use Rattle.writing.proofs.Sizes.{length_short}
use Rattle.write_bytes.proofs.Laws.{sets_out}
use Rattle.write_lengths.proofs.put_fitting.Goals as goal

pub returns-else-at-out : goal.returns-else-at-out
returns-else-at-out c = let a = c.args in (sets_out (short a.n) a.out.now a.at (omega arith), c.len_len.ensures ∙ sym (length_short a.n))
