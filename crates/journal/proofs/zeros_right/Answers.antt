-- `journal::zeros_right` is right since the part is the one that the definition names. Assumes nothing.
use mathlib.Core.Path.{sym, ap, ◌∙◌}
use Rattle.std.proofs.lemmas.List.{drop-take}
use Rattle.journal.specs.Block.{all_zero}
use Rattle.journal.proofs.Turns.{zeros_all}
use Rattle.journal.proofs.zeros_right.Goals as goal

pub returns : goal.returns
returns c = c.all_zero.ensures ∙ zeros_all _ ∙ ap all_zero (sym (drop-take 264 244 c.args.b.now))
