-- `alias::set` is right since the length is stored, and the topic put behind it. Assumes nothing.
use mathlib.Core.Path.{◌∙◌}
use native.Mathlib.Numerals.{add-one}
use Rattle.alias.specs.Table.{set_alias}
use Rattle.alias.proofs.set.Goals as goal

pub returns : goal.returns
unfolding set_alias
returns c = c.put_bytes.ensures ∙ simp add-one
