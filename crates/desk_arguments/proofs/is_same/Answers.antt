-- `desk_arguments::is_same` is right since `==` compares byte by byte. Assumes nothing.
use Rattle.std.proofs.Common.{◌∙◌}
use Rattle.desk_arguments.proofs.Laws.{same_bytes}
use Rattle.desk_arguments.proofs.is_same.Goals as goal

pub returns : goal.returns
returns c = c.eq.ensures ∙ same_bytes _ _
