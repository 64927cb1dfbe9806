use Rattle.std.proofs.Common.{◌≡◌, take}
use Rattle.text_chars.specs.Text.{all_ascii}
use Rattle.text_chars.proofs.is_ascii.Given as goal

abbrev pub invariant-loop-b : goal.invariant-loop-b
invariant-loop-b l = l.all ≡ all_ascii (take l.b-index l.run)
