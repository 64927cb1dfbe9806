use Rattle.std.proofs.Common.{◌≡◌, ◌-◌, length, drop}
use Rattle.reading.specs.Read.{is_text}
use Rattle.text_chars.proofs.by_chars.Given as goal

abbrev pub invariant-loop-i : goal.invariant-loop-i
invariant-loop-i l = is_text (drop l.at l.s) ≡ is_text (drop l.i l.s)

abbrev pub decreases-loop-i : goal.decreases-loop-i
decreases-loop-i l = length l.s - l.i
