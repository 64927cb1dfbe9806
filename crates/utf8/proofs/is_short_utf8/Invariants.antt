use Rattle.std.proofs.Common.{◌≡◌, drop}
use Rattle.reading.specs.Read.{is_text}
use Rattle.utf8.proofs.is_short_utf8.Given as goal

abbrev pub invariant-loop-i : goal.invariant-loop-i
invariant-loop-i l = is_text l.s ≡ is_text (drop l.i l.s)
