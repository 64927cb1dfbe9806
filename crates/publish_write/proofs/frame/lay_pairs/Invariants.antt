use mathlib.Core.Path.{◌≡◌}
use Prim.Native.Nat.{◌+◌, ◌*◌}
use lib.ListN.{length, drop}
use Rattle.grammar.specs.Tables.{pair}
use Rattle.writing.specs.Lists.{sum}
use Rattle.writing.specs.Handed.{pairs}
use Rattle.writing.specs.Spell.{row_bytes}
use Rattle.writing.proofs.ForCode.{run_from}
use Rattle.write_runs.specs.Given.{run, given_pairs}
use Rattle.publish_write.proofs.Parts.{Laying}
use Rattle.publish_write.proofs.Turns.{AtPair}
use Rattle.publish_write.proofs.frame.lay_pairs.Given as goal

abbrev pub invariant-loop-pair : goal.invariant-loop-pair
invariant-loop-pair l =
    let i = 2 * length l.yielded in
    Laying l.initial.out l.at (row_bytes (38, pair) (given_pairs l.bytes l.lengths)) l.out l.to (row_bytes (38, pair) (pairs (run_from (run l.bytes l.lengths) i l.from)))
    × (l.from + sum (drop i l.lengths) ≡ length l.bytes) × AtPair l.lengths l.pair-iterator i
