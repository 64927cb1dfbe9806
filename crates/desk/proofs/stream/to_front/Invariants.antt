use Rattle.std.proofs.Common.{◌≡◌, ◌≤◌, length}
use Rattle.desk.specs.Held.{fronted}
use Rattle.desk.proofs.stream.to_front.Given as goal

abbrev pub invariant-loop-i : goal.invariant-loop-i
invariant-loop-i l = (length l.buf ≡ length l.initial.buf) × (l.i ≤ l.len) × (l.buf ≡ fronted l.initial.buf l.start l.i)
