-- `pieces_read::answer_in` is right since the frame is read from its own bytes. Assumes nothing.
use Rattle.std.specs.Prelude.{Option}
use mathlib.Core.Path.{sym, ap, ◌∙◌}
use mathlib.Core.List.{List}
use Prim.Native.Nat.{ℕ}
use Rattle.reading.specs.Bounds.{bounds_by}
use Rattle.reading.proofs.Bounds.{read_bounds}
use Rattle.records.specs.AsNumbers.{limit_of}
use Rattle.records.specs.Answered.{Bounded, ReadResult}
use Rattle.packet.specs.PacketRead.{Meets}
use Rattle.pieces_read.proofs.answer_in.Goals as goal

says-itself : {limit : Option ℕ} {s : List ℕ} {r : ReadResult} → Meets limit s r → Bounded r
says-itself {limit} {s} m = m.carries ∙ read_bounds (limit_of limit) s ∙ ap bounds_by (sym m.answer)

pub returns-in-InPiece-clause-carries : goal.returns-in-InPiece-clause-carries
returns-in-InPiece-clause-carries c = says-itself c.read.ensures.answer

pub returns-in-InBuffer-clause-carries : goal.returns-in-InBuffer-clause-carries
returns-in-InBuffer-clause-carries c = says-itself c.read-in-InBuffer.ensures.answer
