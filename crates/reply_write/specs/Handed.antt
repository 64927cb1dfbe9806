-- What is handed over to write a SubAck or an UnsubAck, from the arguments. Assumes nothing.
use Rattle.std.specs.Prelude.{List, ℕ}
use Rattle.writing.specs.Handed.{ReplyHanded}
use Rattle.write_runs.specs.Given.{run}
use Rattle.reply_write.specs.declared.ReplyHead.{ReplyHead}

-- 02, P1: SubAck and UnsubAck: the numbers and presence, the reason string, the user properties and their lengths, the reasons as bytes
abbrev pub handed : ReplyHead → List ℕ → List ℕ → List ℕ → List ℕ → ReplyHanded
handed m text user lengths reasons = record {
  ident = m.pkid;
  block = m.block;
  text = record { on = m.reason_string; bytes = text };
  user = run user lengths;
  reasons = reasons;
}
