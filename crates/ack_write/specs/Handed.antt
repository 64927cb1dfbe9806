-- What is handed over to write a publish acknowledgement, from the arguments. Assumes nothing.
use Rattle.std.specs.Prelude.{List, ℕ}
use Rattle.writing.specs.Handed.{AckHanded, Givens, ack_given}
use Rattle.write_runs.specs.Given.{run}
use Rattle.ack_write.specs.declared.AckHead.{AckHead}

-- 01, grammar: "PubAck (4)"; 02, P1: the four share one layout: the numbers and presence, the reason string, the user properties and their lengths
abbrev pub handed : AckHead → List ℕ → List ℕ → List ℕ → AckHanded
handed m text user lengths = record {
  ident = m.pkid;
  reason = m.reason;
  block = m.block;
  text = record { on = m.reason_string; bytes = text };
  user = run user lengths;
}

-- what is handed over for its row of the table of properties
abbrev pub given_for : AckHead → List ℕ → List ℕ → List ℕ → Givens
given_for m text user lengths = ack_given (handed m text user lengths).text (handed m text user lengths).user
