-- What is handed over for the row of every acknowledgement, from the arguments. Assumes nothing.
use Rattle.std.specs.Prelude.{Bool, List, ℕ}
use Rattle.writing.specs.Handed.{Givens, ack_given}
use Rattle.write_runs.specs.Given.{run}

-- 01, table of properties, row PubAck; 02, P1: whether there is a reason string, the string, the user properties and their lengths
abbrev pub given : Bool → List ℕ → List ℕ → List ℕ → Givens
given on text user lengths = ack_given (record { on = on; bytes = text }) (run user lengths)
