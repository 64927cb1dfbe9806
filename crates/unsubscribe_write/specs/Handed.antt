-- What is handed over to write an Unsubscribe, from the arguments. Assumes nothing.
use Rattle.std.specs.Prelude.{List, ℕ}
use Rattle.writing.specs.Handed.{UnsubscribeHanded}
use Rattle.write_runs.specs.Given.{run}
use Rattle.unsubscribe_write.specs.declared.UnsubscribeHead.{UnsubscribeHead}

-- 02, P1: Unsubscribe: the numbers and presence, the user properties and their lengths, the topics and their lengths
abbrev pub handed : UnsubscribeHead → List ℕ → List ℕ → List ℕ → List ℕ → UnsubscribeHanded
handed m user lengths topics topicLengths = record {
  ident = m.pkid;
  block = m.block;
  user = run user lengths;
  topics = run topics topicLengths;
}
