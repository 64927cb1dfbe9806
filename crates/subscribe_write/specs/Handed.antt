-- What is handed over to write a Subscribe, from the arguments. Assumes nothing.
use Rattle.std.specs.Prelude.{List, ℕ}
use Rattle.writing.specs.Handed.{SubscribeHanded}
use Rattle.records.specs.AsNumbers.{number_if}
use Rattle.write_runs.specs.Given.{run}
use Rattle.subscribe_write.specs.declared.SubscribeHead.{SubscribeHead}

-- 01, grammar: "Subscribe (8)": the numbers and presence, the user properties and their lengths, the filters, their lengths and options
abbrev pub handed : SubscribeHead → List ℕ → List ℕ → List ℕ → List ℕ → List ℕ → SubscribeHanded
handed m user lengths filters filterLengths options = record {
  ident = m.pkid;
  block = m.block;
  subscription = number_if m.id;
  user = run user lengths;
  filters = run filters filterLengths;
  options = options;
}
