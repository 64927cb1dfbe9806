-- What the answer on a Subscribe tells, in 01's numbers and values. Assumes nothing.
use Rattle.std.specs.Prelude.{Result}
use Rattle.grammar.specs.Record.{subscribe}
use Rattle.reading.specs.Reader.{Fit}
use Rattle.reading.specs.Place.{Placed}
use Rattle.records.specs.AsNumbers.{told_by}
use Rattle.records.specs.Said.{told_subscribe}
use Rattle.records.specs.declared.subscribe_record.Subscribe.{Subscribe}
use Rattle.records.specs.declared.error.Error.{Error}

-- 01, grammar: "Subscribe (8)"
abbrev pub told_got_subscribe : Result Subscribe Error → Fit Placed
told_got_subscribe = told_by (λ m. subscribe (told_subscribe m))
