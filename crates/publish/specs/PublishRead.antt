-- What the answer on a Publish tells. Assumes nothing.
use Rattle.std.specs.Prelude.{Result}
use Rattle.grammar.specs.Record.{publish}
use Rattle.reading.specs.Reader.{Fit}
use Rattle.reading.specs.Place.{Placed}
use Rattle.records.specs.AsNumbers.{told_by}
use Rattle.records.specs.Said.{told_publish}
use Rattle.records.specs.declared.publish_record.Publish.{Publish}
use Rattle.records.specs.declared.error.Error.{Error}

-- 01, grammar: "Publish (3)", or the refusal
abbrev pub told_got_publish : Result Publish Error → Fit Placed
told_got_publish = told_by (λ m. publish (told_publish m))
