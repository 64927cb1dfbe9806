-- What the values that a Publish keeps while its block is read tell, and the answer. Assumes nothing.
use Rattle.std.specs.Prelude as std
use Rattle.std.specs.Prelude.{◌≡◌, Bool, true, false, List, ℕ, ◌≤◌, Result}
use Rattle.std.proofs.Math.Option.{Option, none, some}
use Rattle.grammar.specs.Choice.{is_in}
use Rattle.grammar.specs.Record.{Val, num, str, PublishProps}
use Rattle.reading.specs.Reader.{Fit}
use Rattle.reading.specs.Place.{Span}
use Rattle.records.specs.AsNumbers.{told_span, told_by}
use Rattle.records.specs.Said.{told_publish_block}
use Rattle.properties.specs.Block.{publish_record, loop_from}
use Rattle.publish.specs.declared.Singles.{Singles}
use Rattle.records.specs.declared.publish_record.PublishProperties.{PublishProperties}
use Rattle.records.specs.declared.error.Error.{Error}

-- 01, table of properties: a value, if it is given
abbrev pub given : Bool → Val Span → Option (Val Span)
given true v = some v
given false v = none

-- 01, table of properties, row Publish: every value that is given, and the block that holds the lists
abbrev pub told_singles : Singles → PublishProps Span (λ A. Span)
told_singles p = record {
  format = given p.has_format (num p.format);
  expiry = given p.has_expiry (num p.expiry);
  alias = given p.has_alias (num p.alias);
  response = given p.has_response (str (told_span p.response));
  correlation = given p.has_correlation (str (told_span p.correlation));
  user = told_span p.block;
  subscriptions = told_span p.block;
  content = given p.has_content (str (told_span p.content));
}

-- 01, grammar: "38, and 11 in Publish, are lists kept in order": they stand in s from index `at` to r, and whatever came before them, o of
-- which σ may not come again, a loop over the block goes on at r with what it had
pub record ListsPassed (s : List ℕ) (at r : ℕ) : Type 0 where
  pub ahead : at ≤ r
  pub rest : (o : publish_record.Props) (σ : List ℕ) → ((i : ℕ) → is_in i σ ≡ publish_record.has o i) → loop_from publish_record o σ s at ≡ loop_from publish_record o σ s r

-- the properties, if there are any, and the index after the block; or the refusal
abbrev pub told_publish_block_at : Result (std.Option PublishProperties × ℕ) Error → Fit (Option (PublishProps Span (λ A. Span)) × ℕ)
told_publish_block_at = told_by (λ (p, n). (told_publish_block p, n))
