-- The block of each row of 01's table, property by property, and what the answers tell. Assumes nothing.
use Rattle.std.specs.Prelude as std
use Rattle.std.specs.Prelude.{Bool, false, List, [], ◌∷◌, ℕ, length, drop, Result}
use Rattle.std.proofs.Math.Option.{Option, none, some}
use Rattle.grammar.specs.Choice.{lookup, is_some}
use Rattle.grammar.specs.Tables.{Row, publish_row}
use Rattle.grammar.specs.Record.{PropOf, last_from, PublishProps, publish_props, Props, props_of}
use Rattle.grammar.specs.Sentence.{met}
use Rattle.reading.specs.Refusal.{cut, crossed}
use Rattle.reading.specs.Reader.{Fit, Reader, sized_of, fold_fit}
use Rattle.reading.specs.Read.{num_of, any_bytes, string_fit, once_of}
use Rattle.reading.specs.Place.{Span, as_places, on_got}
use Rattle.records.specs.AsNumbers.{told_by}
use Rattle.records.specs.Said.{told_block}
use Rattle.records.specs.declared.properties_record.Properties.{Properties}
use Rattle.records.specs.declared.error.Error.{Error}

-- ---- where a block stands

-- 01, grammar: "a variable length number L and L bytes", whatever the bytes; where the L bytes stand
unfoldable pub extent_of : ℕ → Reader Span
extent_of = sized_of (num_of cut 4) crossed (string_fit as_places any_bytes cut)

-- ---- the record, property by property

-- nothing said is false
abbrev pub or_false : Option Bool → Bool
or_false none = false
or_false (some b) = b

-- a row of 01's table, and its record: `made p ps` of the properties ps whose block is at p, `more o ps` of ps behind those of o, `has o i`
-- whether o has the single-valued property i (02, P9).
-- That `more` is `made` property by property is proved (proofs/Laws/Fold, Lawful)
pub record RowRecord : Type 1 where
  pub row : Row
  pub Props : Type 0
  pub made : Span → List (PropOf Span) → Props
  pub more : Props → List (PropOf Span) → Props
  pub has : Props → ℕ → Bool

-- what is said of an identifier in a list; false if nothing is
abbrev pub said_of : List (ℕ × Bool) → ℕ → Bool
said_of l i = or_false (lookup l i)

-- 02, P9: which single-valued properties are there
abbrev pub publish_said : PublishProps Span (λ A. Span) → List (ℕ × Bool)
publish_said o = (1, is_some o.format) ∷ (2, is_some o.expiry) ∷ (35, is_some o.alias) ∷ (8, is_some o.response) ∷ (9, is_some o.correlation) ∷ (3, is_some o.content) ∷ []

-- 01, table of properties, row Publish; the lists stay where they are
abbrev pub publish_record : RowRecord
publish_record = record {
  row = publish_row;
  Props = PublishProps Span (λ A. Span);
  made = λ p. publish_props Span (λ A. Span) (λ vs. p);
  more = λ o ps. record {
    format = last_from o.format 1 ps;
    expiry = last_from o.expiry 2 ps;
    alias = last_from o.alias 35 ps;
    response = last_from o.response 8 ps;
    correlation = last_from o.correlation 9 ps;
    user = o.user;
    subscriptions = o.subscriptions;
    content = last_from o.content 3 ps;
  };
  has = λ o. said_of (publish_said o);
}

-- 02, P9: which single-valued properties are there, at any other place
abbrev pub props_said : Props Span (λ A. Span) → List (ℕ × Bool)
props_said o = (31, is_some o.reason) ∷ (11, is_some o.ident) ∷ []

-- 01, table of properties: any other place
abbrev pub props_row : Row → RowRecord
props_row row = record {
  row = row;
  Props = Props Span (λ A. Span);
  made = λ p. props_of Span (λ A. Span) (λ vs. p);
  more = λ o ps. record { reason = last_from o.reason 31 ps; ident = last_from o.ident 11 ps; user = o.user };
  has = λ o. said_of (props_said o);
}

module _ (w : RowRecord) where
  -- one property more
  abbrev pub applied : w.Props → PropOf Span → w.Props
  applied o a = w.more o (a ∷ [])

  -- a loop over the properties of s from index `at` to its end, o before them, of which σ may not come again
  unfoldable pub loop_from : w.Props → List ℕ → List ℕ → ℕ → Fit w.Props
  loop_from o σ s at = fold_fit (met w.row) (once_of as_places w.row (length s)) applied o σ (drop at s)

  -- the block at p, which ends where s does: the record, and the index after the block
  unfoldable pub filled_at : List ℕ → Span → Fit (Option w.Props × ℕ)
  filled_at s p = on_got (λ o. (some o, length s)) (loop_from (w.made p []) [] s p.start)

-- ---- answers: the properties, if there are any, and the index after the block; or the refusal

-- 01, table of properties: any row but Publish's
abbrev pub told_block_at : Result (std.Option Properties × ℕ) Error → Fit (Option (Props Span (λ A. Span)) × ℕ)
told_block_at = told_by (λ (p, n). (told_block p, n))
