-- What is laid into an output that has room for it, and the rows of a Publish one behind the other. Assumes nothing.
use Rattle.std.specs.Prelude.{◌≡◌, List, ◌++◌, ℕ, ◌+◌, ◌≤◌, length}
use Rattle.std.proofs.lemmas.List.Edits.{sets}
use Rattle.grammar.specs.Tables.{u8, u16, u32, number, text, bytes, pair}
use Rattle.writing.specs.Handed.{several}
use Rattle.writing.specs.Spell.{row_bytes}
use Rattle.write_runs.specs.Given.{given_one, given_lent, given_pairs}
use Rattle.publish_plan.specs.declared.head.PublishHead.{PublishHead}

-- the bytes xs stand from `at` on, and `next` is the index behind them
pub record Laid (before : List ℕ) (at : ℕ) (xs after : List ℕ) (next : ℕ) : Type 0 where
  pub stores : after ≡ sets before at xs
  pub place : next ≡ at + length xs

-- the output has room for xs from `at` on
pub record Room (out : List ℕ) (at : ℕ) (xs : List ℕ) : Type 0 where
  pub fits : at + length xs ≤ length out

-- 01, table of properties: 1, 2 and 35
abbrev pub number_rows : PublishHead → List ℕ
number_rows head =
    row_bytes (1, u8) (given_one head.payload_format_indicator) ++ (row_bytes (2, u32) (given_one head.message_expiry_interval) ++ row_bytes (35, u16) (given_one head.topic_alias))

-- 01, table of properties: 8 and 9
abbrev pub string_rows : PublishHead → List ℕ → List ℕ → List ℕ
string_rows head response correlation = row_bytes (8, text) (given_lent head.response_topic response) ++ row_bytes (9, bytes) (given_lent head.correlation_data correlation)

-- 01, table of properties: 38, 11 and 3
abbrev pub list_rows : PublishHead → List ℕ → List ℕ → List ℕ → List ℕ → List ℕ
list_rows head user lengths ids content = row_bytes (38, pair) (given_pairs user lengths) ++ (row_bytes (11, number) (several ids) ++ row_bytes (3, text) (given_lent head.content_type content))

-- 01, table of properties, row Publish
abbrev pub all_rows : PublishHead → List ℕ → List ℕ → List ℕ → List ℕ → List ℕ → List ℕ → List ℕ
all_rows head response correlation user lengths ids content = number_rows head ++ (string_rows head response correlation ++ list_rows head user lengths ids content)
