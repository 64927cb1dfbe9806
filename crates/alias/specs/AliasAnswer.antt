-- What a message hands over, what the code's answers tell, and which part is handed back. Assumes nothing.
use Rattle.std.specs.Prelude.{◌≡◌, List, ℕ, Result, Ok, Err}
use Rattle.std.proofs.Math.Option.{Option, none, some}
use Rattle.std.specs.Borrow.{Bor}
use Rattle.grammar.specs.Record.{Val, num, str, duo}
use Rattle.reading.specs.Refusal.{Refusal}
use Rattle.reading.specs.Reader.{Fit, got, bad}
use Rattle.reading.specs.Place.{Span}
use Rattle.records.specs.AsNumbers.{told_span}
use Rattle.records.specs.Said.{told_publish_block}
use Rattle.records.specs.declared.publish_record.Publish.{Publish}
use Rattle.wire.specs.StringRead.{in_block}
use Rattle.wire.specs.Part.{PartAt}
use Rattle.alias.specs.Alias.{alias_table_bad, alias_invalid, topic_missing, alias_unknown, alias_no_room, permit, table_after, Lies, in_packet, in_table}
use Rattle.alias.specs.declared.AliasError.{AliasError}
use Rattle.alias.specs.declared.Placed.{Placed}

-- a value that is a number
abbrev pub number_if : {S : Type 0} → Option (Val S) → Option ℕ
number_if none = none
number_if (some (num n)) = some n
number_if (some (str b)) = none
number_if (some (duo b c)) = none

-- 01, table of properties, 35: the alias of m; none where there is no block
abbrev pub alias_told : Publish → Option (Val Span)
alias_told m = in_block (λ ps. ps.alias) (told_publish_block m.properties)

-- the same as a number
abbrev pub alias_in : Publish → Option ℕ
alias_in m = number_if (alias_told m)

-- P6's refusals: the number of each, and no values
abbrev pub told_alias : AliasError → Refusal
told_alias AliasError.AliasTableBad = alias_table_bad
told_alias AliasError.AliasInvalid = alias_invalid
told_alias AliasError.TopicMissing = topic_missing
told_alias AliasError.AliasUnknown = alias_unknown
told_alias AliasError.AliasNoRoom = alias_no_room

-- what an answer tells: what f tells of its value, or P6's refusal
abbrev pub alias_by : {T B : Type 0} → (T → B) → Result T AliasError → Fit B
alias_by f (Ok x) = got (f x)
alias_by f (Err e) = bad (told_alias e)

-- the answer on a message
abbrev pub told_judged : Result (Unit {0}) AliasError → Fit (Unit {0})
told_judged = alias_by (λ u. u)

-- where a topic lies
abbrev pub told_lies : Placed → Lies
told_lies (Placed.InPacket p) = in_packet (told_span p)
told_lies (Placed.InTable p) = in_table (told_span p)

-- where the topic in force lies
abbrev pub told_placed : Result Placed AliasError → Fit Lies
told_placed = alias_by told_lies

-- P6: the answer, and the table t as it is afterwards, u
pub record Learnt (t topic : List ℕ) (a : Option ℕ) (u : List ℕ) (r : Result (Unit {0}) AliasError) : Type 0 where
  pub told : told_judged r ≡ permit t topic a
  pub after : u ≡ table_after t topic a

-- P6: "a part of the packet or of the alias table, never a copy": r is the part of s or of t that is said, in their own memory; the empty
-- part of s where the message is refused
abbrev pub PartIn : Bor (List ℕ) → Bor (List ℕ) → Fit Lies → Bor (List ℕ) → Type 0
PartIn s t (got (in_packet p)) r = PartAt s p r
PartIn s t (got (in_table p)) r = PartAt t p r
PartIn s t (bad k) r = PartAt s (record { start = 0; len = 0 }) r
