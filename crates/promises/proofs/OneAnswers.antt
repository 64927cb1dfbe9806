-- The answers of `records`: a read, sizes, items and a forward rule; the values of a refusal; a limit. Assumes nothing.
use Rattle.std.specs.Prelude.{Ok}
use mathlib.Core.Path.{refl, ap}
use Prim.Native.Nat.{ℕ}
use Rattle.reading.specs.Refusal.{Answer}
use Rattle.reading.specs.Reader.{Fit}
use Rattle.reading.specs.Place.{Placed}
use Rattle.records.specs.Answered.{told, carried, told_size, told_user, told_identifier, told_filter_item, told_reason_item, told_topic_item, told_got_rule, ReadResult}
use Rattle.records.specs.AsNumbers.{told_values, told_rule, limit_of}
use Rattle.records.proofs.Answered.{back_read, back_read_lem, back_user, back_user_lem, back_identifier, back_identifier_lem, back_filter_item, back_filter_item_lem, back_reason_item, back_reason_item_lem, back_topic_item, back_topic_item_lem}
use Rattle.records.proofs.AsNumbers.{back_values, back_values_lem, back_limit, back_limit_lem, back_rule, back_rule_lem}
use Rattle.promises.specs.OneResult.{OneResult}
use Rattle.promises.proofs.OneLaws.{one_by, one_told}

-- all that a read tells: 02's two numbers beside the rest
abbrev pub told_read : ReadResult → Answer Placed × Fit (ℕ × ℕ)
told_read r = (told r, carried r)

pub read_same : OneResult told_read
read_same = one_by told_read back_read back_read_lem

-- of a size and of a write
pub size_same : OneResult told_size
size_same = one_told (λ n. n) Ok (λ n. refl)

pub user_same : OneResult told_user
user_same = one_by told_user back_user back_user_lem

pub identifier_same : OneResult told_identifier
identifier_same = one_by told_identifier back_identifier back_identifier_lem

pub filter_item_same : OneResult told_filter_item
filter_item_same = one_by told_filter_item back_filter_item back_filter_item_lem

pub reason_item_same : OneResult told_reason_item
reason_item_same = one_by told_reason_item back_reason_item back_reason_item_lem

pub topic_item_same : OneResult told_topic_item
topic_item_same = one_by told_topic_item back_topic_item back_topic_item_lem

pub rule_same : OneResult told_got_rule
rule_same = one_told told_rule (λ n. Ok (back_rule n)) (λ r. ap Ok (back_rule_lem r))

pub values_same : OneResult told_values
values_same = one_by told_values back_values back_values_lem

pub limit_same : OneResult limit_of
limit_same = one_by limit_of back_limit back_limit_lem
