-- What the answers on properties tell: a row of 01's table, and the form of a value there. Assumes nothing.
use Rattle.std.specs.Prelude as std
use Rattle.std.specs.Prelude.{Some, None}
use Rattle.std.proofs.Math.Option.{Option, none, some}
use Rattle.grammar.specs.Tables as tables
use Rattle.tables.specs.declared.property.PropertyRow.{PropertyRow}
use Rattle.tables.specs.declared.property.PropertyRow.TheVariants.{Publish, Subscribe, Ack, Unsubscribe}
use Rattle.tables.specs.declared.property.OtherRow.{OtherRow}
use Rattle.tables.specs.declared.property.PropertyForm.{PropertyForm}
use Rattle.tables.specs.declared.property.PropertyForm.TheVariants.{U8, U16, U32, Number, Text, Bytes, Pair}

-- 01, table of properties: a row
abbrev pub table_row : PropertyRow → tables.Row
table_row Publish = tables.publish_row
table_row Subscribe = tables.subscribe_row
table_row Ack = tables.ack_row
table_row Unsubscribe = tables.unsubscribe_row

-- 01, table of properties: the rows beside Publish's
abbrev pub other_of : OtherRow → PropertyRow
other_of OtherRow.Subscribe = Subscribe
other_of OtherRow.Ack = Ack
other_of OtherRow.Unsubscribe = Unsubscribe

-- 01, table of properties: the form of a value, if the row has the identifier
abbrev pub told_form : std.Option PropertyForm → Option tables.Form
told_form (Some U8) = some tables.u8
told_form (Some U16) = some tables.u16
told_form (Some U32) = some tables.u32
told_form (Some Number) = some tables.number
told_form (Some Text) = some tables.text
told_form (Some Bytes) = some tables.bytes
told_form (Some Pair) = some tables.pair
told_form None = none
