-- What a row of the table of kinds tells. Assumes nothing.
use Rattle.std.specs.Prelude as std
use Rattle.std.specs.Prelude.{Bool, true, false, List, [], ◌∷◌, ◌++◌, ℕ, ◌-◌, length, replicate, Some, None}
use Rattle.std.proofs.Math.Option.{Option, none, some}
use Prim.Native.String.{String}
use Rattle.grammar.specs.Choice.{is_in, lookup}
use Rattle.grammar.specs.Tables.{Row, Layout, a_publish, an_ack, a_subscribe, a_reply, an_unsubscribe, a_ping, kinds, reserved, reasons_of}
use Rattle.records.specs.Ascii.{codes_of}
use Rattle.records.specs.AsNumbers.{told_ack_kind, told_reply_kind}
use Rattle.tables.specs.Property.{table_row}
use Rattle.kinds.specs.declared.Kind.{Kind}
use Rattle.kinds.specs.declared.Kind.TheVariants as kind
use Rattle.kinds.specs.declared.Word.{Word}
use Rattle.tables.specs.declared.property.PropertyRow.{PropertyRow}

-- the number of a kind, whether it is reserved (01, row 4), and the layout of a kind that is carried
abbrev pub told_kind : Kind → ℕ × Bool × Option Layout
told_kind kind.Publish = (3, false, some a_publish)
told_kind (kind.Ack k) = (told_ack_kind k, false, some (an_ack (reasons_of (told_ack_kind k))))
told_kind kind.Subscribe = (8, false, some a_subscribe)
told_kind (kind.Reply k) = (told_reply_kind k, false, some (a_reply (reasons_of (told_reply_kind k))))
told_kind kind.Unsubscribe = (10, false, some an_unsubscribe)
told_kind kind.PingReq = (12, false, some a_ping)
told_kind kind.PingResp = (13, false, some a_ping)
told_kind (kind.Reserved k) = (k, true, none)
told_kind (kind.NotCarried k) = (k, false, none)

-- what the tables of 01 say of a number
abbrev pub kind_row : ℕ → ℕ × Bool × Option Layout
kind_row k = (k, is_in k reserved, lookup kinds k)

-- the number of a kind
abbrev pub number_of : Kind → ℕ
number_of k = (told_kind k).0

-- the row of the block, if there is one
abbrev pub told_row : std.Option PropertyRow → Option Row
told_row (Some row) = some (table_row row)
told_row None = none

-- docs/DESK.md: the word that a line has for a kind
unfoldable pub words : List (ℕ × String)
words = (3, "publish") ∷ (4, "puback") ∷ (5, "pubrec") ∷ (6, "pubrel") ∷ (7, "pubcomp") ∷ (8, "subscribe") ∷ (9, "suback") ∷ (10, "unsubscribe")
    ∷ (11, "unsuback") ∷ (12, "pingreq") ∷ (13, "pingresp") ∷ []

-- its letters; none for a kind that is not carried
abbrev letters_of : Option String → List ℕ
letters_of none = []
letters_of (some w) = codes_of w

unfoldable pub word_of : ℕ → List ℕ
word_of k = letters_of (lookup words k)

-- a word of these bytes and this length
abbrev pub made : List ℕ → ℕ → Word
made b n = record { bytes = b; len = n }

-- a word and its length, with 0 in what is left of the 11 bytes
abbrev pub padded : List ℕ → Word
padded b = made (b ++ replicate (11 - length b) 0) (length b)
