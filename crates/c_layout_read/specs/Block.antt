-- The properties of an answer under the names of the layout. Assumes nothing.
use Rattle.std.proofs.Math.Option.{Option, none, some}
use Rattle.grammar.specs.Record.{Val, num, str, duo, PublishProps, Props, publish, ack, subscribe, reply, unsubscribe, ping}
use Rattle.reading.specs.Place.{Span, Placed}
use Rattle.c_layout_read.specs.declared.place.Number.{Number}
use Rattle.c_layout_read.specs.declared.place.Text.{Text}
use Rattle.c_layout_read.specs.declared.place.Block.{Block}

-- ---- single values

-- header: "there are zeros"
abbrev pub no_number : Number
no_number = record { on = 0; value = 0 }

-- the same of a place
abbrev pub no_text : Text
no_text = record { on = 0; start = 0; len = 0 }

-- header: "1 before its value if it is present"
abbrev pub texted : Span → Text
texted p = record { on = 1; start = p.start; len = p.len }

-- a property whose value is a number
abbrev pub numbered : Option (Val Span) → Number
numbered none = no_number
numbered (some (num n)) = record { on = 1; value = n }
numbered (some (str p)) = no_number
numbered (some (duo p q)) = no_number

-- a property whose value is a string
abbrev pub lettered : Option (Val Span) → Text
lettered none = no_text
lettered (some (num n)) = no_text
lettered (some (str p)) = texted p
lettered (some (duo p q)) = no_text

-- ---- the properties of each kind

-- those of a kind other than Publish; header: "0 where it does not apply"
abbrev pub plain_block : (place reason : Text) → (subscription : Number) → Block
plain_block place reason subscription = record {
  place = place;
  format = no_number;
  expiry = no_number;
  alias = no_number;
  response = no_text;
  correlation = no_text;
  content = no_text;
  reason = reason;
  subscription = subscription;
}

-- none
abbrev pub no_block : Block
no_block = plain_block no_text no_text no_number

-- 01, table of properties, row Publish
abbrev pub publish_block : Option (PublishProps Span (λ A. Span)) → Block
publish_block none = no_block
publish_block (some p) = record {
  place = texted p.user;
  format = numbered p.format;
  expiry = numbered p.expiry;
  alias = numbered p.alias;
  response = lettered p.response;
  correlation = lettered p.correlation;
  content = lettered p.content;
  reason = no_text;
  subscription = no_number;
}

-- 01, table of properties; 02, P1: every other row; what a row does not have is absent
abbrev pub props_block : Option (Props Span (λ A. Span)) → Block
props_block none = no_block
props_block (some p) = plain_block (texted p.user) (lettered p.reason) (numbered p.ident)

-- of a packet; a ping has none
abbrev pub packet_block : Placed → Block
packet_block (publish m) = publish_block m.props
packet_block (ack k m) = props_block m.props
packet_block (subscribe m) = props_block m.props
packet_block (reply k m) = props_block m.props
packet_block (unsubscribe m) = props_block m.props
packet_block (ping k) = no_block
