-- How the tidy form of each layout is put (02, P14). Assumes nothing.
use Rattle.std.specs.Prelude.{Bool, true, false, ℕ}
use Rattle.std.proofs.Math.Option.{Option, none, some}
use Rattle.grammar.specs.Tables.{Layout, a_publish, an_ack, a_subscribe, a_reply, an_unsubscribe, a_ping, first_of}
use Rattle.grammar.specs.Record.{kind_of}
use Rattle.tables.specs.declared.property.PropertyRow.TheVariants as row
use Rattle.tidying.specs.declared.Way.{Way}

-- an acknowledgement of a publish: 01, grammar: "A successful PubAck with properties absent is 4 bytes"
abbrev pub ack_way : ℕ → Bool → Way
ack_way first true = Way.Short first
ack_way first false = Way.Block row.Ack first

-- by the layout of the frame whose first byte is x, and whether it has no properties; 01, grammar: the flags of a Publish are its own, the first byte of
-- every other kind is the table's
abbrev pub way_of : Option Layout → ℕ → Bool → Way
way_of none x bare = Way.No
way_of (some a_publish) x bare = Way.Block row.Publish x
way_of (some (an_ack rs)) x bare = ack_way (first_of (kind_of x)) bare
way_of (some a_subscribe) x bare = Way.Filters (first_of (kind_of x))
way_of (some (a_reply rs)) x bare = Way.Block row.Ack (first_of (kind_of x))
way_of (some an_unsubscribe) x bare = Way.Block row.Unsubscribe (first_of (kind_of x))
way_of (some a_ping) x bare = Way.Ping (first_of (kind_of x))
