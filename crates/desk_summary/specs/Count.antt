-- The counts of what was read (docs/DESK.md): where each stands, and one more of it. Assumes nothing.
use Rattle.std.specs.Prelude.{ℕ, ◌+◌, ◌%◌, ◌^◌, List, slice_index, slice_set}
use Rattle.records.specs.AsNumbers.{told_error, row_of}
use Rattle.records.specs.declared.error.Error.{Error}
use Rattle.records.specs.declared.packet_record.Packet.{Packet}
use Rattle.kinds.specs.Kinds.{number_of}
use Rattle.kinds.specs.declared.Kind.{Kind}

-- the counts of refusals stand at their numbers, 1 to 23 and room for more; those of the kinds, 3 to 13, from 51 on; that of all refusals at 63
abbrev pub kind_at : ℕ → ℕ
kind_at k = 48 + k

abbrev pub all_at : ℕ
all_at = 63

-- the kind of a packet
abbrev pub kind_in : Packet → Kind
kind_in (Packet.Publish m) = Kind.Publish
kind_in (Packet.Ack k m) = Kind.Ack k
kind_in (Packet.Subscribe m) = Kind.Subscribe
kind_in (Packet.Reply k m) = Kind.Reply k
kind_in (Packet.Unsubscribe m) = Kind.Unsubscribe
kind_in Packet.PingReq = Kind.PingReq
kind_in Packet.PingResp = Kind.PingResp

-- its number
abbrev pub number_in : Packet → ℕ
number_in p = number_of (kind_in p)

-- one more at k, counted in 64 bits; an index past the end holds no count
abbrev pub one_more : List ℕ → ℕ → List ℕ
one_more t k = slice_set t k ((slice_index t k + 1) % 2 ^ 64)

-- one more packet: under its kind
abbrev pub kind_more : List ℕ → Packet → List ℕ
kind_more t p = one_more t (kind_at (number_in p))

-- one more refusal: under its number, and among all
abbrev pub refused_more : List ℕ → Error → List ℕ
refused_more t e = one_more (one_more t (row_of (told_error e))) all_at
