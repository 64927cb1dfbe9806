-- The name of each refusal, as ASCII bytes. Assumes nothing.
use Rattle.std.specs.Prelude.{List, [], ◌∷◌, ◌++◌, ℕ, ◌-◌, length, get_or, replicate}
use Prim.Native.String.{String}
use Rattle.records.specs.Ascii.{codes_of}
use Rattle.records.specs.AsNumbers.{told_error, row_of}
use Rattle.records.specs.declared.error.Error.{Error}
use Rattle.refusal_names.specs.declared.text.Name.{Name}

-- 01, "When the desk says no": the column Refusal, in the order of the column No., which begins at 1; from 22 on those that 02 adds
unfoldable pub names : List String
names =
    "InsufficientBytes" ∷
    "MalformedRemainingLength" ∷
    "PayloadSizeLimitExceeded" ∷
    "InvalidPacketType" ∷
    "PayloadRequired" ∷
    "KindNotCarried" ∷
    "MalformedPacket" ∷
    "BoundaryCrossed" ∷
    "TopicNotUtf8" ∷
    "InvalidPropertyType" ∷
    "InvalidQoS" ∷
    "PacketIdZero" ∷
    "EmptySubscription" ∷
    "InvalidRetainForwardRule" ∷
    "InvalidReason" ∷
    "OutgoingPacketTooLarge" ∷
    "PayloadTooLong" ∷
    "StringTooLong" ∷
    "NoRoom" ∷
    "ListMismatch" ∷
    "NoItem" ∷
    "DuplicateProperty" ∷
    "SubscriptionIdZero" ∷
    "AliasTableBad" ∷
    "AliasInvalid" ∷
    "TopicMissing" ∷
    "AliasUnknown" ∷
    "AliasNoRoom" ∷
    "InFlightFull" ∷
    "NoClaim" ∷
    "NotWaiting" ∷
    "BadArea" ∷
    "JournalEmpty" ∷
    "JournalEnded" ∷
    "BadBuffer" ∷
    "FrameTooLong" ∷
    "FilterTableFull" ∷
    "NotSubscribe" ∷
    "BadTable" ∷
    []

-- 01, "When the desk says no": the name in the row of that number; none at 0, and none past the last row
unfoldable pub name_at : ℕ → List ℕ
name_at n = codes_of (get_or ("" ∷ names) n "")

-- the name in the refusal's row
abbrev pub name_of : Error → List ℕ
name_of e = name_at (row_of (told_error e))

-- a name of these bytes and this length
abbrev pub made : List ℕ → ℕ → Name
made b n = record { bytes = b; len = n }

-- a name and its length, with 0 in what is left of the 24 bytes
abbrev pub padded : List ℕ → Name
padded b = made (b ++ replicate (24 - length b) 0) (length b)
