-- What is put behind what was put is one put of both. Assumes nothing.
use mathlib.Core.Path.{◌≡◌, refl, sym, ◌∙◌}
use mathlib.Core.List.{List, [], ◌++◌}
use Prim.Native.Nat.{ℕ, ◌≤◌}
use native.Mathlib.Omega.{arith}
use lib.ListN.{length, replicate, length-append}
use lib.Seq.{take_at}
use Rattle.reading.specs.Place.{held_of}
use Rattle.records.specs.declared.error.Error.{Error}
use Rattle.refusal_names.specs.Names.{names, name_at, name_of}
use Rattle.write_bytes.proofs.Laws.{sets_then}
use Rattle.wire.proofs.Laws.{held_within}
use Rattle.desk_lines.specs.Line.{PutAt}

pub put_none : (l : List ℕ) (at : ℕ) → PutAt l at [] l at
put_none l at = record { stores = refl; behind = omega arith }

pub then : {l l₁ l₂ xs ys : List ℕ} {at m n : ℕ} → PutAt l at xs l₁ m → PutAt l₁ m ys l₂ n → PutAt l at (xs ++ ys) l₂ n
then {l} {l₁} {l₂} {xs} {ys} {at} {m} p q = record { stores = sets_then xs ys l l₁ l₂ at m p.stores p.behind q.stores; behind = omega (arith, p.behind, q.behind, length-append xs ys) }

-- ---- names

-- the name is the part of its bytes before the zeros
pub name_part : (xs : List ℕ) (k : ℕ) → held_of (xs ++ replicate k 0) (record { start = 0; len = length xs }) ≡ xs
name_part xs k = sym (held_within (xs ++ replicate k 0) (record { start = 0; len = length xs }) (simp length-append (omega arith))) ∙ take_at xs (replicate k 0) (length xs) refl

pub name_short : (e : Error) → length (name_of e) ≤ 24
unfolding names name_at
name_short (Error.InsufficientBytes n) = omega arith
name_short Error.MalformedRemainingLength = omega arith
name_short (Error.PayloadSizeLimitExceeded m n) = omega arith
name_short (Error.InvalidPacketType k) = omega arith
name_short Error.PayloadRequired = omega arith
name_short (Error.KindNotCarried k) = omega arith
name_short Error.MalformedPacket = omega arith
name_short (Error.BoundaryCrossed n) = omega arith
name_short Error.TopicNotUtf8 = omega arith
name_short (Error.InvalidPropertyType k) = omega arith
name_short (Error.InvalidQoS q) = omega arith
name_short Error.PacketIdZero = omega arith
name_short Error.EmptySubscription = omega arith
name_short (Error.InvalidRetainForwardRule k) = omega arith
name_short (Error.InvalidReason k) = omega arith
name_short (Error.OutgoingPacketTooLarge m n) = omega arith
name_short Error.PayloadTooLong = omega arith
name_short (Error.StringTooLong n) = omega arith
name_short (Error.NoRoom n) = omega arith
name_short Error.ListMismatch = omega arith
name_short Error.NoItem = omega arith
name_short (Error.DuplicateProperty k) = omega arith
name_short Error.SubscriptionIdZero = omega arith
