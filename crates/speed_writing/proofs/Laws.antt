-- The number and the output of a write. Assumes nothing.
use Rattle.std.specs.Prelude.{Result}
use mathlib.Core.Path.{◌≡◌, ap, subst}
use mathlib.Core.Option.{none}
use mathlib.Core.List.{List}
use Prim.Native.Nat.{ℕ}
use Rattle.positions.specs.Count.{or_zero}
use Rattle.records.specs.Answered.{told_size}
use Rattle.publish_plan.specs.declared.head.PublishHead.{PublishHead}
use Rattle.packet_write.specs.Parts.{Parts}
use Rattle.writing.specs.Write.{WrittenBehind}
use Rattle.packet_write.specs.Union.{union_of}
use Rattle.packet_write.specs.declared.head.PacketHead.{PacketHead}
use Rattle.speed_writing.specs.Count.{bench_head, Counted}
use Rattle.records.specs.declared.error.Error.{Error}

-- the head h and the answer w are those of the call, v is what was matched
pub counts : {pkid : ℕ} {h : PublishHead} {p : Parts} {before after : List ℕ} {w v : Result ℕ Error} → w ≡ v → h ≡ bench_head pkid → WrittenBehind none (union_of (PacketHead.Publish h) p) before after (told_size w)
    → Counted pkid p before after (or_zero (told_size v))
counts {pkid} {h} {p} {before} {after} {w} {v} i e c =
    let d : WrittenBehind none (union_of (PacketHead.Publish (bench_head pkid)) p) before after (told_size w) = subst (λ (x : PublishHead). WrittenBehind none (union_of (PacketHead.Publish x) p) before after (told_size w)) e c in
    subst (λ (x : Result ℕ Error). Counted pkid p before after (or_zero (told_size x))) i (record { number = ap or_zero d.answer; output = d.output })
