-- The writer of a kind as the writer of the union. Assumes nothing.
use mathlib.Core.Path.{◌≡◌, refl, sym, ◌∙◌}
use mathlib.Core.Bool.{true, false}
use mathlib.Core.Option.{Option}
use mathlib.Core.List.{List, []}
use Prim.Native.Nat.{ℕ}
use Rattle.grammar.specs.Choice.{is_empty, all}
use Rattle.reading.specs.Refusal.{nr}
use Rattle.reading.specs.Reader.{Fit, got, bad}
use Rattle.writing.specs.Write.{size_of, out_of, Written, sized_behind, answered_behind, out_behind, WrittenBehind}
use Rattle.packet_write.specs.Parts.{Parts, foreign}
use Rattle.packet_write.specs.declared.head.PacketHead.{PacketHead}
use Rattle.packet_write.specs.Union.{own, union_of}

module _ (m : PacketHead) (p : Parts) where
  module _ (e : all is_empty (foreign m p) ≡ true) where
    alone : union_of m p ≡ got (own m p)
    unfolding union_of
    alone = rw e

    pub sized_alone : {told : Fit ℕ} → told ≡ size_of (own m p) → told ≡ sized_behind (union_of m p)
    unfolding sized_behind
    sized_alone s = s ∙ sym (rw alone)

    pub written_alone : (limit : Option ℕ) (before after : List ℕ) (told : Fit ℕ) → Written limit (own m p) before after told → WrittenBehind limit (union_of m p) before after told
    unfolding answered_behind out_behind out_of
    written_alone limit before after told w = rw alone (record { answer = w.answer; output = w.output })

  module _ (e : all is_empty (foreign m p) ≡ false) where
    mixed : union_of m p ≡ bad (nr 20 [])
    unfolding union_of
    mixed = rw e

    pub sized_mixed : bad (nr 20 []) ≡ sized_behind (union_of m p)
    unfolding sized_behind
    sized_mixed = sym (rw mixed)

    pub written_mixed : (limit : Option ℕ) (out : List ℕ) → WrittenBehind limit (union_of m p) out out (bad (nr 20 []))
    unfolding answered_behind out_behind
    written_mixed limit out = rw mixed (record { answer = refl; output = refl })
