-- Every string, block and run of a record that `packet::read` gives stands where the grammar has it in the sentence. Assumes nothing.
use Rattle.std.specs.Prelude.{Option, None, Ok}
use mathlib.Core.Path.{◌≡◌, sym, ap, ◌∙◌, subst}
use mathlib.Core.List.{List, ◌++◌}
use Prim.Native.Nat.{ℕ}
use lib.ListN.{length, take}
use lib.Seq.{take-append_seam}
use Rattle.grammar.specs.Sentence.{Packet, Sentence}
use Rattle.reading.specs.Reader.{got}
use Rattle.reading.specs.Place.{say}
use Rattle.records.specs.AsNumbers.{limit_of}
use Rattle.records.specs.Said.{told_packet}
use Rattle.records.specs.Answered.{told, ReadResult}
use Rattle.records.specs.declared.span.Bounds.{Bounds}
use Rattle.records.specs.declared.packet_record.Packet as code
use Rattle.placing.specs.Placing.{PlacedSentence, PlacedIn}
use Rattle.placing.proofs.Placed.{read_placed}
use Rattle.packet.specs.PacketRead.{Meets}
use Rattle.promises.proofs.Reading.{read_sentence}

-- two fronts of one stream, as long as each other
front_same : (s b r c t : List ℕ) → s ≡ b ++ r → s ≡ c ++ t → length b ≡ length c → c ≡ b
front_same s b r c t e f l =
    sym (take-append_seam c t) ∙ ap (take (length c)) (sym f ∙ e) ∙ ap (λ (n : ℕ). take n (b ++ r)) (sym l) ∙ take-append_seam b r

-- under any limit: the stream begins with a sentence in which each place stands behind as many bytes as it begins at
pub places_within : (limit : Option ℕ) (s : List ℕ) (r : ReadResult) → Meets limit s r → (p : code.Packet) (o : Bounds) (n : ℕ) → r ≡ Ok (p, o, n) → PlacedIn s (told_packet p) n
places_within limit s r m p o n i = read_placed (limit_of limit) s (told_packet p) n (sym m.answer ∙ ap told i)

-- 01, "What must change shape": with no limit, and the bytes b are the sentence that the record says
pub places_stand : (s : List ℕ) (r : ReadResult) → Meets None s r → (p : code.Packet) (o : Bounds) (n : ℕ) → r ≡ Ok (p, o, n)
    → (v : Packet) × (b : List ℕ) × (t : List ℕ) × (s ≡ b ++ t) × (length b ≡ n) × (say s (told_packet p) ≡ got v) × Sentence v b × PlacedSentence (told_packet p) b
places_stand s r m p o n i =
    let (v, w, x) = read_sentence s r m p o n i in
    let (b, t, e, g, l) = x in
    let (c, u, f, k, q) = places_within None s r m p o n i in
    (v, b, t, e, l, w, g, subst (PlacedSentence (told_packet p)) (front_same s b t c u e f (l ∙ sym k)) q)
