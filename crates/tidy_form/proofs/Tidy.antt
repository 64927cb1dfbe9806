-- Every frame that is read has one tidy form, which says the same record and is its own, and two frames have the same exactly when they say
-- the same (02, P14). Assumes nothing.
use mathlib.Core.Path.{◌≡◌, refl, sym, ap, ◌∙◌, subst}
use mathlib.Core.Option.{none}
use mathlib.Core.Logic.{◌↔◌}
use mathlib.Core.List.{List, [], ◌++◌, append-nil}
use Prim.Native.Nat.{ℕ}
use lib.ListN.{length}
use Rattle.grammar.specs.Sentence.{Packet, Sentence}
use Rattle.grammar.specs.Octets.{Octets}
use Rattle.reading.specs.Refusal.{nr, accepted, refused}
use Rattle.reading.specs.Reader.{got, bad}
use Rattle.reading.specs.Read.{read_of}
use Rattle.reading.proofs.Reading.{got_inj}
use Rattle.reading.proofs.Demand.{reads_sentence}
use Rattle.writing.specs.Size.{size_is}
use Rattle.writing.specs.Write.{frame_bytes, write_of}
use Rattle.writing.proofs.Each.{each_left}
use Rattle.writing.proofs.Verdict.{accepted_when}
use Rattle.writing.proofs.Demand.{writes_meant}
use Rattle.tidy_form.specs.Tidy.{handed_of, rewrite, tidy_of}
use Rattle.tidy_form.proofs.Said.{Said, sentence_said}
use Rattle.tidy_form.proofs.Good.{good}

-- writing a packet that a sentence says is accepted, and its bytes say the packet
module _ (v : Packet) (w : Said v) where
  writes_again : write_of none (size_is (handed_of v)) (handed_of v) ≡ got (frame_bytes (handed_of v))
  writes_again = (accepted_when none (size_is (handed_of v)) (handed_of v) (frame_bytes (handed_of v))).1 ((good v w).accepts, refl)

  says_again : Sentence v (frame_bytes (handed_of v))
  says_again =
      let t = good v w in
      subst (λ (u : Packet). Sentence u (frame_bytes (handed_of v))) t.means (writes_meant none (size_is (handed_of v)) (handed_of v) (frame_bytes (handed_of v)) t.typed t.plain writes_again)

module _ (s : List ℕ) (o : Octets s) (v : Packet) (n : ℕ) (e : read_of none s ≡ accepted v n) where
  said_of : Said v
  said_of = let (b, r, q, w, _) = (reads_sentence s v n).0 e in sentence_said v b w (each_left b r (rw q at o))

  -- 02, P14: "For every accepted frame, writing the record that was read gives its tidy form"
  pub tidy_is : tidy_of s ≡ got (frame_bytes (handed_of v))
  unfolding tidy_of rewrite
  tidy_is = rw e (writes_again v said_of)

  -- 02, P14: "the tidy form reads as the same record", whatever follows
  pub tidy_reads : (r : List ℕ) → read_of none (frame_bytes (handed_of v) ++ r) ≡ accepted v (length (frame_bytes (handed_of v)))
  tidy_reads r = (reads_sentence (frame_bytes (handed_of v) ++ r) v (length (frame_bytes (handed_of v)))).1 (frame_bytes (handed_of v), r, refl, says_again v said_of, refl)

  -- 02, P14: "tidying it again changes nothing"
  pub tidy_again : (b : List ℕ) → tidy_of s ≡ got b → tidy_of b ≡ got b
  unfolding tidy_of rewrite
  tidy_again b t =
      let i : frame_bytes (handed_of v) ≡ b = got_inj (sym tidy_is ∙ t) in
      let q : read_of none b ≡ accepted v (length b) = rw (← i) (rw (append-nil (frame_bytes (handed_of v))) at (tidy_reads [])) in
      ap rewrite q ∙ writes_again v said_of ∙ ap got i

-- 02, P14: "two accepted frames have equal tidy forms exactly when their records are equal"
pub tidy_equal : (s s' : List ℕ) → Octets s → Octets s' → (v v' : Packet) (n n' : ℕ) → read_of none s ≡ accepted v n → read_of none s' ≡ accepted v' n' → (tidy_of s ≡ tidy_of s') ↔ (v ≡ v')
tidy_equal s s' o o' v v' n n' e e' =
    let t = tidy_is s o v n e in
    let t' = tidy_is s' o' v' n' e' in
    (λ q. same (got_inj (sym t ∙ q ∙ t')), λ i. t ∙ ap (λ (u : Packet). got (frame_bytes (handed_of u))) i ∙ sym t')
  where
    same : frame_bytes (handed_of v) ≡ frame_bytes (handed_of v') → v ≡ v'
    same i =
        let a : accepted v (length (frame_bytes (handed_of v))) ≡ accepted v' (length (frame_bytes (handed_of v'))) = sym (tidy_reads s o v n e []) ∙ ap (λ (b : List ℕ). read_of none (b ++ [])) i ∙ tidy_reads s' o' v' n' e' [] in
        cc

-- a frame that is refused has none, and keeps its refusal
pub tidy_refused : (s : List ℕ) (k : ℕ) (vs : List ℕ) (n : ℕ) → read_of none s ≡ refused k vs n → tidy_of s ≡ bad (nr k vs)
unfolding tidy_of rewrite
tidy_refused s k vs n e = rw e
