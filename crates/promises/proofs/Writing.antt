-- Demands 1 and 2 for the writers, on one page: of every answer and output that meets the contract of `packet_write::write`, or of a kind's
-- own `write`. Each theorem of `writing` is cited. Assumes nothing.
use Rattle.std.specs.Prelude as std
use Rattle.std.specs.Prelude.{Result, Ok, Err}
use mathlib.Core.Path.{◌≡◌, refl, sym, ap, subst, ◌∙◌}
use mathlib.Core.Bool.{Bool, true, false, false≢true}
use mathlib.Core.Option.{Option}
use mathlib.Core.Logic.{◌↔◌}
use mathlib.Core.List.{List, [], ◌++◌}
use Prim.Native.Nat.{ℕ}
use lib.ListN.{length, drop}
use Rattle.grammar.specs.Choice.{is_in, is_empty, all}
use Rattle.grammar.specs.Sentence.{Sentence}
use Rattle.grammar.specs.Octets.{Octets}
use Rattle.reading.specs.Refusal.{Refusal, nr}
use Rattle.reading.specs.Reader.{Fit, got, bad}
use Rattle.reading.proofs.Reading.{bad_got}
use Rattle.writing.specs.Handed.{Handed}
use Rattle.writing.specs.Order.{Field}
use Rattle.writing.specs.Size.{size_is}
use Rattle.writing.specs.Write.{frame_bytes, size_of, write_of, out_of, sized_behind, answered_behind, out_behind, WrittenBehind}
use Rattle.writing.specs.Write as writing
use Rattle.writing.specs.Refuse.{Faulty, long_raw, long_word, long_filter, bad_word, bad_filter, bad_rule, bad_qos, unlisted, FirstFault, Unfit, large, nought, FirstUnfit, Refuses, Unsized, mismatch, field, too_long, too_large, no_name, number, none_asked, no_room, Accepts}
use Rattle.writing.specs.Refuse as refuse
use Rattle.writing.specs.Meant.{said, Typed}
use Rattle.writing.proofs.Verdict.{accepted_when, refused_when, answered_when, unanswered_when, sized_when, unsized_when}
use Rattle.writing.proofs.Demand.{writes, written_size, out_refused, out_written, out_length}
use Rattle.records.specs.AsNumbers.{told_error, row_of, limit_of}
use Rattle.records.specs.Answered.{told_size}
use Rattle.records.proofs.Answered.{size_injective}
use Rattle.records.specs.declared.error.Error.{Error}
use Rattle.packet_write.specs.Parts.{Parts, foreign}
use Rattle.packet_write.specs.Union.{own, union_of}
use Rattle.packet_write.specs.declared.head.PacketHead.{PacketHead}
use Rattle.promises.specs.Writing.{Obeys, Counts, Refusing, writer_rows}
use Rattle.promises.specs.Writing as refusing

-- ---- whose contract it is

-- of `packet_write::write`
pub of_packet : (limit : std.Option ℕ) (m : PacketHead) (p : Parts) (before after : List ℕ) (w : Result ℕ Error)
    → WrittenBehind (limit_of limit) (union_of m p) before after (told_size w) → Obeys limit (all is_empty (foreign m p)) (own m p) before after w
unfolding union_of
of_packet limit m p before after w c = c

-- of a kind's own `write`
pub of_kind : (limit : std.Option ℕ) (h : Handed) (before after : List ℕ) (w : Result ℕ Error) → writing.Written (limit_of limit) h before after (told_size w) → Obeys limit true h before after w
unfolding answered_behind out_behind out_of
of_kind limit h before after w c = record { answer = c.answer; output = c.output }

-- ---- every refusal is one of a writer's

row_of_field : {f : Field} {k : Refusal} → Faulty f k → is_in (row_of k) writer_rows ≡ true
row_of_field (long_raw l) = refl
row_of_field (long_word l) = refl
row_of_field (long_filter l) = refl
row_of_field (bad_word s u) = refl
row_of_field (bad_filter s u) = refl
row_of_field (bad_rule s u r) = refl
row_of_field (bad_qos s u r q) = refl
row_of_field (unlisted u) = refl

row_of_fields : {k : Refusal} {fs : List Field} → FirstFault k fs → is_in (row_of k) writer_rows ≡ true
row_of_fields (refuse.FirstFault.here f) = row_of_field f
row_of_fields (refuse.FirstFault.later s f) = row_of_fields f

row_of_number : {n : ℕ} {k : Refusal} → Unfit n k → is_in (row_of k) writer_rows ≡ true
row_of_number (large h) = refl
row_of_number nought = refl

row_of_numbers : {k : Refusal} {ns : List ℕ} → FirstUnfit k ns → is_in (row_of k) writer_rows ≡ true
row_of_numbers (refuse.FirstUnfit.here f) = row_of_number f
row_of_numbers (refuse.FirstUnfit.later s f) = row_of_numbers f

row_of_lem : {limit : Option ℕ} {room : ℕ} {h : Handed} {k : Refusal} → Refuses limit room h k → is_in (row_of k) writer_rows ≡ true
row_of_lem (mismatch b) = refl
row_of_lem (field b f) = row_of_fields f
row_of_lem (too_long b f r) = refl
row_of_lem (too_large c l m) = refl
row_of_lem (no_name c l u) = refl
row_of_lem (number c l u n) = row_of_numbers n
row_of_lem (none_asked c l u n a) = refl
row_of_lem (no_room c l u n a r) = refl

-- ---- the answer

module _ (limit : std.Option ℕ) (alone : Bool) (h : Handed) (before after : List ℕ) (w : Result ℕ Error) (m : Obeys limit alone h before after w) where
  -- inputs admit one answer only, and one output
  pub one_answer : (after' : List ℕ) (w' : Result ℕ Error) → Obeys limit alone h before after' w' → (w ≡ w') × (after ≡ after')
  one_answer after' w' m' = (size_injective (m.answer ∙ sym m'.answer), m.output ∙ sym m'.output)

-- what a refusal is, by whether only what belongs to the record is lent
as_own : {P : Refusal → Type 0} {k : Refusal} → Refusing P true k → P k
as_own (refusing.own r) = r

as_foreign : {P : Refusal → Type 0} {k : Refusal} → Refusing P false k → nr 20 [] ≡ k
as_foreign refusing.foreign = refl

is_foreign : {P : Refusal → Type 0} {k : Refusal} → ◌≡◌ {A = Fit ℕ} (bad (nr 20 [])) (bad k) → Refusing P false k
is_foreign {P} {k} e = let i : nr 20 [] ≡ k = cc in subst (Refusing P false) i refusing.foreign

module _ (limit : std.Option ℕ) (h : Handed) (before after : List ℕ) (w : Result ℕ Error) where
  -- each refusal is given exactly when its row says, in 01's writing order
  pub refused : (alone : Bool) → Obeys limit alone h before after w → (e : Error) → (w ≡ Err e) ↔ Refusing (Refuses (limit_of limit) (length before) h) alone (told_error e)
  unfolding answered_behind
  refused true m e =
      let u = unanswered_when (limit_of limit) (length before) h (told_error e) in
      (λ i. refusing.own (u.0 (sym m.answer ∙ ap told_size i)), λ r. size_injective (m.answer ∙ u.1 (as_own r)))
  refused false m e = (λ i. is_foreign (sym m.answer ∙ ap told_size i), λ r. size_injective (m.answer ∙ ap bad (as_foreign r)))

  -- and the size exactly when no row applies
  pub accepted : (alone : Bool) → Obeys limit alone h before after w → (n : ℕ) → (w ≡ Ok n) ↔ ((alone ≡ true) × Accepts (limit_of limit) (length before) h × (size_is h ≡ n))
  unfolding answered_behind
  accepted true m n =
      let u = answered_when (limit_of limit) (length before) h n in
      (λ i. let (a, l) = u.0 (sym m.answer ∙ ap told_size i) in (refl, a, l), λ (t, a, l). size_injective (m.answer ∙ u.1 (a, l)))
  accepted false m n = (λ i. absurd (bad_got (sym m.answer ∙ ap told_size i)), λ (t, a, l). absurd (false≢true t))

  -- demand 1: a refusal of 01's writing order, and no other
  pub refused_row : (alone : Bool) → Obeys limit alone h before after w → (e : Error) → w ≡ Err e → is_in (row_of (told_error e)) writer_rows ≡ true
  refused_row true m e i = row_of_lem (as_own ((refused true m e).0 i))
  refused_row false m e i = rw (← as_foreign ((refused false m e).0 i))

  -- 01: "A refused write leaves the output as it stood"
  pub refused_keeps : (alone : Bool) → Obeys limit alone h before after w → (e : Error) → w ≡ Err e → after ≡ before
  unfolding out_behind out_of
  refused_keeps true m e i =
      m.output ∙ out_refused (limit_of limit) before h (told_error e) ((refused_when (limit_of limit) (length before) h (told_error e)).1 (as_own ((refused true m e).0 i)))
  refused_keeps false m e i = m.output

  -- no byte is added or lost
  pub same_length : (alone : Bool) → Obeys limit alone h before after w → length after ≡ length before
  unfolding out_behind out_of
  same_length true m = ap length m.output ∙ out_length (limit_of limit) before h
  same_length false m = ap length m.output

-- ---- an accepted write

module _ (limit : std.Option ℕ) (alone : Bool) (h : Handed) (before after : List ℕ) (w : Result ℕ Error) (m : Obeys limit alone h before after w) (n : ℕ) (i : w ≡ Ok n) where
  -- nothing is lent that does not belong to the record
  pub is_alone : alone ≡ true
  is_alone = ((accepted limit h before after w alone m n).0 i).0

  -- the definition writes the frame
  pub frame_written : write_of (limit_of limit) (length before) h ≡ got (frame_bytes h)
  frame_written = (accepted_when (limit_of limit) (length before) h (frame_bytes h)).1 (((accepted limit h before after w alone m n).0 i).1, refl)

  -- demand 2: the answer is the number of the frame's bytes
  pub frame_size : length (frame_bytes h) ≡ n
  frame_size = sym (written_size (limit_of limit) (length before) h (frame_bytes h) frame_written) ∙ ((accepted limit h before after w alone m n).0 i).2

  -- demand 2: "sets the first size bytes, gives that size, and keeps the rest"
  pub frame_out : after ≡ frame_bytes h ++ drop n before
  unfolding out_behind out_of
  frame_out =
      m.output ∙ rw (is_alone) (out_written (limit_of limit) before h (frame_bytes h) frame_written ∙ rw frame_size)

  -- the size, asked alone, is the same
  pub same_size : (z : Result ℕ Error) → Counts alone h z → z ≡ Ok n
  unfolding sized_behind
  same_size z e =
      let (t, a, l) = (accepted limit h before after w alone m n).0 i in
      size_injective (rw t at e ∙ (sized_when h n).1 ((a.countable.belongs, a.countable.rest), l))

  -- demand 2: the frame is bytes, and a sentence that says the record
  pub frame_octets : Typed h → Octets (frame_bytes h)
  frame_octets t = (writes (limit_of limit) (length before) h (frame_bytes h) t frame_written).octets

  pub frame_sentence : Typed h → Sentence (said h) (frame_bytes h)
  frame_sentence t = (writes (limit_of limit) (length before) h (frame_bytes h) t frame_written).sentence

-- ---- the size, asked alone

-- of `packet_write::size`
pub counts_packet : (m : PacketHead) (p : Parts) (z : Result ℕ Error) → told_size z ≡ sized_behind (union_of m p) → Counts (all is_empty (foreign m p)) (own m p) z
unfolding union_of
counts_packet m p z c = c

-- of a kind's own `size`
pub counts_kind : (h : Handed) (z : Result ℕ Error) → told_size z ≡ size_of h → Counts true h z
unfolding sized_behind
counts_kind h z c = c

module _ (h : Handed) (z : Result ℕ Error) where
  -- 01: "Asked alone, size refuses only with 20, then 17 for R"
  pub uncounted : (alone : Bool) → Counts alone h z → (e : Error) → (z ≡ Err e) ↔ Refusing (Unsized h) alone (told_error e)
  unfolding sized_behind
  uncounted true c e =
      let u = unsized_when h (told_error e) in
      (λ i. refusing.own (u.0 (sym c ∙ ap told_size i)), λ r. size_injective (c ∙ u.1 (as_own r)))
  uncounted false c e = (λ i. is_foreign (sym c ∙ ap told_size i), λ r. size_injective (c ∙ ap bad (as_foreign r)))

  -- 01: "size leaves out a Publish identifier that is 0, and counts four bytes for a subscription identifier too large to write": the size is
  -- given, and is this number, exactly when nothing else is lent, what is handed over belongs together and R can be written
  pub counted : (alone : Bool) → Counts alone h z → (n : ℕ) → (z ≡ Ok n) ↔ ((alone ≡ true) × refuse.HasSize h × (size_is h ≡ n))
  unfolding sized_behind
  counted true c n =
      let u = sized_when h n in
      (λ i. let (a, l) = u.0 (sym c ∙ ap told_size i) in (refl, a, l), λ (t, a, l). size_injective (c ∙ u.1 (a, l)))
  counted false c n = (λ i. absurd (bad_got (sym c ∙ ap told_size i)), λ (t, a, l). absurd (false≢true t))
