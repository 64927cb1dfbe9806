-- `utf8::is_four_times` is right since behind the first two chunks the text goes on, and what is left of it lies in the last two. Assumes nothing.
use mathlib.Core.Path.{◌≡◌, sym, ◌∙◌}
use Prim.Native.Nat.{◌+◌, ◌-◌}
use native.Mathlib.Omega.{arith}
use lib.ListN.{length}
use Rattle.text_chars.proofs.Laws.{plain_front, last_text}
use Rattle.utf8.proofs.Laws.{plain_on, ascii_pair}
use Rattle.utf8.proofs.is_four_times.Goals as goal

pub returns : goal.returns
returns c =
    let s = c.args.s.now in
    let p : length s - 16 - (length s - 16 - 16) ≡ 16 = omega arith in
    let q : length s - (length s - 16) ≡ 16 = omega arith in
    let j : length s - 16 - 16 + 16 ≡ length s - 16 = omega arith in
    let third = rw p at (sym c.is_ascii-else-not-is_ascii-2.ensures ∙ c.if-not-is_ascii-3.false) in
    λ e.
    plain_front 16 s (omega arith) (sym c.is_ascii.ensures ∙ c.if-not-is_ascii.false)
    ∙ plain_on s 16 16 (omega arith) (sym c.is_ascii-else-not-is_ascii.ensures ∙ c.if-not-is_ascii-2.false)
    ∙ last_text s 32 (length s - 16 - 16) 32 (omega arith) (omega arith) (ascii_pair s (length s - 16 - 16) third (rw j (rw q at (sym c.is_ascii-2.ensures ∙ e))))
