-- `utf8::is_twice` is right since behind the first chunk the text goes on, and what is left of it lies in the second. Assumes nothing.
use mathlib.Core.Path.{sym, ◌∙◌}
use Prim.Native.Nat.{◌-◌}
use native.Mathlib.Omega.{arith}
use lib.ListN.{length}
use Rattle.text_chars.proofs.Laws.{plain_front, last_text}
use Rattle.utf8.proofs.is_twice.Goals as goal

pub returns-then-is_ascii : goal.returns-then-is_ascii
returns-then-is_ascii c =
    let n = c.args.n in
    let s = c.args.s.now in
    λ e.
    plain_front n s (omega arith) (sym c.is_ascii.ensures ∙ c.if-is_ascii.true)
    ∙ last_text s n (length s - n) (length s - (length s - n)) (omega arith) (omega arith) (sym c.is_ascii-then-is_ascii.ensures ∙ e)
