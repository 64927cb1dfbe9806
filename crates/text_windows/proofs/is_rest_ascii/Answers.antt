-- `text_windows::is_rest_ascii` is right since what is left lies in the last 128 bytes. Assumes nothing.
use Rattle.std.proofs.Common.{◌-◌, length, sym, ◌∙◌, arith}
use Rattle.text_windows.proofs.Runs.{ascii_rest}
use Rattle.text_windows.proofs.is_rest_ascii.Goals as goal

pub returns : goal.returns
returns c =
    let a = c.args in
    let s = a.s.now in
    λ e. ascii_rest c.requires (length s - 128) (length s - (length s - 128)) (omega arith) (omega arith) (sym c.is_ascii.ensures ∙ e)
