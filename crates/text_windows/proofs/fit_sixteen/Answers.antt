-- `text_windows::fit_sixteen` is right since ASCII bytes fit just where nothing is due before them, and others are tested one by one. Assumes nothing.
use Rattle.std.proofs.Common.{◌≡◌, ◌+◌, ◌-◌, sym, ◌∙◌, arith}
use Rattle.text_windows.proofs.Runs.{ascii_fitted}
use Rattle.text_windows.proofs.fit_sixteen.Goals as goal

pub returns-then-is_ascii : goal.returns-then-is_ascii
returns-then-is_ascii c =
    let a = c.args in
    let e : a.at + (a.at + 16 - a.at) ≡ a.at + 16 = omega arith in
    rw e at (ascii_fitted a.s.now a.at (a.at + 16 - a.at) (omega arith) (sym c.is_ascii.ensures ∙ c.if-is_ascii.true) c.is_whole.result (omega arith) c.is_whole.ensures)
