-- `publish_write::frame::lay_string` is right since the length stands before the bytes. Assumes nothing.
use native.Mathlib.Omega.{arith}
use Rattle.publish_write.proofs.Parts.{string_laid}
use Rattle.publish_write.proofs.frame.lay_string.Goals as goal

pub returns : goal.returns
returns c =
    let a = c.args in
    string_laid a.s.now a.from a.n (omega arith) c.store_two.ensures c.copy.ensures.0 c.copy.ensures.1
