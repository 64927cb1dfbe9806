-- `write_strings::put_fitting` meets its contract: the length and the bytes behind it are one run of stores. Assumes nothing.
use Rattle.writing.specs.Spell.{string}
use Rattle.write_bytes.proofs.Laws.{sets_out}
use Rattle.write_strings.proofs.Laws.{put_string}
use Rattle.write_strings.proofs.put_fitting.Goals as goal

pub returns-then-at-out : goal.returns-then-at-out
returns-then-at-out c =
    let a = c.args in
    put_string a.out.now _ _ a.s.now a.at c.put.ensures.stores c.put_bytes.ensures

pub returns-else-at-out : goal.returns-else-at-out
returns-else-at-out c =
    let a = c.args in
    sets_out (string a.s.now) a.out.now a.at c.if-at-out.false
