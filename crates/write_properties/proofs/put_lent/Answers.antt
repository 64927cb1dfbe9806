-- `write_properties::put_lent` is right since a string that is on is its identifier byte and the string behind it. Assumes nothing.
use native.Mathlib.Omega.{arith}
use Rattle.write_strings.proofs.Fits.{string_most}
use Rattle.write_properties.proofs.Laws.{put_string}
use Rattle.write_properties.proofs.put_lent.Goals as goal

pub overflow_add-result : goal.overflow_add-result
overflow_add-result c = omega (arith, string_most c.args.s.now, c.put_string.ensures.1)

pub returns-then-on : goal.returns-then-on
returns-then-on c =
    let a = c.args in
    λ f. rw c.if-on.true (put_string a.id f a.s.now a.out.now _ _ a.at _ _ c.put_id-next.ensures c.put_string.ensures)
