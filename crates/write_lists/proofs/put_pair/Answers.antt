-- `write_lists::put_pair` is right since the identifier byte, the key and the value, one behind the other, are one put. Assumes nothing.
use native.Mathlib.Omega.{arith}
use Rattle.write_strings.proofs.Fits.{string_most}
use Rattle.write_lists.proofs.Laws.{put_both}
use Rattle.write_lists.proofs.put_pair.Goals as goal

pub overflow_add-k : goal.overflow_add-k
overflow_add-k c = omega (arith, string_most c.args.key.now, c.put_string-k.ensures.1)

pub overflow_add-result : goal.overflow_add-result
overflow_add-result c = omega (arith, string_most c.args.key.now, c.put_string-k.ensures.1)

pub overflow_add-result-2 : goal.overflow_add-result-2
overflow_add-result-2 c = omega (arith, string_most c.args.key.now, string_most c.args.value.now, c.put_string-k.ensures.1, c.put_string-v.ensures.1)

pub returns : goal.returns
returns c =
    let a = c.args in
    put_both a.key.now a.value.now a.out.now _ _ _ a.at _ _ _ _ c.put_id-next.ensures c.put_string-k.ensures c.after-last.ensures c.put_string-v.ensures
