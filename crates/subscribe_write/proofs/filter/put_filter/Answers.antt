-- `subscribe_write::filter::put_filter` is right since the string and the options byte behind it are one put. Assumes nothing.
use native.Mathlib.Omega.{arith}
use Rattle.write_strings.proofs.Fits.{string_most}
use Rattle.subscribe_write.proofs.Filters.{put_filter}
use Rattle.subscribe_write.proofs.filter.put_filter.Goals as goal

pub overflow_add-result : goal.overflow_add-result
overflow_add-result c = let b = c.args in omega (arith, c.put_string-n.ensures.1, string_most b.s.now)

pub returns : goal.returns
returns c =
    let a = c.args in
    put_filter a.s.now a.options a.out.now _ _ a.at _ _ c.put_string-n.ensures c.after-next.ensures c.put.ensures.stores
