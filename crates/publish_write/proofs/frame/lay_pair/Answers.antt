-- `publish_write::frame::lay_pair` is right since the strings stand one behind the other, behind the identifier byte. Assumes nothing.
use Prim.Native.Nat.{◌+◌}
use native.Mathlib.Omega.{arith}
use lib.ListN.{take, drop}
use Rattle.writing.proofs.Sizes.{length_string}
use Rattle.publish_write.proofs.Parts.{part_length, pair_laid}
use Rattle.publish_write.proofs.frame.lay_pair.Goals as goal

pub lay_string-requires : goal.lay_string-requires
lay_string-requires c =
    let a = c.args in
    let s = a.s.now in
    (omega arith, omega (arith, c.lay_string-next.ensures.place, length_string (take a.k (drop a.from s)), part_length s a.from a.k (omega arith)))

pub returns : goal.returns
returns c =
    let a = c.args in
    let s = a.s.now in
    pair_laid (take a.k (drop a.from s)) (take a.v (drop (a.from + a.k) s)) c.store.ensures c.lay_string-next.ensures c.lay_string.ensures
