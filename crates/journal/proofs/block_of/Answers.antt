-- `journal::block_of` is right since its parts are stored one behind the other. Assumes nothing.
use mathlib.Core.Path.{◌≡◌, refl, ap, ◌∙◌}
use Prim.Native.Nat.{◌/◌}
use native.Mathlib.Omega.{arith}
use borrow.Author.Rules.{rules}
use lib.ListN.{length, replicate}
use Rattle.inflight.specs.Rules.{limit}
use Rattle.inflight.specs.TableAnswer.{waits_of}
use Rattle.inflight.proofs.Laws.{unmapped, waits_length}
use Rattle.journal.specs.Block.{bytes_of}
use Rattle.journal.proofs.Bytes.{length_bytes_of}
use Rattle.journal.proofs.Stores.{part_set}
use Rattle.journal.proofs.Turns.{bytes_are, part_long}
use Rattle.journal.proofs.Good.{block_stored}
use Rattle.journal.proofs.block_of.Goals as goal

pub slice_bounds-crc32-end : goal.slice_bounds-crc32-end
slice_bounds-crc32-end c = part_long 508 c.put_marks.new.out (omega arith) c.put_marks.array_long

pub returns : goal.returns
returns c =
    let l : length c.args.table.places ≡ limit = search (rules, unmapped) in
    block_stored (replicate 512 0) c.args.number (waits_of c.args.table) (limit / 4) refl (omega arith)
    (omega (arith, waits_length c.args.table, l))
    refl (part_set (replicate 512 0) 0 8 (c.copy_from_slice.ensures.after ∙ c.to_be_bytes.ensures ∙ bytes_are 8 c.args.number) (length_bytes_of 8 c.args.number) (omega arith))
    c.put_marks.ensures
    (part_set c.put_marks.new.out 508 4 (c.copy_from_slice-2.ensures.after ∙ c.to_be_bytes-2.ensures ∙ bytes_are 4 c.crc32-check.result ∙ ap (bytes_of 4) c.crc32-check.ensures) (length_bytes_of 4 _) (omega (arith, c.put_marks.array_long)))
