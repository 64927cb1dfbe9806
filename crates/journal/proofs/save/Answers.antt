-- `journal::save` is right since the block goes where the definition puts it. Assumes nothing.
use mathlib.Core.Path.{ap, ◌∙◌}
use native.Mathlib.Omega.{arith}
use Rattle.journal.specs.Area.{left}
use Rattle.journal.proofs.Finding.{save_bad, save_ended, whole_count, block_fits, save_put, latest_number, length_of_blocks, bad_save}
use Rattle.journal.proofs.save.Goals as goal

pub returns-in_err-blocks : goal.returns-in_err-blocks
returns-in_err-blocks c = ap (left c.args.area.now) (bad_save _ c.from_residual.ensures.1) ∙ save_bad _ _ c.in_err-blocks.ensures

pub returns-then-last : goal.returns-then-last
returns-then-last c =
    save_ended _ _ _ c.in_ok-blocks.ensures.0 (latest_number _ c.in_ok-blocks.ensures.1 c.find.ensures c.highest-last.ensures) c.if-last.true

pub nonzero_rem-at : goal.nonzero_rem-at
nonzero_rem-at c = omega (arith, (whole_count c.args.area.now c.in_ok-blocks.ensures.0).1, length_of_blocks c.args.area.now c.in_ok-blocks.ensures.1)

pub overflow_mul-from : goal.overflow_mul-from
overflow_mul-from c = omega (arith, block_fits c.args.area.now c.highest-last.result c.in_ok-blocks.ensures.0 (length_of_blocks c.args.area.now c.in_ok-blocks.ensures.1))

pub overflow_add-end : goal.overflow_add-end
overflow_add-end c = omega (arith, block_fits c.args.area.now c.highest-last.result c.in_ok-blocks.ensures.0 (length_of_blocks c.args.area.now c.in_ok-blocks.ensures.1))

pub slice_bounds-copy_from_slice-end : goal.slice_bounds-copy_from_slice-end
slice_bounds-copy_from_slice-end c = block_fits c.args.area.now c.highest-last.result c.in_ok-blocks.ensures.0 (length_of_blocks c.args.area.now c.in_ok-blocks.ensures.1)

pub returns : goal.returns
returns c =
    save_put c.args.area.now _ c.highest-last.result c.in_ok-blocks.ensures.0 (length_of_blocks c.args.area.now c.in_ok-blocks.ensures.1)
    (latest_number c.args.area.now c.in_ok-blocks.ensures.1 c.find.ensures c.highest-last.ensures) c.if-last.false c.copy_from_slice.ensures.after c.block_of.ensures
