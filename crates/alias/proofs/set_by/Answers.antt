-- `alias::set_by` is right since only a topic that is sent with an alias is set. Assumes nothing.
use mathlib.Core.Path.{ap}
use Rattle.records.specs.AsNumbers.{number_if}
use Rattle.alias.proofs.Laws.{permits, good_length, in_range_lem, has_room}
use Rattle.alias.proofs.set_by.Goals as goal

pub set-requires : goal.set-requires
set-requires c =
    let e = ap number_if c.in-Some.is in
    let r = in_range_lem c.args.table.now c.args.topic.now _ _ e (permits _ _ _ c.requires).valid in
    (r.0, r.1, has_room c.args.table.now c.args.topic.now _ _ e c.requires, good_length c.args.table.now (permits _ _ _ c.requires).good)
