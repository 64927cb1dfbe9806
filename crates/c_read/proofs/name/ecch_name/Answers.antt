-- `c_read::name::ecch_name` is right since the name of the row is put, and there is none without a row. Assumes nothing.
use Rattle.refusal_names.specs.Names.{name_at}
use Rattle.c_read.proofs.Laws.{name_put}
use Rattle.c_read.proofs.name.ecch_name.Goals as goal

pub returns : goal.returns
returns c =
    let all = name_put _ (name_at c.args.number) c.name_at-name.ensures c.part-name.ensures.bytes c.put_bytes.ensures in
    record { size = all.0; stored = all.1 }
