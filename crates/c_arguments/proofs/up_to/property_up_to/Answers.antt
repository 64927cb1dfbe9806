-- `c_arguments::up_to::property_up_to` is right since it reads in the bytes before the end. Assumes nothing.
use Rattle.records.proofs.Laws.{handed_on}
use Rattle.c_arguments.specs.Kind.{property_at}
use Rattle.c_arguments.proofs.UpTo.{up_within, up_outside}
use Rattle.c_arguments.proofs.up_to.property_up_to.Goals as goal

pub returns-in_err-block-clause-says : goal.returns-in_err-block-clause-says
returns-in_err-block-clause-says c =
    let e = c.in_err-block.ensures in
    handed_on _ _ _ c.from_residual.ensures.1 (rw e.0 (up_outside (λ t. property_at c.args.kind t c.args.at) c.args.stream.now c.args.end e.1))

pub returns : goal.returns
returns c =
    let b = c.in_ok-block.ensures in
    record {
      says = rw (up_within (λ t. property_at c.args.kind t c.args.at) c.args.stream.now c.args.end b.1) (rw b.0 at c.property_at.ensures.says);
      typed = c.property_at.ensures.typed;
    }
