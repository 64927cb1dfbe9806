-- `pieces::buffer_serves` is right since each test is one of the definition's, in its order. Assumes nothing.
use borrow.Author.Tests.{le-leb, lt-leb}
use Rattle.pieces_rules.specs.Step.{serves}
use Rattle.pieces.proofs.buffer_serves.Goals as goal
use Rattle.pieces.proofs.buffer_serves.Goals.{then-cap-lt-LEAST-via-then-cap-lt-LEAST, then-cap-lt-LEAST-via-else-cap-lt-LEAST+then-cap-gt65536}

pub returns-then-cap-lt-LEAST : goal.returns-then-cap-lt-LEAST
unfolding serves
returns-then-cap-lt-LEAST c =
    elim c.then-cap-lt-LEAST.branch [
      | then-cap-lt-LEAST-via-then-cap-lt-LEAST w ↦ rw (lt-leb 5 c.args.cap w.if-cap-lt-LEAST.true)
      | then-cap-lt-LEAST-via-else-cap-lt-LEAST+then-cap-gt65536 w ↦
          rw (le-leb 5 c.args.cap w.if-cap-lt-LEAST.false, lt-leb c.args.cap 65536 w.if-cap-gt65536.true)
    ]

pub returns : goal.returns
unfolding serves
returns c = rw (le-leb 5 c.args.cap c.if-cap-lt-LEAST.false, le-leb c.args.cap 65536 c.if-cap-gt65536.false)
