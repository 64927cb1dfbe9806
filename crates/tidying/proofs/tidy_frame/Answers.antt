-- `tidying::tidy_frame` is right since each way puts the tidy form of its layouts. Assumes nothing.
use native.Mathlib.Omega.{arith}
use Rattle.tidying.proofs.Laws.Put.{octets_of, some_bytes}
use Rattle.tidying.proofs.Laws.Frame.{way_block, way_filters, way_long, way_short, way_ping, way_no, laid_tidied, laid_start}
use Rattle.tidying.proofs.tidy_frame.Goals as goal

pub bounds-s-0 : goal.bounds-s-0
bounds-s-0 c = some_bytes c.requires.packet c.args.s.now c.requires.sentence

pub tidy_block-requires : goal.tidy_block-requires
tidy_block-requires c = laid_start c.requires (octets_of c.args.s.now (λ i. omega (arith, c.type_inv.s i))) (way_block c.requires (octets_of c.args.s.now (λ i. omega (arith, c.type_inv.s i))) (rw c.in-Block.is at c.way_of.ensures))

pub returns-in-Block : goal.returns-in-Block
returns-in-Block c = laid_tidied c.requires (octets_of c.args.s.now (λ i. omega (arith, c.type_inv.s i))) (way_block c.requires (octets_of c.args.s.now (λ i. omega (arith, c.type_inv.s i))) (rw c.in-Block.is at c.way_of.ensures)) c.tidy_block.ensures

pub tidy_subscribe-requires : goal.tidy_subscribe-requires
tidy_subscribe-requires c = laid_start c.requires (octets_of c.args.s.now (λ i. omega (arith, c.type_inv.s i))) (way_filters c.requires (octets_of c.args.s.now (λ i. omega (arith, c.type_inv.s i))) (rw c.in-Filters.is at c.way_of.ensures))

pub returns-in-Filters : goal.returns-in-Filters
returns-in-Filters c = laid_tidied c.requires (octets_of c.args.s.now (λ i. omega (arith, c.type_inv.s i))) (way_filters c.requires (octets_of c.args.s.now (λ i. omega (arith, c.type_inv.s i))) (rw c.in-Filters.is at c.way_of.ensures)) c.tidy_subscribe.ensures

pub tidy_short-requires : goal.tidy_short-requires
tidy_short-requires c = way_long c.requires (octets_of c.args.s.now (λ i. omega (arith, c.type_inv.s i))) (rw c.in-Short.is at c.way_of.ensures)

pub returns-in-Short : goal.returns-in-Short
returns-in-Short c = way_short c.requires (octets_of c.args.s.now (λ i. omega (arith, c.type_inv.s i))) (rw c.in-Short.is at c.way_of.ensures) c.tidy_short.ensures

pub returns-in-Ping : goal.returns-in-Ping
returns-in-Ping c = way_ping c.requires (octets_of c.args.s.now (λ i. omega (arith, c.type_inv.s i))) (rw c.in-Ping.is at c.way_of.ensures) c.tidy_ping.ensures

pub returns-in-No : goal.returns-in-No
returns-in-No c = way_no c.requires (octets_of c.args.s.now (λ i. omega (arith, c.type_inv.s i))) (rw c.in-No.is at c.way_of.ensures)
