-- `properties::row_block::apply` meets its contract: wherever they stand, 31 is a text and 11 a number, and the record keeps no other. Assumes nothing.
use borrow.Author.Tests.{ne_eqb}
use Rattle.tables.specs.Property.{other_of}
use Rattle.properties.proofs.Laws.Fold.{plain_is}
use Rattle.properties.proofs.row_block.apply.Goals as goal

pub returns-else-k-eq31 : goal.returns-else-k-eq31
returns-else-k-eq31 c =
    let e = c.in-Text.is in
    rw (ne_eqb c.args.k 31 c.if-k-eq31.false, plain_is c.args.k e (other_of c.args.row) c.requires)

pub returns-else-k-eq11 : goal.returns-else-k-eq11
returns-else-k-eq11 c =
    let e = c.in-Number.is in
    rw (plain_is c.args.k e (other_of c.args.row) c.requires, ne_eqb c.args.k 11 c.if-k-eq11.false)

pub returns-in-U8 : goal.returns-in-U8
returns-in-U8 c = let (p, q) = plain_is c.args.k c.in-U8.is (other_of c.args.row) c.requires in rw (p, q)

pub returns-in-U16 : goal.returns-in-U16
returns-in-U16 c = let (p, q) = plain_is c.args.k c.in-U16.is (other_of c.args.row) c.requires in rw (p, q)

pub returns-in-U32 : goal.returns-in-U32
returns-in-U32 c = let (p, q) = plain_is c.args.k c.in-U32.is (other_of c.args.row) c.requires in rw (p, q)

pub returns-in-Bytes : goal.returns-in-Bytes
returns-in-Bytes c = let (p, q) = plain_is c.args.k c.in-Bytes.is (other_of c.args.row) c.requires in rw (p, q)

pub returns-in-Pair : goal.returns-in-Pair
returns-in-Pair c = let (p, q) = plain_is c.args.k c.in-Pair.is (other_of c.args.row) c.requires in rw (p, q)
