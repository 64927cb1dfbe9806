-- `refusal_names::name_at` is right since every row of its table is the name of its number, which is computed. Assumes nothing.
use mathlib.Core.Path.{refl, sym, ap}
use borrow.Author.Rules.{rules}
use Rattle.refusal_names.specs.Names.{names, name_at, padded}
use Rattle.refusal_names.proofs.Laws.{row_named, unnamed}
use Rattle.refusal_names.proofs.name_at.Goals as goal

pub returns-then-number-ge40 : goal.returns-then-number-ge40
returns-then-number-ge40 c = ap padded (sym (unnamed c.args.number (search rules)))

pub returns : goal.returns
unfolding names name_at
returns c = row_named _ c.args.number (search rules) c.letters.ensures c.wide.ensures refl
