-- `desk_text::is_seen` is right since its tests are those of the definition. Assumes nothing.
use mathlib.Core.Path.{◌≡◌, refl}
use mathlib.Core.Bool.{Bool, true, false, not, cond}
use borrow.Author.Tests.{le-leb, lt-leb}
use Rattle.desk_text.specs.Text.{seen}
use Rattle.desk_text.proofs.is_seen.Goals as goal

negated : (b : Bool) → not b ≡ cond b false true
negated true = refl
negated false = refl

pub returns-then-s-i-ge128 : goal.returns-then-s-i-ge128
unfolding seen
returns-then-s-i-ge128 c = rw (c.is_hidden.ensures, le-leb _ _ c.if-s-i-ge128.true) (negated _)

pub returns-else-s-i-ge128 : goal.returns-else-s-i-ge128
unfolding seen
returns-else-s-i-ge128 c = rw (lt-leb _ _ c.if-s-i-ge128.false)
