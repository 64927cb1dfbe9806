-- `c_inflight::claims` is right since each way to end is one of the definition's. Assumes nothing.
use mathlib.Core.Path.{refl, sym, ◌∙◌}
use mathlib.Core.List.{◌∷◌, []}
use native.Mathlib.Omega.{arith}
use Rattle.inflight.proofs.Laws.{below_four}
use Rattle.c_inflight.proofs.Laws.{refuses, named, claim_none, claim_zero, claim_odd, claim_some}
use Rattle.c_inflight.proofs.claims.Goals as goal

pub returns-then-not-is_table : goal.returns-then-not-is_table
returns-then-not-is_table c = refuses 39 [] (claim_none _ _ (sym c.is_table.ensures ∙ c.if-not-is_table.true)) refl

pub returns-then-qos-eq0 : goal.returns-then-qos-eq0
returns-then-qos-eq0 c = refuses 30 [] (claim_zero _ _ (sym c.is_table.ensures ∙ c.if-not-is_table.false) c.if-qos-eq0.true) refl

pub returns-then-qos-gt2 : goal.returns-then-qos-gt2
returns-then-qos-gt2 c = refuses 11 (c.args.qos ∷ []) (claim_odd _ _ (sym c.is_table.ensures ∙ c.if-not-is_table.false) (omega arith)) refl

pub returns : goal.returns
returns c =
    named c.claim_for.ensures (claim_some _ _ (sym c.is_table.ensures ∙ c.if-not-is_table.false) c.if-qos-eq0.false (omega arith) (c.wait_of.ensures ∙ below_four (omega arith)))
