-- `ping::write_ping` is right since nothing of a ping is refused but for the limit and the room, and its frame is its header. Assumes nothing.
use mathlib.Core.Path.{ap, ◌∙◌}
use mathlib.Core.List.{List}
use Prim.Native.Nat.{ℕ}
use lib.Seq.{sets}
use Rattle.writing.specs.Handed.{ping}
use Rattle.records.specs.AsNumbers.{limit_of}
use Rattle.write_order.proofs.Laws.{settled_found, none_handed_on, all_written}
use Rattle.ping.proofs.Laws.{ping_found, ping_bytes}
use Rattle.ping.proofs.write_ping.Goals as goal

pub returns-in_err-n : goal.returns-in_err-n
returns-in_err-n c =
    let a = c.args in
    λ k e. none_handed_on (limit_of a.limit) (ping k) a.out.now _ _ c.from_residual.ensures.1 (c.in_err-n.ensures ∙ settled_found (limit_of a.limit) _ (ping k) (ping_found k))

pub returns : goal.returns
returns c =
    let a = c.args in
    λ k e. all_written (limit_of a.limit) (ping k) a.out.now _ (c.in_ok-n.ensures ∙ settled_found (limit_of a.limit) _ (ping k) (ping_found k)) _ (λ b r. c.put_header.ensures.stores ∙ ap (λ (l : List ℕ). sets a.out.now 0 l) (ping_bytes k a.first e))
