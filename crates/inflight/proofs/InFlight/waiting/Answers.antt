-- `InFlight::waiting` is right since it is the library's count. Assumes nothing.
use mathlib.Core.Path.{◌≡◌, sym, ◌∙◌}
use mathlib.Core.Bool.{not}
use borrow.Author.Rules.{rules}
use lib.Dec.{eqb}
use Rattle.std.specs.List.{count_by}
use Rattle.inflight.specs.TableAnswer.{code_of}
use Rattle.inflight.specs.declared.Place.{Place}
use Rattle.inflight.proofs.Laws.{waiting_count}
use Rattle.inflight.proofs.InFlight.waiting.Goals as goal

pub returns : goal.returns
returns c =
    let e : c.count.result ≡ count_by (λ (p : Place). not (eqb (code_of p.wait) 0)) c.args.self.places = search rules in
    e ∙ sym (waiting_count c.args.self)
