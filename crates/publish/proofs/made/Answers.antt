-- `publish::made` meets its contract: a value is given where its flag is set. Assumes nothing.
use mathlib.Core.Path.{ap, ◌∙◌}
use Rattle.records.specs.AsNumbers.{told_span, told_number_if, told_string}
use Rattle.publish.proofs.BlockLaws.{number_given, string_given}
use Rattle.publish.proofs.made.Goals as goal

pub returns : goal.returns
returns c =
    let format = ap told_number_if c.then_some.ensures ∙ number_given _ _ in
    let expiry = ap told_number_if c.then_some-2.ensures ∙ number_given _ _ in
    let alias = ap told_number_if c.then_some-3.ensures ∙ number_given _ _ in
    let response = ap told_string c.then_some-4.ensures ∙ string_given _ _ in
    let correlation = ap told_string c.then_some-5.ensures ∙ string_given _ _ in
    let content = ap told_string c.then_some-6.ensures ∙ string_given _ _ in
    λ i. record {
      format = format i;
      expiry = expiry i;
      alias = alias i;
      response = response i;
      correlation = correlation i;
      user = told_span c.args.p.block;
      subscriptions = told_span c.args.p.block;
      content = content i;
    }
