-- `publish_plan::test::test_fields` is right since the tests go field by field. Assumes nothing.
use mathlib.Core.Path.{refl}
use Rattle.records.proofs.Laws.{handed_on}
use Rattle.publish_plan.specs.Handed.{handed}
use Rattle.publish_plan.proofs.Laws.{fields_all}
use Rattle.publish_plan.proofs.test.test_fields.Goals as goal

pub returns-in_err-test_raw : goal.returns-in_err-test_raw
returns-in_err-test_raw c =
    let a = c.args in
    λ i p. handed_on _ _ _ c.from_residual.ensures.1 (fields_all (handed a.head a.topic.now a.response_topic.now a.correlation_data.now a.user.now a.user_lengths.now i a.content_type.now p)
    c.in_err-test_raw.ensures refl refl refl refl refl refl refl refl)

pub returns-in_err-test_text : goal.returns-in_err-test_text
returns-in_err-test_text c =
    let a = c.args in
    λ i p. handed_on _ _ _ c.from_residual-in_err-test_text.ensures.1 (fields_all (handed a.head a.topic.now a.response_topic.now a.correlation_data.now a.user.now a.user_lengths.now i a.content_type.now p)
    c.in_ok-test_raw.ensures c.in_err-test_text.ensures refl refl refl refl refl refl refl)

pub returns-in_err-test_bytes : goal.returns-in_err-test_bytes
returns-in_err-test_bytes c =
    let a = c.args in
    λ i p. handed_on _ _ _ c.from_residual-in_err-test_bytes.ensures.1 (fields_all (handed a.head a.topic.now a.response_topic.now a.correlation_data.now a.user.now a.user_lengths.now i a.content_type.now p)
    c.in_ok-test_raw.ensures c.in_ok-test_text.ensures c.in_err-test_bytes.ensures refl refl refl refl refl refl)

pub returns-in_err-test_words : goal.returns-in_err-test_words
returns-in_err-test_words c =
    let a = c.args in
    λ i p. handed_on _ _ _ c.from_residual-in_err-test_words.ensures.1 (fields_all (handed a.head a.topic.now a.response_topic.now a.correlation_data.now a.user.now a.user_lengths.now i a.content_type.now p)
    c.in_ok-test_raw.ensures c.in_ok-test_text.ensures c.in_ok-test_bytes.ensures c.in_err-test_words.ensures refl refl refl refl refl)

pub returns : goal.returns
returns c =
    let a = c.args in
    λ i p. fields_all (handed a.head a.topic.now a.response_topic.now a.correlation_data.now a.user.now a.user_lengths.now i a.content_type.now p)
    c.in_ok-test_raw.ensures c.in_ok-test_text.ensures c.in_ok-test_bytes.ensures c.in_ok-test_words.ensures c.test_text-2.ensures refl refl refl refl
