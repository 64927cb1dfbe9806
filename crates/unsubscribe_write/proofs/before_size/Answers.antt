-- `unsubscribe_write::before_size` is right since the fields are tested in the order in which they are written. Assumes nothing.
use mathlib.Core.Path.{refl}
use Rattle.records.proofs.Laws.{handed_on}
use Rattle.unsubscribe_write.specs.Handed.{handed}
use Rattle.unsubscribe_write.proofs.Laws.{before_size_all}
use Rattle.unsubscribe_write.proofs.before_size.Goals as goal

pub returns-in_err-test_words : goal.returns-in_err-test_words
returns-in_err-test_words c =
    let a = c.args in
    handed_on _ _ _ c.from_residual.ensures.1 (before_size_all (handed a.m a.user.now a.user_lengths.now a.topics.now a.topic_lengths.now) c.belongs.ensures c.if-not-belongs.false c.in_err-test_words.ensures refl refl)

pub returns : goal.returns
returns c =
    let a = c.args in
    before_size_all (handed a.m a.user.now a.user_lengths.now a.topics.now a.topic_lengths.now) c.belongs.ensures c.if-not-belongs.false c.in_ok-test_words.ensures c.test_words-2.ensures refl
