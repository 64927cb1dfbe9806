-- `publish::read` is right since each field is read where the one before it ends, and the first refusal stands. Assumes nothing.
use Rattle.records.proofs.Laws.{handed_on}
use Rattle.publish.proofs.Laws.{qos_refused, topic_within, topic_bad, pkid_bad, block_within, block_bad, fields_got}
use Rattle.publish.proofs.read.Goals as goal

pub returns-in_err-qos : goal.returns-in_err-qos
returns-in_err-qos c = handed_on _ _ _ c.from_residual.ensures.1 (qos_refused _ _ _ _ c.in_err-qos.ensures)

pub returns-in_err-topic : goal.returns-in_err-topic
returns-in_err-topic c = handed_on _ _ _ c.from_residual-in_err-topic.ensures.1 (topic_bad _ _ _ _ c.in_ok-qos.ensures _ c.in_err-topic.ensures)

pub read_pkid-requires : goal.read_pkid-requires
read_pkid-requires c = topic_within _ _ _ _ c.in_ok-topic.ensures

pub returns-in_err-pkid : goal.returns-in_err-pkid
returns-in_err-pkid c =
    handed_on _ _ _ c.from_residual-in_err-pkid.ensures.1 (pkid_bad _ _ _ _ c.in_ok-qos.ensures _ _ c.in_ok-topic.ensures _ c.in_err-pkid.ensures)

pub returns-in_err-properties : goal.returns-in_err-properties
returns-in_err-properties c =
    handed_on _ _ _ c.from_residual-in_err-properties.ensures.1
    (block_bad _ _ _ _ c.in_ok-qos.ensures _ _ c.in_ok-topic.ensures _ _ c.in_ok-pkid.ensures _ c.in_err-properties.ensures)

pub overflow_sub-len : goal.overflow_sub-len
overflow_sub-len c = block_within _ c.in_ok-pkid.b _ _ c.in_ok-properties.ensures

pub returns : goal.returns
returns c =
    rw (c.flag.ensures, c.flag-2.ensures)
    (fields_got _ _ _ _ c.in_ok-qos.ensures _ _ c.in_ok-topic.ensures _ _ c.in_ok-pkid.ensures _ _ c.in_ok-properties.ensures)
