-- `c_heads::publish_by::publish_head` is right since each part has what the definition has. Assumes nothing.
use Rattle.c_heads.proofs.publish_by.publish_head.Goals as goal

pub returns : goal.returns
returns c = λ topic response correlation user lengths ids content payload. rw (c.zeros_if_off-zeros.ensures, c.test_qos-quality.ensures, c.numbers-head.ensures topic response correlation user lengths ids content payload)
