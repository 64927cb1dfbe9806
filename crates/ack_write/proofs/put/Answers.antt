-- `ack_write::put` is right since the header and the identifier are put, and where it is no plain success what is behind them. Assumes nothing.
use mathlib.Core.Path.{sym, ◌∙◌}
use Rattle.records.specs.AsNumbers.{told_ack_kind}
use Rattle.ack_write.specs.Handed.{handed}
use Rattle.ack_write.proofs.Laws.{length_small, block_writable, put_plain, put_full}
use Rattle.ack_write.proofs.put.Goals as goal

pub returns-then-not-is_plain : goal.returns-then-not-is_plain
returns-then-not-is_plain c =
    let a = c.args in
    let p = sym c.is_plain.ensures ∙ c.if-not-is_plain.true in
    λ e s w i. put_full (told_ack_kind a.m.kind) (handed a.m a.reason_string.now a.user.now a.user_lengths.now) a.out.now _ _ _ _ _ c.rest-len.ensures (rw c.first_byte-byte1.ensures at c.put_header-n.ensures) c.after-first.ensures c.put.ensures.stores e s
    p _ _ c.after-second.ensures (c.put_block.ensures (length_small (told_ack_kind a.m.kind) (handed a.m a.reason_string.now a.user.now a.user_lengths.now) p s) (block_writable (told_ack_kind a.m.kind) (handed a.m a.reason_string.now a.user.now a.user_lengths.now) w))

pub returns-else-not-is_plain : goal.returns-else-not-is_plain
returns-else-not-is_plain c =
    let a = c.args in
    λ e s w i. put_plain (told_ack_kind a.m.kind) (handed a.m a.reason_string.now a.user.now a.user_lengths.now) a.out.now _ _ _ _ _ c.rest-len.ensures (rw c.first_byte-byte1.ensures at c.put_header-n.ensures) c.after-first.ensures c.put.ensures.stores e s
    (sym c.is_plain.ensures ∙ c.if-not-is_plain.false)
