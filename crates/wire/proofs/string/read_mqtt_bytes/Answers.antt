-- `wire::string::read_mqtt_bytes` meets its contract: the length is what `read_u16` read, and the bytes behind it are there or not.
-- Assumes nothing.
use mathlib.Core.Path.{refl}
use native.Mathlib.Omega.{arith}
use Rattle.reading.specs.Refusal.{cut}
use Rattle.reading.specs.Read.{any_bytes, bytes_of}
use Rattle.records.proofs.Laws.{handed_on}
use Rattle.wire.proofs.Laws.{size_within, string_bad, string_crossed, string_fine}
use Rattle.wire.proofs.string.read_mqtt_bytes.Goals as goal

pub returns-in_err-n : goal.returns-in_err-n
unfolding bytes_of
returns-in_err-n c = handed_on _ _ _ c.from_residual.ensures.1 (string_bad any_bytes cut _ _ _ c.in_err-n.ensures)

pub overflow_sub-s : goal.overflow_sub-s
overflow_sub-s c = size_within _ _ _ _ c.in_ok-n.ensures

pub returns-then-s-start : goal.returns-then-s-start
unfolding bytes_of
returns-then-s-start c = string_crossed any_bytes cut _ _ _ _ c.in_ok-n.ensures (omega arith)

pub returns : goal.returns
unfolding bytes_of
returns c =
    let e = c.in_ok-n.ensures in
    string_fine any_bytes cut _ _ _ _ e (omega (arith, size_within _ _ _ _ e)) refl
