-- `write_strings::write_mqtt_bytes` meets its contract: the length is tested first, and the rest is left to `write_string`. Assumes nothing.
use borrow.Author.Tests.{leb-true}
use Rattle.std.proofs.lemmas.Result.{err_from_is_err_and}
use Rattle.write_strings.proofs.Laws.{string_fits, string_refused}
use Rattle.write_strings.proofs.write_mqtt_bytes.Goals as goal

pub returns-in_err-test_raw : goal.returns-in_err-test_raw
returns-in_err-test_raw c =
    let a = c.args in
    let p = err_from_is_err_and c.from_residual.result c.from_residual.ensures.1 in
    rw (p.1, p.2) (string_refused a.s.now _ a.out.now c.in_err-test_raw.ensures)

pub write_string-requires : goal.write_string-requires
write_string-requires c = leb-true _ 65535 (string_fits c.args.s.now c.in_ok-test_raw.ensures)
