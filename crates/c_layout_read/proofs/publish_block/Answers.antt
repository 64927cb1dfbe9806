-- `c_layout_read::publish_block` is right since each property stands under its name. Assumes nothing.
use mathlib.Core.Path.{◌≡◌}
use Rattle.std.proofs.Common.{rules}
use Rattle.c_layout_read.proofs.publish_block.Goals as goal

pub returns : goal.returns
returns c =
    let e : c.map.result ≡ c.in-Some.p.payload_format_indicator = search rules in
    let f : c.map-2.result ≡ c.in-Some.p.message_expiry_interval = search rules in
    let g : c.map-3.result ≡ c.in-Some.p.topic_alias = search rules in
    rw (c.in-Some.is, c.place_text.ensures, c.number_if.ensures, c.number_if-2.ensures, c.number_if-3.ensures, c.span_text.ensures, c.span_text-2.ensures, c.span_text-3.ensures, e, f, g)
