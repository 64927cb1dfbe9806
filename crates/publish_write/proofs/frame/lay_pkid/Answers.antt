-- `publish_write::frame::lay_pkid` is right since an identifier that is left out is no bytes, and else it is two. Assumes nothing.
use Rattle.publish_write.proofs.Parts.{ident_on}
use Rattle.publish_write.proofs.frame.lay_pkid.Goals as goal

pub returns : goal.returns
returns c =
    let a = c.args in
    ident_on a.qos a.pkid c.no_pkid.ensures c.if-no_pkid.false c.put.ensures.stores
