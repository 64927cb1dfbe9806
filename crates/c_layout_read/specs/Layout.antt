-- The layout of the array that a read fills: bindings/c/ecchjulmina.h, enum ecch_record_layout, index by index. Assumes nothing.
use Rattle.std.specs.Prelude.{List, [], ◌∷◌, ℕ}
use Rattle.c_layout_read.specs.declared.place.Head.{Head}
use Rattle.c_layout_read.specs.declared.place.Block.{Block}

-- the header's order, from 0 (ECCH_TAKEN) to 37 (ECCH_SUBSCRIPTION_VALUE); 02, P1: behind the last, the reasons and the topics, to 41
-- (ECCH_TOPICS_LEN); 02, P7: behind these, where the properties start and end, to 43 (ECCH_PROPERTIES_END)
abbrev pub laid_out : Head → Block → List ℕ
laid_out h b =
    h.taken
    ∷ h.first
    ∷ h.second
    ∷ h.kind
    ∷ h.pkid
    ∷ h.dup
    ∷ h.qos
    ∷ h.retain
    ∷ h.reason
    ∷ h.topic.start
    ∷ h.topic.len
    ∷ h.payload.start
    ∷ h.payload.len
    ∷ h.filters.start
    ∷ h.filters.len
    ∷ b.place.on
    ∷ b.place.start
    ∷ b.place.len
    ∷ b.format.on
    ∷ b.format.value
    ∷ b.expiry.on
    ∷ b.expiry.value
    ∷ b.alias.on
    ∷ b.alias.value
    ∷ b.response.on
    ∷ b.response.start
    ∷ b.response.len
    ∷ b.correlation.on
    ∷ b.correlation.start
    ∷ b.correlation.len
    ∷ b.content.on
    ∷ b.content.start
    ∷ b.content.len
    ∷ b.reason.on
    ∷ b.reason.start
    ∷ b.reason.len
    ∷ b.subscription.on
    ∷ b.subscription.value
    ∷ h.reasons.start
    ∷ h.reasons.len
    ∷ h.topics.start
    ∷ h.topics.len
    ∷ h.properties.start
    ∷ h.properties.end
    ∷ []
