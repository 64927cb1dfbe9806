-- What a head and the lists beside it hand over. Assumes nothing.
use Rattle.std.specs.Prelude.{Bool, List, ℕ}
use Rattle.reading.specs.Reader.{Fit, got}
use Rattle.writing.specs.Handed.{Handed, publish, subscribe}
use Rattle.write_tests.specs.Tested.{told_tested}
use Rattle.publish_plan.specs.Handed as publishing
use Rattle.subscribe_write.specs.Handed as subscribing
use Rattle.c_heads.specs.declared.publish_by.PublishBy.{PublishBy}
use Rattle.c_heads.specs.declared.subscribe_by.SubscribeBy.{SubscribeBy}

-- of a Publish: whether each number whose flag is off is 0, the test of its QoS, and the packet
abbrev pub publish_handed : PublishBy → (topic response correlation user lengths ids content payload : List ℕ) → Bool × Fit (Unit {0}) × Handed
publish_handed b topic response correlation user lengths ids content payload = (b.zeros, told_tested b.quality, publish (publishing.handed b.head topic response correlation user lengths ids content payload))

-- of a Subscribe: its first byte has no QoS
abbrev pub subscribe_handed : SubscribeBy → (user lengths filters filterLengths options : List ℕ) → Bool × Fit (Unit {0}) × Handed
subscribe_handed b user lengths filters filterLengths options = (b.zeros, got tt, subscribe (subscribing.handed b.head user lengths filters filterLengths options))
