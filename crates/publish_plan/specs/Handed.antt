-- What is handed over to write a Publish, from the arguments. Assumes nothing.
use Rattle.std.specs.Prelude.{List, ℕ}
use Rattle.writing.specs.Handed.{PublishHanded}
use Rattle.records.specs.AsNumbers.{told_bool, told_qos, number_if}
use Rattle.write_runs.specs.Given.{run}
use Rattle.publish_plan.specs.declared.head.PublishHead.{PublishHead}

-- 01, "What must change shape": numbers and presence in the head, strings and lists beside it in the order of the arguments
abbrev pub handed : PublishHead → List ℕ → List ℕ → List ℕ → List ℕ → List ℕ → List ℕ → List ℕ → List ℕ → PublishHanded
handed head topic response correlation user lengths ids content payload = record {
  dup = told_bool head.dup;
  qos = told_qos head.qos;
  retain = told_bool head.retain;
  topic = topic;
  ident = head.pkid;
  block = head.block;
  format = number_if head.payload_format_indicator;
  expiry = number_if head.message_expiry_interval;
  alias = number_if head.topic_alias;
  response = record { on = head.response_topic; bytes = response };
  correlation = record { on = head.correlation_data; bytes = correlation };
  user = run user lengths;
  subscriptions = ids;
  content = record { on = head.content_type; bytes = content };
  payload = payload;
}
