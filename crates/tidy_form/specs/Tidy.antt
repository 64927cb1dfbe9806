-- The hand-over of a packet that was read, and the tidy form of a frame (02, P14). Assumes nothing.
use Rattle.std.specs.Prelude.{Bool, true, false, List, [], ◌∷◌, map, ℕ, ◌+◌, ◌*◌, length}
use Rattle.std.proofs.Math.Option.{Option, none, some}
use Rattle.grammar.specs.Record as g
use Rattle.grammar.specs.Record.{num, str, duo, PublishProps, Props, Filter}
use Rattle.grammar.specs.Sentence.{Value, Packet}
use Rattle.reading.specs.Refusal.{nr, Answer, accepted, refused}
use Rattle.reading.specs.Reader.{Fit, bad}
use Rattle.reading.specs.Read.{read_of}
use Rattle.writing.specs.Lists.{flat}
use Rattle.writing.specs.Handed.{Lent, Run, PublishHanded, SubscribeHanded, AckHanded, ReplyHanded, UnsubscribeHanded, Handed, publish, ack, subscribe, reply, unsubscribe, ping}
use Rattle.writing.specs.Size.{size_is}
use Rattle.writing.specs.Write.{write_of}

-- ---- values

-- the number, if it is one
abbrev pub num_in : Option Value → Option ℕ
num_in none = none
num_in (some (num n)) = some n
num_in (some (str s)) = none
num_in (some (duo a b)) = none

-- the string, if it is one
abbrev pub lent_in : Option Value → Lent
lent_in none = record { on = false; bytes = [] }
lent_in (some (num n)) = record { on = false; bytes = [] }
lent_in (some (str s)) = record { on = true; bytes = s }
lent_in (some (duo a b)) = record { on = false; bytes = [] }

-- the numbers
abbrev pub nums_in : List Value → List ℕ
nums_in [] = []
nums_in (num n ∷ vs) = n ∷ nums_in vs
nums_in (str s ∷ vs) = nums_in vs
nums_in (duo a b ∷ vs) = nums_in vs

-- keys and values, one after the other
abbrev pub strings_in : List Value → List (List ℕ)
strings_in [] = []
strings_in (num n ∷ vs) = strings_in vs
strings_in (str s ∷ vs) = strings_in vs
strings_in (duo a b ∷ vs) = a ∷ b ∷ strings_in vs

-- 01, "What must change shape": "one run of bytes and a list of lengths"
abbrev pub run_of : List (List ℕ) → Run
run_of ss = record { bytes = flat (λ s. s) ss; lengths = map length ss }

-- 01, grammar, Subscribe: "QoS bits 0-1, no-local 2, preserve-retain 3, forward rule 4-5"
abbrev pub options_byte : Filter (List ℕ) → ℕ
options_byte f = f.qos + 4 * f.no_local + 8 * f.preserve + 16 * f.rule

-- ---- packets; b says whether a set of properties is present, s is the set

-- 01, grammar: "Publish (3)"
abbrev pub publish_from : g.Publish (List ℕ) List → Bool → PublishProps (List ℕ) List → PublishHanded
publish_from p b s = record {
  dup = p.dup;
  qos = p.qos;
  retain = p.retain;
  topic = p.topic;
  ident = p.ident;
  block = b;
  format = num_in s.format;
  expiry = num_in s.expiry;
  alias = num_in s.alias;
  response = lent_in s.response;
  correlation = lent_in s.correlation;
  user = run_of (strings_in s.user);
  subscriptions = nums_in s.subscriptions;
  content = lent_in s.content;
  payload = p.payload;
}

-- 01, grammar: "PubAck (4)"
abbrev pub ack_from : g.Ack (List ℕ) List → Bool → Props (List ℕ) List → AckHanded
ack_from p b s = record { ident = p.ident; reason = p.reason; block = b; text = lent_in s.reason; user = run_of (strings_in s.user) }

-- 01, grammar: "Subscribe (8)"
abbrev pub subscribe_from : g.Subscribe (List ℕ) List → Bool → Props (List ℕ) List → SubscribeHanded
subscribe_from p b s = record {
  ident = p.ident;
  block = b;
  subscription = num_in s.ident;
  user = run_of (strings_in s.user);
  filters = run_of (map (λ f. f.path) p.filters);
  options = map options_byte p.filters;
}

-- 02, P1: SubAck and UnsubAck
abbrev pub reply_from : g.Reply (List ℕ) List → Bool → Props (List ℕ) List → ReplyHanded
reply_from p b s = record { ident = p.ident; block = b; text = lent_in s.reason; user = run_of (strings_in s.user); reasons = p.reasons }

-- 02, P1: Unsubscribe
abbrev pub unsubscribe_from : g.Unsubscribe (List ℕ) List → Bool → Props (List ℕ) List → UnsubscribeHanded
unsubscribe_from p b s = record { ident = p.ident; block = b; user = run_of (strings_in s.user); topics = run_of p.topics }

-- a set with nothing in it
abbrev pub no_publish : PublishProps (List ℕ) List
no_publish = record { format = none; expiry = none; alias = none; response = none; correlation = none; user = []; subscriptions = []; content = none }

-- the same at any other place
abbrev pub no_props : Props (List ℕ) List
no_props = record { reason = none; ident = none; user = [] }

-- f of presence and set; e is the set where there is none
abbrev pub with_set : {A B : Type 0} → (Bool → A → B) → A → Option A → B
with_set f e none = f false e
with_set f e (some s) = f true s

-- what is handed over to have the packet written
unfoldable pub handed_of : Packet → Handed
handed_of (g.publish p) = publish (with_set (publish_from p) no_publish p.props)
handed_of (g.ack k p) = ack k (with_set (ack_from p) no_props p.props)
handed_of (g.subscribe p) = subscribe (with_set (subscribe_from p) no_props p.props)
handed_of (g.reply k p) = reply k (with_set (reply_from p) no_props p.props)
handed_of (g.unsubscribe p) = unsubscribe (with_set (unsubscribe_from p) no_props p.props)
handed_of (g.ping k) = ping k

-- ---- the tidy form of the frame that a stream begins with

-- 02, P14: "writing the record that was read"; with no limit, into as much room as it needs
unfoldable pub rewrite : Answer Packet → Fit (List ℕ)
rewrite (accepted v n) = write_of none (size_is (handed_of v)) (handed_of v)
rewrite (refused k vs n) = bad (nr k vs)

-- 02, P14: "its tidy form"
unfoldable pub tidy_of : List ℕ → Fit (List ℕ)
tidy_of s = rewrite (read_of none s)
