-- P6 without a table: which topic each alias stands for after any messages. Assumes nothing.
use Rattle.std.specs.Prelude.{◌≡◌, cond, List, [], ℕ, ◌≤◌, eqb, replicate, Result, Ok, Err}
use Rattle.std.proofs.Math.Option.{Option, none, some}
use Rattle.reading.specs.Reader.{Fit, got, bad}
use Rattle.alias.specs.Table.{topic_of}
use Rattle.alias.specs.Alias.{empty, Lies, bytes_at}
use Rattle.alias.specs.AliasAnswer.{Learnt}
use Rattle.alias.specs.declared.AliasError.{AliasError}

-- the topic that each alias stands for, none if never set
abbrev pub Known : Type 0
Known = ℕ → Option (List ℕ)

-- P6: "sends a topic once with a Topic Alias": from then on the alias stands for it, until another is sent
abbrev pub known_after : Known → List ℕ → Option ℕ → Known
known_after f topic none b = f b
known_after f topic (some a) b = cond (empty topic) (f b) (cond (eqb a b) (some topic) (f b))

-- P6: a message that is refused says nothing of any alias
abbrev pub known_by : Result (Unit {0}) AliasError → Known → List ℕ → Option ℕ → Known
known_by (Ok u) f topic a = known_after f topic a
known_by (Err e) f topic a = f

-- P6: ".. and then leaves it empty": the topic in force, the packet's own or what the alias stands for
abbrev pub forced : Known → List ℕ → Option ℕ → Option (List ℕ)
forced f topic none = some topic
forced f topic (some a) = cond (empty topic) (f a) (some topic)

-- the bytes in force; none where the message is refused
abbrev pub force_bytes : List ℕ → List ℕ → Fit Lies → List ℕ
force_bytes s t (got l) = bytes_at s t l
force_bytes s t (bad k) = []

-- the table says what is known
abbrev pub Agrees : List ℕ → Known → Type 0
Agrees t f = (a : ℕ) → 1 ≤ a → a ≤ 16 → topic_of t a ≡ f a

-- a table, and what is known, after any messages on a fresh table, each answered as the contract of `learn_topic` says
pub data Reached : List ℕ → Known → Type 0 where
  -- "0 if never set"
  fresh : Reached (replicate 2064 0) (λ a. none)
  learnt : {t u : List ℕ} {f : Known} (topic : List ℕ) (a : Option ℕ) (r : Result (Unit {0}) AliasError) → Reached t f → Learnt t topic a u r → Reached u (known_by r f topic a)
