-- What a walk from item to item is to give. Assumes nothing.
use Rattle.std.specs.Prelude.{◌≡◌, List, [], ◌∷◌, map, ℕ, ◌+◌, ◌≤◌, ◌<◌, length}
use Rattle.grammar.specs.Record.{PropOf, all_of, Filter}
use Rattle.grammar.specs.Sentence.{Value}
use Rattle.reading.specs.Reader.{Fit, got}
use Rattle.reading.specs.Read.{text_of, filter_of}
use Rattle.reading.specs.Place.{Span, as_places, held_of, say_val, say_filter}
use Rattle.positions.specs.Position.{from_at}
use Rattle.c_arguments.specs.Kind.{property_at}
use Rattle.c_arguments.specs.UpTo.{up_to}

-- header: "the item begins where the last one ended, and the last one ends at that end"; no item begins there or behind it
pub data Walked {A : Type 0} (item : ℕ → Fit (A × ℕ)) (end : ℕ) : ℕ → List A → Type 0 where
  arrived : Walked item end end []
  onward : {at next : ℕ} {a : A} {vs : List A} → at < end → item at ≡ got (a, next) → Walked item end next vs → Walked item end at (a ∷ vs)

-- header: "hand over the end of the block (of the run) and begin at its start": `item` is asked in what lies before that end, which the stream s has
pub record Walks {A : Type 0} (item : List ℕ → ℕ → Fit (A × ℕ)) (s : List ℕ) (p : Span) (vs : List A) : Type 0 where
  pub within : p.start + p.len ≤ length s
  pub walked : Walked (λ at. up_to (λ t. item t at) s (p.start + p.len)) (p.start + p.len) p.start vs

-- header, `ecch_next_filter`: the filter, at index `at` of what lies before the end of its run
abbrev pub next_filter : List ℕ → ℕ → Fit (Filter Span × ℕ)
next_filter s at = from_at (filter_of as_places (length s)) s at

-- 02, P1: header, `ecch_next_topic`: the topic, at index `at` of what lies before the end of its run
abbrev pub next_topic : List ℕ → ℕ → Fit (Span × ℕ)
next_topic s at = from_at (text_of as_places (length s)) s at

-- ---- header: "To walk what ecch_read found"; what the walk gives, its places looked up in the stream

-- header, `ecch_property`, over the block at p in a kind's row: the user properties are us
abbrev pub UserWalk : ℕ → List ℕ → Span → List Value → Type 0
UserWalk kind s p us = (ps : List (PropOf Span)) × Walks (property_at kind) s p ps × (map (say_val s) (all_of 38 ps) ≡ us)

-- header, the same of a Publish: the subscription identifiers are ns
abbrev pub PublishWalk : List ℕ → Span → List Value → List Value → Type 0
PublishWalk s p us ns = (ps : List (PropOf Span)) × Walks (property_at 3) s p ps × (map (say_val s) (all_of 38 ps) ≡ us) × (map (say_val s) (all_of 11 ps) ≡ ns)

-- header, `ecch_next_filter`, over the filters at p: they are fs
abbrev pub FilterWalk : List ℕ → Span → List (Filter (List ℕ)) → Type 0
FilterWalk s p fs = (gs : List (Filter Span)) × Walks next_filter s p gs × (map (say_filter s) gs ≡ fs)

-- 02, P1: header, `ecch_next_topic`, over the topics at p: they are ts
abbrev pub TopicWalk : List ℕ → Span → List (List ℕ) → Type 0
TopicWalk s p ts = (gs : List Span) × Walks next_topic s p gs × (map (held_of s) gs ≡ ts)
