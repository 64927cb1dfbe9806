-- What the helpers of the code answer at the front of a topic and of a filter. Assumes nothing.
use Rattle.std.specs.Prelude.{◌≡◌, Bool, true, false, ◌||◌, cond, List, [], ◌∷◌, ℕ, suc, ◌+◌, ◌-◌, ◌≤◌, ◌<◌, eqb, length, take, get_or}
use Rattle.std.specs.Borrow.{Bor}
use Rattle.std.specs.declared.ops.ControlFlow.{ControlFlow}
use Rattle.std.specs.declared.ops.ControlFlow.TheVariants.{Continue, Break}
use Rattle.topics.specs.Levels.{slash, hash, levels, lone}
use Rattle.topics.specs.Match.{meets, rest_matches}

-- ---- the first level

-- how many bytes it has
unfoldable pub level_len : List ℕ → ℕ
level_len [] = 0
level_len (c ∷ s) = cond (eqb c slash) 0 (suc (level_len s))

-- r is that many, and within s
pub record Ends (s : List ℕ) (r : ℕ) : Type 0 where
  pub len : r ≡ level_len s
  pub within : r ≤ length s

-- the byte at an index is a separator
abbrev pub slash_at : List ℕ → ℕ → Bool
slash_at s k = eqb (get_or s k 0) slash

-- at n is the end, or a separator
abbrev pub ends_at : List ℕ → ℕ → Bool
ends_at s n = eqb n (length s) || slash_at s n

-- ---- topic and filter

-- the first levels, of t and f bytes, meet, and that of the filter is not `#`
pub record HaveMet (topic filter : List ℕ) (t f : ℕ) : Type 0 where
  pub topic_ends : Ends topic t
  pub filter_ends : Ends filter f
  pub no_hash : lone hash (take f filter) ≡ false
  pub met : meets (take f filter) (take t topic) ≡ true

-- P5, "the rest of the filter matching the rest of the topic": t and f are the rests, and the filter's is shorter
pub record GoesOn (topic filter t f : List ℕ) : Type 0 where
  pub shorter : length f < length filter
  pub decides : rest_matches (levels f) (levels t) ≡ rest_matches (levels filter) (levels topic)

-- the first levels decide, or the rest does
abbrev pub Decides : List ℕ → List ℕ → ControlFlow Bool (Bor (List ℕ) × Bor (List ℕ)) → Type 0
Decides topic filter (Break b) = b ≡ rest_matches (levels filter) (levels topic)
Decides topic filter (Continue p) = GoesOn topic filter p.0.now p.1.now

-- less of the filter is left than was passed, less by 64 bytes
abbrev pub Halves : List ℕ → ControlFlow Bool (Bor (List ℕ) × Bor (List ℕ)) → Type 0
Halves filter (Break b) = Unit
Halves filter (Continue p) = length p.1.now + 64 < length filter - length p.1.now
