-- Does a filter match a topic? 02, P5: "a definition that takes a filter level by level, the rest of the filter matching the rest of the
-- topic". Assumes nothing.
use Rattle.std.specs.Prelude.{Bool, true, false, not, ◌&&◌, ◌||◌, List, [], ◌∷◌, ℕ, eqb}
use Rattle.topics.specs.Levels.{Level, hash, plus, levels, is_wild, lone}

-- the same bytes
unfoldable pub same : List ℕ → List ℕ → Bool
same [] [] = true
same [] (d ∷ t) = false
same (c ∷ s) [] = false
same (c ∷ s) (d ∷ t) = eqb c d && same s t

-- P5: a level of the filter meets one of the topic: MQTT 4.7.1.3, '+' "matches only one topic level", any other itself; "A topic level
-- equal to `#` that meets a filter level other than `#` is rejected"
abbrev pub meets : Level → Level → Bool
meets f t = not (lone hash t) && (lone plus f || same f t)

-- P5: the levels of the filter, and those of the topic: "the rest of the filter matching the rest of the topic". MQTT 4.7.1.2: '#'
-- "represents the parent and any number of child levels"; DECISIONS 40: wherever it stands
unfoldable pub rest_matches : List Level → List Level → Bool
rest_matches [] [] = true
rest_matches [] (t ∷ ts) = false
rest_matches (f ∷ fs) [] = lone hash f
rest_matches (f ∷ fs) (t ∷ ts) = lone hash f || (meets f t && rest_matches fs ts)

-- the first byte passes a test
abbrev pub begins : (ℕ → Bool) → List ℕ → Bool
begins p [] = false
begins p (c ∷ s) = p c

-- MQTT 4.7.2: "The Server MUST NOT match Topic Filters starting with a wildcard character (# or +) with Topic Names beginning with a $
-- character"
abbrev pub barred : List ℕ → List ℕ → Bool
barred topic filter = begins (eqb 36) topic && begins is_wild filter

-- P5: `matches`
unfoldable pub matches_of : List ℕ → List ℕ → Bool
matches_of topic filter = not (barred topic filter) && rest_matches (levels filter) (levels topic)
