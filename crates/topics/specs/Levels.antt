-- Topics and filters as levels, and which of them hold wildcards: 02, P5 ("Port `has_wildcards`, `valid_topic`, `valid_filter` and `matches`,
-- over bytes"), MQTT 4.7.1. Assumes nothing.
use Rattle.std.specs.Prelude.{Bool, true, false, not, ◌&&◌, ◌||◌, cond, List, [], ◌∷◌, ℕ, eqb}

-- MQTT 4.7.1.1: "The forward slash ('/' U+002F) is used to separate each level within a topic tree"
abbrev pub slash : ℕ
slash = 47

-- MQTT 4.7.1.2: "The number sign ('#' U+0023) is a wildcard character that matches any number of levels"
abbrev pub hash : ℕ
hash = 35

-- MQTT 4.7.1.3: "The plus sign ('+' U+002B) is a wildcard character that matches only one topic level"
abbrev pub plus : ℕ
plus = 43

-- the bytes between two separators
abbrev pub Level : Type 0
Level = List ℕ

-- the first level begins with c
abbrev pub on_first : ℕ → List Level → List Level
on_first c [] = []
on_first c (l ∷ ls) = (c ∷ l) ∷ ls

-- MQTT 4.7.1.1: the levels, cut at each separator; the crate's `split('/')`: a text without separator, the empty one too, is one level
unfoldable pub levels : List ℕ → List Level
levels [] = [] ∷ []
levels (c ∷ s) = cond (eqb c slash) ([] ∷ levels s) (on_first c (levels s))

-- ---- wildcards

-- MQTT 4.7.1: the wildcard characters
abbrev pub is_wild : ℕ → Bool
is_wild c = eqb c plus || eqb c hash

-- the crate, `has_wildcards`: "contains('+') || contains('#')"
unfoldable pub has_wild : List ℕ → Bool
has_wild [] = false
has_wild (c ∷ s) = is_wild c || has_wild s

-- a level that is the byte b and nothing else
unfoldable pub lone : ℕ → Level → Bool
lone b [] = false
lone b (c ∷ []) = eqb c b
lone b (c ∷ d ∷ l) = false

-- ---- which are valid

-- MQTT 4.7.1: "The wildcard characters can be used in Topic Filters, but MUST NOT be used within a Topic Name"
abbrev pub valid_topic : List ℕ → Bool
valid_topic s = not (has_wild s)

-- MQTT 4.7.1.3: '+' "MUST occupy an entire level of the filter"; 4.7.1.2: '#' "on its own or following a topic level separator. In either
-- case it MUST be the last character specified in the Topic Filter"
abbrev pub level_fine : Bool → Level → Bool
level_fine last l = not (has_wild l) || (lone plus l || last && lone hash l)

-- each level of a filter, the last one as such
unfoldable pub levels_fine : List Level → Bool
levels_fine [] = true
levels_fine (l ∷ []) = level_fine true l
levels_fine (l ∷ m ∷ ls) = level_fine false l && levels_fine (m ∷ ls)

-- MQTT 4.7.3: "All Topic Names and Topic Filters MUST be at least one character long"; the crate, `valid_filter`
unfoldable pub valid_filter : List ℕ → Bool
valid_filter [] = false
valid_filter (c ∷ s) = levels_fine (levels (c ∷ s))
