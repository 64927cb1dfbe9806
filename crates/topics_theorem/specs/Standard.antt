-- MQTT 4.7 and P5 said as relations, without tests and without an order of tests: what the theorems compare the definitions with. A slip in
-- what code and definition share is refused by these. Assumes nothing.
use Rattle.std.specs.Prelude.{◌≡◌, List, [], ◌∷◌, ◌++◌, ℕ}
use Rattle.topics.specs.Levels.{Level, slash, hash, plus, levels}

-- the levels with a separator between each two
unfoldable pub joined : List Level → List ℕ
joined [] = []
joined (l ∷ []) = l
joined (l ∷ m ∷ ls) = l ++ slash ∷ joined (m ∷ ls)

-- no byte of s is b
unfoldable pub Without : ℕ → List ℕ → Type 0
Without b [] = Unit
Without b (c ∷ s) = (c ≡ b → ⊥) × Without b s

-- each level is free of separators
unfoldable pub Uncut : List Level → Type 0
Uncut [] = Unit
Uncut (l ∷ ls) = Without slash l × Uncut ls

-- MQTT 4.7.1.1: ls are the levels of s: s is cut at every separator, and nowhere else; there is one level at least
pub record IsCut (s : List ℕ) (ls : List Level) : Type 0 where
  pub some : ls ≡ [] → ⊥
  pub uncut : Uncut ls
  pub joins : joined ls ≡ s

-- the crate, `has_wildcards`: a '+' or a '#' stands somewhere in it
pub data Wild : List ℕ → Type 0 where
  has_plus : {s : List ℕ} → Wild (plus ∷ s)
  has_hash : {s : List ℕ} → Wild (hash ∷ s)
  further : {c : ℕ} {s : List ℕ} → Wild s → Wild (c ∷ s)

-- the two wildcards as levels
abbrev pub of_hash : Level
of_hash = hash ∷ []

abbrev pub of_plus : Level
of_plus = plus ∷ []

-- 02, P5: which filter levels match which topic levels, a rule a line, for every filter and topic: "A topic level equal to `#` that meets a
-- filter level other than `#` is rejected as the crate does"
pub data Matches : List Level → List Level → Type 0 where
  -- both are used up
  ends : Matches [] []
  -- MQTT 4.7.1.2: '#' matches what is left, none included
  hashes : {fs ts : List Level} → Matches (of_hash ∷ fs) ts
  -- MQTT 4.7.1.3: '+' matches one level, but no '#'
  pluses : {t : Level} {fs ts : List Level} → (t ≡ of_hash → ⊥) → Matches fs ts → Matches (of_plus ∷ fs) (t ∷ ts)
  -- any other level matches itself
  equals : {t : Level} {fs ts : List Level} → (t ≡ of_hash → ⊥) → Matches fs ts → Matches (t ∷ fs) (t ∷ ts)

-- MQTT 4.7.1: the same for a valid filter and a valid topic: '#' stands last, and no topic level is '#'
pub data Covers : List Level → List Level → Type 0 where
  done : Covers [] []
  -- 4.7.1.2: "represents the parent and any number of child levels"
  below : {ts : List Level} → Covers (of_hash ∷ []) ts
  -- 4.7.1.3: "matches only one topic level"
  one : {t : Level} {fs ts : List Level} → Covers fs ts → Covers (of_plus ∷ fs) (t ∷ ts)
  -- 4.7.3: "has to match the corresponding level in the Topic Name character for character"
  itself : {t : Level} {fs ts : List Level} → Covers fs ts → Covers (t ∷ fs) (t ∷ ts)

-- a level with no wildcard in it
abbrev pub Plain : Level → Type 0
Plain l = Without plus l × Without hash l

-- MQTT 4.7.1.2 and 4.7.1.3: the levels of a valid filter
pub data Proper : List Level → Type 0 where
  last_hash : Proper (of_hash ∷ [])
  last_plus : Proper (of_plus ∷ [])
  last_plain : {l : Level} → Plain l → Proper (l ∷ [])
  then_plus : {m : Level} {ls : List Level} → Proper (m ∷ ls) → Proper (of_plus ∷ m ∷ ls)
  then_plain : {l m : Level} {ls : List Level} → Plain l → Proper (m ∷ ls) → Proper (l ∷ m ∷ ls)

-- MQTT 4.7.2: "Topic Filters starting with a wildcard character (# or +)" and "Topic Names beginning with a $ character"
pub data Barred : List ℕ → List ℕ → Type 0 where
  by_plus : {t f : List ℕ} → Barred (36 ∷ t) (plus ∷ f)
  by_hash : {t f : List ℕ} → Barred (36 ∷ t) (hash ∷ f)

-- P5: `matches` for every topic and filter
pub record IsMatch (topic filter : List ℕ) : Type 0 where
  pub free : Barred topic filter → ⊥
  pub levels_match : Matches (levels filter) (levels topic)

-- MQTT 4.7: the same for a valid filter and a valid topic
pub record IsCovered (topic filter : List ℕ) : Type 0 where
  pub free : Barred topic filter → ⊥
  pub levels_match : Covers (levels filter) (levels topic)
