-- MQTT's own examples (4.7.1.2, 4.7.1.3, 4.7.2) and P5's rules, by computation. Assumes nothing.
use mathlib.Core.Path.{◌≡◌, refl}
use mathlib.Core.Bool.{Bool, true, ◌&&◌, not}
use mathlib.Core.List.{List, [], ◌∷◌}
use Prim.Native.Nat.{ℕ}
use Rattle.topics.specs.Levels.{Level, levels, has_wild, lone, levels_fine, valid_filter}
use Rattle.topics.specs.Match.{same, rest_matches, matches_of}
use Rattle.topics_theorem.specs.Standard.{joined, of_hash, of_plus}

-- does the test hold of each row?
abbrev every : {A : Type 0} → (A → Bool) → List A → Bool
every f [] = true
every f (a ∷ rest) = f a && every f rest

-- ---- the levels of the examples

abbrev sport : Level
sport = 115 ∷ 112 ∷ 111 ∷ 114 ∷ 116 ∷ []

abbrev tennis : Level
tennis = 116 ∷ 101 ∷ 110 ∷ 110 ∷ 105 ∷ 115 ∷ []

abbrev player1 : Level
player1 = 112 ∷ 108 ∷ 97 ∷ 121 ∷ 101 ∷ 114 ∷ 49 ∷ []

abbrev ranking : Level
ranking = 114 ∷ 97 ∷ 110 ∷ 107 ∷ 105 ∷ 110 ∷ 103 ∷ []

abbrev score : Level
score = 115 ∷ 99 ∷ 111 ∷ 114 ∷ 101 ∷ []

abbrev wimbledon : Level
wimbledon = 119 ∷ 105 ∷ 109 ∷ 98 ∷ 108 ∷ 101 ∷ 100 ∷ 111 ∷ 110 ∷ []

abbrev finance : Level
finance = 102 ∷ 105 ∷ 110 ∷ 97 ∷ 110 ∷ 99 ∷ 101 ∷ []

-- $SYS
abbrev sys : Level
sys = 36 ∷ 83 ∷ 89 ∷ 83 ∷ []

abbrev monitor : Level
monitor = 109 ∷ 111 ∷ 110 ∷ 105 ∷ 116 ∷ 111 ∷ 114 ∷ []

abbrev clients : Level
clients = 67 ∷ 108 ∷ 105 ∷ 101 ∷ 110 ∷ 116 ∷ 115 ∷ []

abbrev a : Level
a = 97 ∷ []

abbrev b : Level
b = 98 ∷ []

abbrev c : Level
c = 99 ∷ []

abbrev d : Level
d = 100 ∷ []

-- é
abbrev wide : Level
wide = 195 ∷ 169 ∷ []

-- tennis#
abbrev tennis_hash : Level
tennis_hash = 116 ∷ 101 ∷ 110 ∷ 110 ∷ 105 ∷ 115 ∷ 35 ∷ []

-- sport+
abbrev sport_plus : Level
sport_plus = 115 ∷ 112 ∷ 111 ∷ 114 ∷ 116 ∷ 43 ∷ []

-- ++
abbrev two_plus : Level
two_plus = 43 ∷ 43 ∷ []

-- ##
abbrev two_hash : Level
two_hash = 35 ∷ 35 ∷ []

-- #b
abbrev hash_b : Level
hash_b = 35 ∷ 98 ∷ []

-- #a
abbrev hash_a : Level
hash_a = 35 ∷ 97 ∷ []

-- ---- topics and filters

-- topic and filter: these match
abbrev matching : List (List ℕ × List ℕ)
matching =
    (joined (sport ∷ tennis ∷ player1 ∷ []), joined (sport ∷ tennis ∷ player1 ∷ of_hash ∷ []))
    ∷ (joined (sport ∷ tennis ∷ player1 ∷ ranking ∷ []), joined (sport ∷ tennis ∷ player1 ∷ of_hash ∷ []))
    ∷ (joined (sport ∷ tennis ∷ player1 ∷ score ∷ wimbledon ∷ []), joined (sport ∷ tennis ∷ player1 ∷ of_hash ∷ []))
    ∷ (joined (sport ∷ []), joined (sport ∷ of_hash ∷ []))
    ∷ (joined (a ∷ b ∷ []), joined (of_hash ∷ []))
    ∷ (joined (sport ∷ tennis ∷ player1 ∷ []), joined (sport ∷ tennis ∷ of_plus ∷ []))
    ∷ (joined (sport ∷ [] ∷ []), joined (sport ∷ of_plus ∷ []))
    ∷ (joined ([] ∷ finance ∷ []), joined (of_plus ∷ of_plus ∷ []))
    ∷ (joined ([] ∷ finance ∷ []), joined ([] ∷ of_plus ∷ []))
    ∷ (joined (sys ∷ a ∷ []), joined (sys ∷ of_hash ∷ []))
    ∷ (joined (sys ∷ monitor ∷ clients ∷ []), joined (sys ∷ monitor ∷ of_plus ∷ []))
    ∷ (joined (a ∷ b ∷ c ∷ []), joined (a ∷ of_hash ∷ c ∷ d ∷ []))
    ∷ (joined (wide ∷ []), joined (of_plus ∷ []))
    ∷ ([], joined (of_plus ∷ []))
    ∷ ([], [])
    ∷ []

-- these do not
abbrev failing : List (List ℕ × List ℕ)
failing =
    (joined (sport ∷ tennis ∷ player1 ∷ ranking ∷ []), joined (sport ∷ tennis ∷ of_plus ∷ []))
    ∷ (joined (sport ∷ []), joined (sport ∷ of_plus ∷ []))
    ∷ (joined ([] ∷ finance ∷ []), joined (of_plus ∷ []))
    ∷ (joined (sys ∷ a ∷ []), joined (of_hash ∷ []))
    ∷ (joined (sys ∷ monitor ∷ clients ∷ []), joined (of_plus ∷ monitor ∷ clients ∷ []))
    ∷ (joined (a ∷ of_hash ∷ []), joined (a ∷ of_plus ∷ []))
    ∷ (joined (a ∷ of_hash ∷ b ∷ []), joined (a ∷ hash_b ∷ b ∷ []))
    ∷ (joined (of_hash ∷ []), joined (hash_a ∷ []))
    ∷ (joined (a ∷ b ∷ []), joined (a ∷ b ∷ c ∷ []))
    ∷ (joined (a ∷ b ∷ c ∷ []), joined (a ∷ b ∷ []))
    ∷ (joined (a ∷ [] ∷ []), joined (a ∷ []))
    ∷ []

-- filters: these are valid
abbrev valid : List (List ℕ)
valid =
    (joined (sport ∷ tennis ∷ of_hash ∷ []))
    ∷ (joined (of_hash ∷ []))
    ∷ (joined (of_plus ∷ []))
    ∷ (joined (of_plus ∷ tennis ∷ of_hash ∷ []))
    ∷ (joined (sport ∷ of_plus ∷ player1 ∷ []))
    ∷ (joined ([] ∷ [] ∷ []))
    ∷ (joined (a ∷ []))
    ∷ []

-- these are not
abbrev invalid : List (List ℕ)
invalid =
    (joined (sport ∷ tennis_hash ∷ []))
    ∷ (joined (sport ∷ tennis ∷ of_hash ∷ ranking ∷ []))
    ∷ (joined (sport_plus ∷ []))
    ∷ ([])
    ∷ (joined (a ∷ two_plus ∷ []))
    ∷ (joined (two_hash ∷ []))
    ∷ (joined (a ∷ hash_b ∷ c ∷ []))
    ∷ []

pub worked_match : every (λ (p : List ℕ × List ℕ). matches_of p.0 p.1) matching ≡ true
unfolding levels lone same rest_matches matches_of joined
worked_match = refl

pub worked_fail : every (λ (p : List ℕ × List ℕ). not (matches_of p.0 p.1)) failing ≡ true
unfolding levels lone same rest_matches matches_of joined
worked_fail = refl

pub worked_valid : every valid_filter valid ≡ true
unfolding levels lone has_wild levels_fine valid_filter joined
worked_valid = refl

pub worked_invalid : every (λ (f : List ℕ). not (valid_filter f)) invalid ≡ true
unfolding levels lone has_wild levels_fine valid_filter joined
worked_invalid = refl

-- ---- the three characters themselves, spelled as bytes: a/b, a.b, a/+, #

pub worked_cut : levels (97 ∷ 47 ∷ 98 ∷ []) ≡ (97 ∷ []) ∷ (98 ∷ []) ∷ []
unfolding levels
worked_cut = refl

pub worked_uncut : levels (97 ∷ 46 ∷ 98 ∷ []) ≡ (97 ∷ 46 ∷ 98 ∷ []) ∷ []
unfolding levels
worked_uncut = refl

pub worked_spelled : every (λ (f : List ℕ). matches_of (97 ∷ 47 ∷ 98 ∷ []) f) ((97 ∷ 47 ∷ 43 ∷ []) ∷ (35 ∷ []) ∷ (97 ∷ 47 ∷ 98 ∷ []) ∷ []) ≡ true
unfolding levels lone same rest_matches matches_of
worked_spelled = refl
