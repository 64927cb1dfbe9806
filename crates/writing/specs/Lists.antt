-- Lists: one after the other, sums, a run cut by lengths, side by side. Assumes nothing.
use Rattle.std.specs.Prelude.{List, [], ◌∷◌, ◌++◌, ℕ, ◌+◌, take, drop}

-- what f makes of each element, one after the other
abbrev pub flat : {A B : Type 0} → (A → List B) → List A → List B
flat f [] = []
flat f (a ∷ l) = f a ++ flat f l

-- the sum of what f makes of each element
abbrev pub total : {A : Type 0} → (A → ℕ) → List A → ℕ
total f [] = 0
total f (a ∷ l) = f a + total f l

-- the numbers' sum
abbrev pub sum : List ℕ → ℕ
sum = total (λ n. n)

-- 01, "What must change shape": "one run of bytes and a list of lengths": the strings that the lengths cut the run into
abbrev pub pieces : List ℕ → List ℕ → List (List ℕ)
pieces [] run = []
pieces (n ∷ ns) run = take n run ∷ pieces ns (drop n run)

-- the elements of two lists side by side, as far as the shorter goes: the kit's `zip`, which computes only where a law opens it
abbrev pub beside : {A B : Type 0} → List A → List B → List (A × B)
beside [] bs = []
beside (a ∷ as') [] = []
beside (a ∷ as') (b ∷ bs) = (a, b) ∷ beside as' bs
