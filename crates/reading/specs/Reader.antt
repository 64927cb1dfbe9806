-- Readers: total functions on a list of bytes that give a value and the bytes left, or a refusal by its number and values.
-- One for each way to build a grammar. Assumes nothing.
use Rattle.std.specs.Prelude.{Bool, true, false, List, [], ◌∷◌, ℕ, ◌-◌, length, take, drop, leb}
use Rattle.grammar.specs.Choice.{is_empty}
use Rattle.grammar.specs.Gram.{forget}
use Rattle.reading.specs.Refusal.{Refusal, nr}

infixl 10 ◌>>=◌
infixl 10 ◌>>◌
-- what was read, or the refusal
pub data Fit (A : Type 0) : Type 0 where
  got : A → Fit A
  bad : Refusal → Fit A

-- a reader takes a front and gives what is left
abbrev pub Reader : Type 0 → Type 0
Reader A = List ℕ → Fit (A × List ℕ)

-- a filler takes all that it is given
abbrev pub Filler : Type 0 → Type 0
Filler A = List ℕ → Fit A

-- the first refusal stands
abbrev pub ◌>>=◌ : {A B : Type 0} → Fit A → (A → Fit B) → Fit B
◌>>=◌ (got a) f = f a
◌>>=◌ (bad k) f = bad k

-- the same where the value is not asked for
abbrev pub ◌>>◌ : {A B : Type 0} → Fit A → Fit B → Fit B
◌>>◌ (got a) m = m
◌>>◌ (bad k) m = bad k

-- the refusal k unless the test holds
abbrev pub guard : Bool → Refusal → Fit (Unit {0})
guard true k = got tt
guard false k = bad k

-- no bytes, for the value a
unfoldable pub none_of : {A : Type 0} → A → Reader A
none_of a s = got (a, s)

-- a refusal, whatever the bytes
unfoldable pub never_of : {A : Type 0} → Refusal → Reader A
never_of c s = bad c

-- p, its value seen through f
unfoldable pub map_of : {A B : Type 0} → (A → B) → Reader A → Reader B
map_of f p s = do
  (a, r) ← p s
  got (f a, r)

-- p, and k a unless its value a passes the test
unfoldable pub only_of : {A : Type 0} → (A → Bool) → (A → Refusal) → Reader A → Reader A
only_of t k p s = do
  (a, r) ← p s
  guard (t a) (k a)
  got (a, r)

-- p, and k unless its value and the count of the bytes that spell it pass the test
unfoldable pub only_by_of : {A : Type 0} → (A → ℕ → Bool) → (A → ℕ → Refusal) → Reader A → Reader A
only_by_of t k p s = do
  (a, r) ← p s
  guard (t a (length s - length r)) (k a (length s - length r))
  got (a, r)

-- p, and k i unless the first byte i passes the test
unfoldable pub head_of : {A : Type 0} → (ℕ → Bool) → (ℕ → Refusal) → Reader A → Reader A
head_of t k p [] = p []
head_of t k p (i ∷ s) = do
  guard (t i) (k i)
  p (i ∷ s)

-- p, then q
unfoldable pub then_of : {A B : Type 0} → Reader A → (A → Reader B) → Reader (A × B)
then_of p q s = do
  (a, r) ← p s
  (c, r') ← q a r
  got ((a, c), r')

-- a length, then what fills as many bytes; k says the refusal where the length l is more than the bytes r that are left.
-- The bytes s end at index `end` of the stream, and q is told where its own do
unfoldable pub sized_of : {A : Type 0} → Reader ℕ → (ℕ → List ℕ → Refusal) → (ℕ → Filler A) → ℕ → Reader A
sized_of n k q end s = do
  (l, r) ← n s
  guard (leb l (length r)) (k l r)
  a ← q (end - length (drop l r)) (take l r)
  got (a, drop l r)

-- the bytes as they stand, and c unless they pass the test
unfoldable pub is_fit : (List ℕ → Bool) → Refusal → Filler (List ℕ)
is_fit t c b = do
  guard (t b) c
  got b

-- q, its value seen through f
unfoldable pub map_fit : {A B : Type 0} → (A → B) → Filler A → Filler B
map_fit f q s = do
  a ← q s
  got (f a)

-- what is read is handed back as f makes it of the value, its bytes, and the index at which they end
unfoldable pub hand_fit : {A B : Type 0} → (A → List ℕ → ℕ → B) → (ℕ → Filler A) → ℕ → Filler B
hand_fit f q end s = do
  a ← q end s
  got (f a s end)

-- q, and k unless its value passes the test
unfoldable pub only_fit : {A : Type 0} → (A → Bool) → Refusal → Filler A → Filler A
only_fit t k q s = do
  a ← q s
  guard (t a) k
  got a

-- p, then q to the end
unfoldable pub then_fit : {A B : Type 0} → Reader A → (A → Filler B) → Filler (A × B)
then_fit p q s = do
  (a, r) ← p s
  c ← q a r
  got (a, c)

-- p, and c if bytes are left
unfoldable pub exact_fit : {A : Type 0} → Reader A → Refusal → Filler A
exact_fit p c s = do
  (a, r) ← p s
  guard (is_empty r) c
  got a

-- p again and again, to the end, with what came before summed up in σ; the first list bounds the steps, and is as long as the second at
-- least: the 0, which is no number of 01, is never given (`takes`)
unfoldable pub run_fit : {S A : Type 0} → (S → A → S) → (S → Reader A) → S → List ℕ → Filler (List A)
run_fit step p σ [] [] = got []
run_fit step p σ [] (x ∷ s) = bad (nr 0 [])
run_fit step p σ (y ∷ f) [] = got []
run_fit step p σ (y ∷ f) (x ∷ s) = do
  (a, r) ← p σ (x ∷ s)
  vs ← run_fit step p (step σ a) f r
  got (a ∷ vs)

-- enough steps for s
unfoldable pub chain_fit : {S A : Type 0} → (S → A → S) → (S → Reader A) → S → Filler (List A)
chain_fit step p σ s = run_fit step p σ s s

-- the same where nothing is summed up
abbrev pub many_fit : {A : Type 0} → Reader A → Filler (List A)
many_fit p = chain_fit forget (λ _. p) tt

-- a chain whose values are folded as they come
abbrev pub fold_from : {A B : Type 0} → (B → A → B) → B → List A → B
fold_from add o [] = o
fold_from add o (a ∷ vs) = fold_from add (add o a) vs

-- what a loop comes to
unfoldable pub fold_fit : {S A B : Type 0} → (S → A → S) → (S → Reader A) → (B → A → B) → B → S → Filler B
fold_fit step p add o σ s = do
  vs ← chain_fit step p σ s
  got (fold_from add o vs)

-- whether there was an answer
abbrev pub is_got : {A : Type 0} → Fit A → Bool
is_got (got a) = true
is_got (bad k) = false
