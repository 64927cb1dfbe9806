-- The lent table of topics by alias. 02, P6: "a lent table of 2,064 bytes: for aliases 1 to 16 in turn a length byte, 0 if never set, and 128
-- bytes for the topic". Assumes nothing.
use Rattle.std.specs.Prelude.{Bool, true, ◌&&◌, cond, List, [], ◌∷◌, ◌++◌, ℕ, zero, suc, ◌+◌, ◌-◌, ◌*◌, leb, eqb, length, take, drop, get_or}
use Rattle.std.proofs.Math.Option.{Option, none, some}
use Rattle.std.proofs.lemmas.List.Edits.{sets}

-- P6: "for aliases 1 to 16 in turn": where the length byte of alias a stands
abbrev pub slot : ℕ → ℕ
slot a = (a - 1) * 129

-- P6: "a length byte"
abbrev pub stored_len : List ℕ → ℕ → ℕ
stored_len t a = get_or t (slot a) 0

-- P6: "128 bytes for the topic": as many of them as the length byte says
abbrev pub stored_topic : List ℕ → ℕ → List ℕ
stored_topic t a = take (stored_len t a) (drop (slot a + 1) t)

-- P6: no "stored length above 128" for aliases 1 to n
unfoldable pub lengths_good : ℕ → List ℕ → Bool
lengths_good zero t = true
lengths_good (suc n) t = leb (stored_len t (suc n)) 128 && lengths_good n t

-- P6: neither "of the wrong size" nor "with a stored length above 128"
abbrev pub table_good : List ℕ → Bool
table_good t = eqb (length t) 2064 && lengths_good 16 t

-- P6: "0 if never set"; else the topic that was set
unfoldable pub topic_of : List ℕ → ℕ → Option (List ℕ)
topic_of t a = cond (eqb (stored_len t a) 0) none (some (stored_topic t a))

-- P6: "Setting an alias writes its length and topic and no other byte"
unfoldable pub set_alias : List ℕ → ℕ → List ℕ → List ℕ
set_alias t a topic = sets t (slot a) (length topic ∷ topic)

-- the same table said without an index: a length byte and the bytes for the topic, alias by alias; `laid_in_turn` compares
abbrev pub in_turn : List (ℕ × List ℕ) → List ℕ
in_turn [] = []
in_turn ((n, b) ∷ rest) = n ∷ (b ++ in_turn rest)

-- the a-th of them, from 1 on, has the length byte n and the bytes b
pub data Nth : ℕ → List (ℕ × List ℕ) → ℕ → List ℕ → Type 0 where
  first : {n : ℕ} {b : List ℕ} {rest : List (ℕ × List ℕ)} → Nth 1 ((n, b) ∷ rest) n b
  later : {a n m : ℕ} {b c : List ℕ} {rest : List (ℕ × List ℕ)} → Nth (suc a) rest n b → Nth (suc (suc a)) ((m, c) ∷ rest) n b
