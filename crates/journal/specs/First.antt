-- "Recovery takes the good block with the highest number, the first of equals", said by the blocks' places and with no walk over them.
use Rattle.std.specs.Prelude.{◌≡◌, true, List, ℕ, ◌*◌, ◌<◌, ◌≤◌, take, drop}
use Rattle.journal.specs.Block.{good, number_of, table_in}
use Rattle.journal.specs.Area.{count_of}

-- block j of an area, from 0
abbrev pub block_at : List ℕ → ℕ → List ℕ
block_at a j = take 512 (drop (j * 512) a)

pub record First (l : ℕ) (a : List ℕ) (n : ℕ) (t : List ℕ) : Type 0 where
  pub at : ℕ
  pub inside : at < count_of a
  pub fine : good l (block_at a at) ≡ true
  pub number : number_of (block_at a at) ≡ n
  pub table : table_in l (block_at a at) ≡ t
  -- "the highest number"
  pub most : (j : ℕ) → j < count_of a → good l (block_at a j) ≡ true → number_of (block_at a j) ≤ n
  -- "the first of equals"
  pub first : (j : ℕ) → j < at → good l (block_at a j) ≡ true → number_of (block_at a j) < n
