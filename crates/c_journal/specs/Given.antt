-- What C hands over of P11 and what it is answered: the journal's calls with the bytes of a table.
use Rattle.std.specs.Prelude.{◌≡◌, cond, List, [], ℕ, eqb, ltb, replicate, Result, Ok, Err}
use Rattle.reading.specs.Refusal.{nr}
use Rattle.inflight.specs.Rules.{limit, free, is_table}
use Rattle.journal.specs.Area.{whole, save, Says, started, saved, recovered, refused, bad_area, Left, left}
use Rattle.journal.specs.JournalAnswer.{save_of}
use Rattle.journal.specs.declared.Stored.{Stored}
use Rattle.c_journal.specs.declared.SaveRefused.{SaveRefused}

-- what is returned: 0, or the refusal's number
abbrev pub number_of : Says → ℕ
number_of started = 0
number_of (saved n i) = 0
number_of (recovered n t) = 0
number_of (refused (nr k vs)) = k

-- what a save of lent bytes says: what the journal says, or 39
abbrev pub says_of : Result Stored SaveRefused → Says
says_of (Ok s) = save_of (Ok s)
says_of (Err (SaveRefused.Journal e)) = save_of (Err e)
says_of (Err SaveRefused.BadTable) = refused (nr 39 [])

-- the number of the save that was made or found, or 0
abbrev pub first_of : Says → ℕ
first_of started = 0
first_of (saved n i) = n
first_of (recovered n t) = n
first_of (refused k) = 0

-- the block that a save stored, or 0
abbrev pub block_of : Says → ℕ
block_of started = 0
block_of (saved n i) = i
block_of (recovered n t) = 0
block_of (refused k) = 0

-- the table that was found, or a fresh one
abbrev pub table_of : Says → List ℕ
table_of started = replicate limit free
table_of (saved n i) = replicate limit free
table_of (recovered n t) = t
table_of (refused k) = replicate limit free

-- 02, P11: "any other length gets BadArea before all else, nothing changed": the lent table then stays as it was
abbrev pub unless_bad_area : ℕ → List ℕ → List ℕ → List ℕ
unless_bad_area number after before = cond (eqb number 32) before after

-- BadArea before all else; 39 for bytes that are no table
unfoldable pub save_given : List ℕ → List ℕ → Left
save_given b a = cond (is_table b) (save limit b a) (cond (whole a) (left a (refused (nr 39 []))) (left a bad_area))

-- BadArea before all else; 39 where the table does not fit
unfoldable pub room_number : ℕ → ℕ → ℕ
room_number number room = cond (eqb number 32) 32 (cond (ltb room limit) 39 number)

abbrev pub recover_number : Says → ℕ → ℕ
recover_number s room = room_number (number_of s) room

pub record Ends (l : Left) (number : ℕ) (a : List ℕ) : Type 0 where
  pub returned : number ≡ number_of l.says
  pub area : a ≡ l.area
