-- What the values of src/ say in the terms of Area.
use Rattle.std.specs.Prelude.{◌≡◌, List, [], ℕ, replicate, Option, Some, None, Result, Ok, Err}
use Rattle.std.proofs.Common.{Bor}
use Rattle.std.proofs.Math.Option.{none, some}
use Rattle.std.proofs.Math.Option as math
use Rattle.reading.specs.Refusal.{nr}
use Rattle.inflight.specs.Rules.{limit, free}
use Rattle.inflight.specs.TableAnswer.{waits_of}
use Rattle.journal.specs.Block.{number_of, table_in}
use Rattle.journal.specs.Area.{Says, started, saved, recovered, refused, recover, look}
use Rattle.journal.specs.declared.BadArea.{BadArea}
use Rattle.journal.specs.declared.SaveError.{SaveError}
use Rattle.journal.specs.declared.FindError.{FindError}
use Rattle.journal.specs.declared.Stored.{Stored}
use Rattle.journal.specs.declared.Recovered.{Recovered}

-- P11: zeroed, or "BadArea"
abbrev pub start_of : Result (Unit {0}) BadArea → Says
start_of (Ok u) = started
start_of (Err e) = refused (nr 32 [])

-- P11: stored, "BadArea" or "JournalEnded"
abbrev pub save_of : Result Stored SaveError → Says
save_of (Ok s) = saved s.number s.block
save_of (Err SaveError.BadArea) = refused (nr 32 [])
save_of (Err SaveError.JournalEnded) = refused (nr 34 [])

-- P11: the table, "BadArea" or "JournalEmpty"
abbrev pub found_of : Result ℕ FindError → List ℕ → Says
found_of (Ok n) t = recovered n t
found_of (Err FindError.BadArea) t = refused (nr 32 [])
found_of (Err FindError.JournalEmpty) t = refused (nr 33 [])

-- where there is no table to give, a fresh one
abbrev pub FreshUnless : Result ℕ FindError → List ℕ → Type 0
FreshUnless (Ok n) t = Unit {0}
FreshUnless (Err e) t = t ≡ replicate limit free

-- what recovery says, and a fresh table where it says none
pub record Recovers (a : List ℕ) (r : Recovered) : Type 0 where
  pub says : found_of r.found (waits_of r.table) ≡ recover limit a
  pub fresh : FreshUnless r.found (waits_of r.table)

-- what is said of block i alone, and a fresh table where there is none
pub record Looks (a : List ℕ) (i : ℕ) (r : Recovered) : Type 0 where
  pub says : found_of r.found (waits_of r.table) ≡ look limit a i
  pub fresh : FreshUnless r.found (waits_of r.table)

-- the block that a reference points to
abbrev pub told_block : Option (Bor (List ℕ)) → math.Option (List ℕ)
told_block None = none
told_block (Some b) = some b.now

-- what a block that was found says: its number and its table
abbrev pub block_says : Result (Bor (List ℕ)) FindError → Says
block_says (Ok b) = recovered (number_of b.now) (table_in limit b.now)
block_says (Err FindError.BadArea) = refused (nr 32 [])
block_says (Err FindError.JournalEmpty) = refused (nr 33 [])

-- the number and the table of what was found, and a fresh table where that is none
pub record Takes (found : Result (Bor (List ℕ)) FindError) (r : Recovered) : Type 0 where
  pub says : found_of r.found (waits_of r.table) ≡ block_says found
  pub fresh : FreshUnless r.found (waits_of r.table)
