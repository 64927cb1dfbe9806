-- A table as the lent bytes of c_inflight, taken and stored.
use Rattle.std.specs.Prelude.{◌≡◌, true, false, cond, List, ℕ, leb, length, Result, Ok, Err}
use Rattle.std.proofs.lemmas.List.Edits.{sets}
use Rattle.inflight.specs.Rules.{limit, is_table}
use Rattle.inflight.specs.TableAnswer.{waits_of}
use Rattle.inflight.specs.declared.InFlight.{InFlight}
use Rattle.c_journal.specs.declared.BadTable.{BadTable}

-- whether the bytes are a table; if so, which
abbrev pub TakenFrom : List ℕ → Result InFlight BadTable → Type 0
TakenFrom b (Ok t) = (is_table b ≡ true) × (waits_of t ≡ b)
TakenFrom b (Err e) = is_table b ≡ false

-- a table stored from index 0 on, if all of it fits
unfoldable pub stored : List ℕ → List ℕ → List ℕ
stored t out = cond (leb limit (length out)) (sets out 0 t) out
