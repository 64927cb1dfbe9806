-- What is stored of the topic in force: bindings/c/ecchjulmina.h, enum ecch_force_layout. 02, P6: "a part of the packet or of the alias table".
-- Assumes nothing.
use Rattle.std.specs.Prelude.{List, [], ◌∷◌, ℕ, Result, Ok, Err}
use Rattle.reading.specs.Reader.{Fit, got, bad}
use Rattle.records.specs.AsNumbers.{row_of}
use Rattle.alias.specs.Alias.{Lies, in_packet, in_table}
use Rattle.alias.specs.AliasAnswer.{told_alias}
use Rattle.alias.specs.declared.AliasError.{AliasError}

-- ecch_force_layout: 1 for the stream, 2 for the table, 0 where the message is refused; the place there
abbrev pub force_numbers : Fit Lies → List ℕ
force_numbers (got (in_packet p)) = 1 ∷ p.start ∷ p.len ∷ []
force_numbers (got (in_table p)) = 2 ∷ p.start ∷ p.len ∷ []
force_numbers (bad k) = 0 ∷ 0 ∷ 0 ∷ []

-- header: "0, or the refusal's number"
abbrev pub answered_number : {T : Type 0} → Result T AliasError → ℕ
answered_number (Ok x) = 0
answered_number (Err e) = row_of (told_alias e)
