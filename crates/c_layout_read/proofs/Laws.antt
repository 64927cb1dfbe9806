-- What is returned and stored of a refusal, from its row and its values. Assumes nothing.
use mathlib.Core.Path.{◌≡◌, refl}
use Prim.Native.Nat.{ℕ}
use Rattle.reading.specs.Refusal.{Refusal, nr, refused_as}
use Rattle.reading.specs.Reader.{bad}
use Rattle.records.specs.AsNumbers.{row_of, values_of}
use Rattle.c_layout_read.specs.Layout.{laid_out}
use Rattle.c_layout.specs.Value.{value_or_zero}
use Rattle.c_layout_read.specs.Block.{no_block}
use Rattle.c_layout_read.specs.Record.{refused_head, read_number, encoded}

pub refused_number : (k : Refusal) (n : ℕ) → row_of k ≡ read_number (refused_as k n)
refused_number (nr k vs) n = refl

pub refused_encoded : (k : Refusal) (n : ℕ) → laid_out (refused_head n (value_or_zero (values_of k) 0) (value_or_zero (values_of k) 1)) no_block ≡ encoded (refused_as k n) (bad k)
unfolding encoded
refused_encoded (nr k vs) n = refl
