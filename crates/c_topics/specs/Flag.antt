-- A truth value for C: bindings/c/ecchjulmina.h, "one that is handed back is 0 or 1". Assumes nothing.
use Rattle.std.specs.Prelude.{Bool, true, false, ℕ}

abbrev pub flag_of : Bool → ℕ
flag_of true = 1
flag_of false = 0
