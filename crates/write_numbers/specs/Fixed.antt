-- The forms of a fixed width. Assumes nothing.
use Rattle.std.specs.Prelude.{◌≡◌, ℕ, ◌≤◌, refl}
use Rattle.std.proofs.Common.{arith}
use Rattle.grammar.specs.Tables.{Form, u8, u16, u32}
use Rattle.writing.specs.Size.{num_size}

-- 01, table of properties: a number of this form takes so many bytes, four at most
pub record FixedLaws (form : Form) (width : ℕ) : Type 0 where
  pub counts : (n : ℕ) → num_size form n ≡ width
  pub small : width ≤ 4

pub u8_laws : FixedLaws u8 1
u8_laws = record { counts = λ n. refl; small = omega arith }

pub u16_laws : FixedLaws u16 2
u16_laws = record { counts = λ n. refl; small = omega arith }

pub u32_laws : FixedLaws u32 4
u32_laws = record { counts = λ n. refl; small = omega arith }
