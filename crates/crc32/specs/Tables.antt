-- How the code's tables lie, one behind the other. 02 knows nothing of them.
use Rattle.std.specs.Prelude.{◌≡◌, List, ℕ, ◌+◌, ◌*◌, ◌<◌, length, get_or}
use Rattle.crc32.specs.Crc.{shifts}

-- sixteen tables of sixteen entries: entry i of table j is what 4 j + 4 shifts make of i
pub record Tables (t : List ℕ) : Type 0 where
  pub long : length t ≡ 256
  pub rule : (j i : ℕ) → j < 16 → i < 16 → get_or t (16 * j + i) 0 ≡ shifts (4 * j + 4) i
