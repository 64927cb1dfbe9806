-- What is found of a ping, and its frame. Assumes nothing.
use mathlib.Core.Path.{◌≡◌, refl}
use mathlib.Core.Bool.{true}
use mathlib.Core.List.{◌∷◌, append-nil}
use Prim.Native.Nat.{ℕ}
use native.Mathlib.Omega.{arith}
use Rattle.reading.specs.Reader.{got}
use Rattle.writing.specs.Handed.{ping, belongs}
use Rattle.writing.specs.Size.{rest_is, cap}
use Rattle.writing.specs.Spell.{short}
use Rattle.writing.specs.Order.{judge, fields_of}
use Rattle.grammar.specs.Tables.{first_of}
use Rattle.writing.specs.Write.{first_byte, frame_bytes}
use Rattle.writing.proofs.ForCode.{ping_frame}
use Rattle.write_lengths.specs.Fitting.{fit_short}
use Rattle.write_lengths.proofs.Fits.{short_fits}
use Rattle.write_order.specs.Found.{Found}

module _ (k : ℕ) where
  pub ping_belongs : true ≡ belongs (ping k)
  unfolding belongs
  ping_belongs = refl

  pub ping_rest : 0 ≡ cap (rest_is (ping k))
  unfolding rest_is
  ping_rest = refl

  pub ping_found : Found (ping k) (got tt) 0 (got tt)
  unfolding belongs judge fields_of
  ping_found = record { early = refl; rest = ping_rest; late = refl }

  pub ping_bytes : (x : ℕ) → x ≡ first_of k → x ∷ fit_short 0 ≡ frame_bytes (ping k)
  unfolding first_byte
  ping_bytes x e = rw (short_fits 0 (omega arith), ping_frame k, append-nil (short 0), e)
