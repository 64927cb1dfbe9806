-- What an answer of `qos` says of the QoS of a record and of the test of the first byte. Assumes nothing.
use mathlib.Core.Path.{◌≡◌, refl, sym}
use mathlib.Core.Bool.{Bool, true, false}
use Prim.Native.Nat.{ℕ}
use lib.Dec.{ltb}
use Rattle.reading.specs.Refusal.{Refusal}
use Rattle.reading.specs.Reader.{Fit, got, bad}
use Rattle.reading.proofs.Reading.{bad_got, got_inj}
use Rattle.tables.specs.Qos.{qos_of}
use Rattle.c_heads.specs.By.{qos_test, known_qos}

pub qos_refused : {k : Refusal} (n : ℕ) → bad k ≡ qos_of n → (0 ≡ known_qos n) × (bad k ≡ qos_test n)
qos_refused {k} n e = go (ltb n 3) refl
  where
    go : (t : Bool) → ltb n 3 ≡ t → (0 ≡ known_qos n) × (bad k ≡ qos_test n)
    go true i = absurd (bad_got (rw i at e))
    go false i = let j : ◌≡◌ {A = Fit ℕ} (bad k) _ = rw i at e in (rw i, rw i (cc))

pub qos_given : {q : ℕ} (n : ℕ) → got q ≡ qos_of n → (q ≡ known_qos n) × (got tt ≡ qos_test n)
qos_given {q} n e = go (ltb n 3) refl
  where
    go : (t : Bool) → ltb n 3 ≡ t → (q ≡ known_qos n) × (got tt ≡ qos_test n)
    go true i = (rw i (got_inj (rw i at e)), rw i)
    go false i = absurd (bad_got (sym (rw i at e)))
