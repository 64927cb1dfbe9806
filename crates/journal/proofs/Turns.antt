-- What the functions of src/ use: one law for each way that a turn of a loop can go.
-- Assumes nothing.
use mathlib.Core.Path.{◌≡◌, refl, sym, ap, ap₂, ◌∙◌}
use mathlib.Core.Bool.{Bool, true, false}
use mathlib.Core.List.{List, [], ◌∷◌, ◌++◌}
use Prim.Native.Nat.{ℕ, zero, suc, ◌+◌, ◌*◌, ◌-◌, ◌/◌, ◌%◌, ◌^◌, ◌<◌, ◌≤◌}
use native.Mathlib.Nat.{mod-lt, zero-lt-suc, div-one}
use native.Mathlib.Numerals.{add-one}
use native.Mathlib.Omega.{arith}
use borrow.Author.Tests.{ne_eqb}
use lib.Dec.{eqb}
use lib.ListN.{length, get_or, take, drop, set, length-drop, drop_of_length-le, length-set}
use lib.Seq.{sets, length-sets, drop-cons, take-suc-set, take_all, length-take-le}
use Rattle.inflight.specs.Rules.{limit}
use Rattle.inflight.specs.TableAnswer.{code_of, waits_of}
use Rattle.inflight.proofs.Laws.{waits_length, wait_at, wait_set}
use Rattle.inflight.specs.declared.Wait.{Wait}
use Rattle.inflight.specs.declared.Place.{Place}
use Rattle.inflight.specs.declared.InFlight.{InFlight}
use Rattle.journal.proofs.Stores.{sets_more}
use Rattle.journal.specs.Block.{each, bytes_of, big_endian_from, big_endian, all_zero, packed_at, wait_in, number_of, good}
use Rattle.crc32.specs.Crc.{crc_of}
use Rattle.std.specs.Prelude.{◌&&◌}
use Rattle.std.specs.List.{list_all}
use Rattle.std.specs.Int.{byte_at, bytes_high_first, from_be_bytes}
use Rattle.std.proofs.Common.{w32, w64}
use Rattle.crc32.proofs.Laws.{eight_at, eight_of}
use Rattle.journal.proofs.Bytes.{length_each}

-- ---- marks one behind the other

each_more : (f : ℕ → ℕ) (i n : ℕ) → each f i n ++ (f (i + n) ∷ []) ≡ each f i (suc n)
unfolding each
each_more f i zero = let e : i + 0 ≡ i = omega arith in ap (λ (j : ℕ). f j ∷ []) e
each_more f i (suc n) = ap (λ (s : List ℕ). f i ∷ s) ((let e : i + suc n ≡ suc i + n = omega arith in ap (λ (j : ℕ). each f (suc i) n ++ (f j ∷ [])) e) ∙ each_more f (suc i) n)

pub record Marked (f : ℕ → ℕ) (d out : List ℕ) (j : ℕ) : Type 0 where
  pub within : j ≤ limit / 4
  pub is : out ≡ sets d 8 (each f 0 j)

pub mark_none : (f : ℕ → ℕ) (d : List ℕ) → Marked f d d 0
unfolding each
mark_none f d = record { within = omega arith; is = refl }

pub mark_long : {f : ℕ → ℕ} {d out : List ℕ} {j : ℕ} → Marked f d out j → length out ≡ length d
mark_long {f} {d} {out} {j} p = ap length p.is ∙ length-sets d 8 (each f 0 j)

pub mark_more : {f : ℕ → ℕ} {d out : List ℕ} {j v : ℕ} → Marked f d out j → j < limit / 4 → v ≡ f j → Marked f d (set out (8 + j) v) (j + 1)
mark_more {f} {d} {out} {j} {v} p h e = record {
  within = omega arith;
  is = ap₂ (λ (o : List ℕ) (x : ℕ). set o (8 + j) x) p.is e
      ∙ ap (λ (n : ℕ). set (sets d 8 (each f 0 j)) (8 + n) (f j)) (sym (length_each f 0 j))
      ∙ sets_more d 8 (each f 0 j) (f j)
      ∙ ap (sets d 8) ((let g : j ≡ 0 + j = omega arith in ap (λ (n : ℕ). each f 0 j ++ (f n ∷ [])) g) ∙ each_more f 0 j ∙ ap (each f 0) (sym (add-one j)));
}

pub mark_all : {f : ℕ → ℕ} {d out : List ℕ} {j : ℕ} → Marked f d out j → limit / 4 ≤ j → out ≡ sets d 8 (each f 0 (limit / 4))
mark_all {f} {d} {out} {j} p h = p.is ∙ (let e : j ≡ limit / 4 = omega (arith, p.within) in ap (λ (n : ℕ). sets d 8 (each f 0 n)) e)

-- ---- a number in bytes, by the library

-- a number written
pub bytes_are : (k n : ℕ) → bytes_high_first k n ≡ bytes_of k n
unfolding bytes_of
bytes_are zero n = refl
bytes_are (suc k) n = ap₂ (λ (x : ℕ) (s : List ℕ). x ∷ s) (byte_is k n) (bytes_are k n)
  where
    byte_is : (k n : ℕ) → byte_at k n ≡ n / 256 ^ k % 256
    byte_is zero n = rw div-one
    byte_is (suc k) n = refl

-- a number read
eight_read : (a b c d e f g h : ℕ) → from_be_bytes w64 (a ∷ b ∷ c ∷ d ∷ e ∷ f ∷ g ∷ h ∷ []) ≡ big_endian (a ∷ b ∷ c ∷ d ∷ e ∷ f ∷ g ∷ h ∷ [])
unfolding big_endian_from
eight_read a b c d e f g h = omega arith

four_read : (a b c d : ℕ) → from_be_bytes w32 (a ∷ b ∷ c ∷ d ∷ []) ≡ big_endian (a ∷ b ∷ c ∷ d ∷ [])
unfolding big_endian_from
four_read a b c d = omega arith

pub number_read : (b : List ℕ) → length b ≡ 512
    → from_be_bytes w64 (get_or b 0 0 ∷ get_or b 1 0 ∷ get_or b 2 0 ∷ get_or b 3 0 ∷ get_or b 4 0 ∷ get_or b 5 0 ∷ get_or b 6 0 ∷ get_or b 7 0 ∷ []) ≡ number_of b
unfolding number_of eight_at
number_read b e = eight_read _ _ _ _ _ _ _ _ ∙ ap big_endian (sym (eight_of b 0 (omega (arith, e))))

pub check_read : (b : List ℕ) → length b ≡ 512
    → from_be_bytes w32 (get_or b 508 0 ∷ get_or b 509 0 ∷ get_or b 510 0 ∷ get_or b 511 0 ∷ []) ≡ big_endian (drop 508 b)
check_read b e =
    four_read _ _ _ _
    ∙ ap big_endian (sym (drop-cons b 508 0 (omega (arith, e)) ∙ ap (λ (s : List ℕ). get_or b 508 0 ∷ s)
    (drop-cons b 509 0 (omega (arith, e)) ∙ ap (λ (s : List ℕ). get_or b 509 0 ∷ s)
    (drop-cons b 510 0 (omega (arith, e)) ∙ ap (λ (s : List ℕ). get_or b 510 0 ∷ s)
    (drop-cons b 511 0 (omega (arith, e)) ∙ ap (λ (s : List ℕ). get_or b 511 0 ∷ s) (drop_of_length-le b {i = 512} (omega (arith, e))))))))

-- ---- zeros

pub zeros_all : (s : List ℕ) → list_all (λ (b : ℕ). eqb b 0) s ≡ all_zero s
unfolding all_zero
zeros_all [] = refl
zeros_all (b ∷ s) = ap (λ (x : Bool). eqb b 0 && x) (zeros_all s)

pub record Above (f : ℕ → ℕ) (i : ℕ) : Type 0 where
  pub within : i ≤ 1024
  pub rest : all_zero (each f limit (1024 - limit)) ≡ all_zero (each f i (1024 - i))

pub above_none : (f : ℕ → ℕ) → Above f limit
above_none f = record { within = omega arith; rest = refl }

each_first : (f : ℕ → ℕ) (i : ℕ) → i < 1024 → each f i (1024 - i) ≡ f i ∷ each f (i + 1) (1024 - (i + 1))
unfolding each
each_first f i h =
    (let e : 1024 - i ≡ suc (1024 - (i + 1)) = omega arith in ap (each f i) e)
    ∙ ap (λ (j : ℕ). f i ∷ each f j (1024 - (i + 1))) (sym (add-one i))

pub above_more : {f : ℕ → ℕ} {i : ℕ} → Above f i → i < 1024 → f i ≡ 0 → Above f (i + 1)
unfolding all_zero
above_more {f} {i} p h e = record { within = omega arith; rest = p.rest ∙ rw (each_first f i h, e) }

pub above_not : {f : ℕ → ℕ} {i : ℕ} → Above f i → i < 1024 → (f i ≡ 0 → ⊥) → false ≡ all_zero (each f limit (1024 - limit))
unfolding all_zero
above_not {f} {i} p h e = sym (p.rest ∙ rw (each_first f i h, ne_eqb (f i) 0 e))

pub above_all : {f : ℕ → ℕ} {i : ℕ} → Above f i → 1024 ≤ i → true ≡ all_zero (each f limit (1024 - limit))
unfolding all_zero each
above_all {f} {i} p h = sym (p.rest ∙ (let e : 1024 - i ≡ 0 = omega arith in ap (λ (n : ℕ). all_zero (each f i n)) e))

-- ---- the table, place by place

pub record Filled (f : ℕ → ℕ) (t : InFlight) (i : ℕ) : Type 0 where
  pub within : i ≤ limit
  pub long : length t.places ≡ limit
  pub is : take i (waits_of t) ≡ each f 0 i

pub filled_none : (f : ℕ → ℕ) (t : InFlight) → length t.places ≡ limit → Filled f t 0
unfolding each
filled_none f t e = record { within = omega arith; long = e; is = refl }

pub filled_more : {f : ℕ → ℕ} {t : InFlight} {i : ℕ} (w : Wait) → Filled f t i → i < limit → code_of w ≡ f i
    → Filled f record { places = set t.places i record { wait = w } } (i + 1)
filled_more {f} {t} {i} w p h e = record {
  within = omega arith;
  long = length-set t.places i record { wait = w } ∙ p.long;
  is = ap (take (i + 1)) (wait_set t i w)
      ∙ rw add-one (take-suc-set (waits_of t) i (code_of w) (omega (arith, waits_length t, p.long)))
      ∙ ap₂ (λ (s : List ℕ) (x : ℕ). s ++ (x ∷ [])) p.is e
      ∙ (let g : i ≡ 0 + i = omega arith in ap (λ (n : ℕ). each f 0 i ++ (f n ∷ [])) g) ∙ each_more f 0 i ∙ ap (each f 0) (sym (add-one i));
}

pub filled_all : {f : ℕ → ℕ} {t : InFlight} {i : ℕ} → Filled f t i → limit ≤ i → waits_of t ≡ each f 0 limit
filled_all {f} {t} {i} p h =
    sym (take_all i (waits_of t) (omega (arith, waits_length t, p.long))) ∙ p.is
    ∙ (let e : i ≡ limit = omega (arith, p.within) in ap (each f 0) e)

pub wait_small : (b : List ℕ) (i : ℕ) → wait_in b i < 4
unfolding wait_in
wait_small b i = mod-lt (get_or b (8 + i / 4) 0 / 4 ^ (i % 4)) (zero-lt-suc 3)

pub code_small : (w : Wait) → code_of w < 4
code_small Wait.Free = omega arith
code_small Wait.PubAck = omega arith
code_small Wait.PubRec = omega arith
code_small Wait.PubComp = omega arith

-- the byte of four places
pub four_places : (t : InFlight) (j : ℕ) (a b c d : Place) {x : ℕ} → 4 * j + 4 ≤ length t.places
    → x ≡ code_of (get_or t.places (4 * j) a).wait + 4 * code_of (get_or t.places (4 * j + 1) b).wait + 16 * code_of (get_or t.places (4 * j + 2) c).wait + 64 * code_of (get_or t.places (4 * j + 3) d).wait
    → x ≡ packed_at (waits_of t) j
unfolding packed_at
four_places t j a b c d h e =
    e ∙ rw (wait_at t (4 * j) a (omega arith), wait_at t (4 * j + 1) b (omega arith), wait_at t (4 * j + 2) c (omega arith), wait_at t (4 * j + 3) d (omega arith))

-- ---- parts of a block

pub part_long : (n : ℕ) (s : List ℕ) → n ≤ 512 → length s ≡ 512 → n ≡ length (take n s)
part_long n s h e = sym (length-take-le n s (omega (arith, e)))

pub rest_is_lem : (n : ℕ) (s : List ℕ) → take (length s - n) (drop n s) ≡ drop n s
rest_is_lem n s = take_all (length s - n) (drop n s) (let e : length (drop n s) ≡ length s - n = length-drop n s in omega (arith, e))

-- ---- a block is good by four tests

pub bad_check : (b : List ℕ) → eqb (crc_of (take 508 b)) (big_endian (drop 508 b)) ≡ false → false ≡ good limit b
unfolding good
bad_check b e = rw e

pub bad_zeros : (b : List ℕ) → eqb (crc_of (take 508 b)) (big_endian (drop 508 b)) ≡ true → all_zero (drop 264 (take 508 b)) ≡ false → false ≡ good limit b
unfolding good
bad_zeros b e f = rw (e, f)

pub bad_number : (b : List ℕ) → eqb (crc_of (take 508 b)) (big_endian (drop 508 b)) ≡ true → all_zero (drop 264 (take 508 b)) ≡ true → number_of b ≡ 0 → false ≡ good limit b
unfolding good
bad_number b e f g = rw (e, f, g)

pub good_above : (b : List ℕ) {r : Bool} → eqb (crc_of (take 508 b)) (big_endian (drop 508 b)) ≡ true → all_zero (drop 264 (take 508 b)) ≡ true → (number_of b ≡ 0 → ⊥)
    → r ≡ all_zero (each (wait_in b) limit (1024 - limit)) → r ≡ good limit b
unfolding good
good_above b e f g h = h ∙ rw (e, f, ne_eqb (number_of b) 0 g)

pub pos_of : (n : ℕ) → (n ≡ 0 → ⊥) → 0 < n
pos_of zero h = absurd (h refl)
pos_of (suc n) h = omega arith
