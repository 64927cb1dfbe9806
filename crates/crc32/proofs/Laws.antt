-- Shifts are linear, so what bytes do to the register is what each does alone, put together; half a byte at a time, by the tables.
-- Assumes nothing.
use mathlib.Core.Path.{◌≡◌, refl, sym, ap, ap₂, ◌∙◌, subst}
use mathlib.Core.List.{List, [], ◌∷◌, ◌++◌}
use Prim.Native.Nat.{ℕ, zero, suc, ◌+◌, ◌*◌, ◌/◌, ◌%◌, ◌^◌, ◌<◌, ◌≤◌}
use native.Mathlib.Nat.{mod-lt, zero-lt-suc, not-suc-le-zero, div-add-mod', pow-suc}
use native.Mathlib.Omega.{arith}
use lib.Arith.{bin_ind, digits_div, digits_mod}
use lib.Bits.{bit_and, and_mask, mask_lt, bit_xor, xor_step, xor_comm, xor_zero_l, xor_zero_r, xor_shr, xor_mod, xor_shifted, differ, shifted_half, shifted_even, xor_lt}
use native.Mathlib.Numerals.{add-one}
use lib.ListN.{length, get_or, take, drop, drop_of_length-le, take-append-drop}
use lib.Seq.{drop-cons, drop-drop}
use Rattle.std.specs.Simd.{first_chunks}
use Rattle.crc32.specs.Crc.{shift, shifts, byte_in, bytes_in, crc_of, polynomial, all_ones}
use Rattle.crc32.specs.Tables.{Tables}

-- ---- exclusive or is associative

differ_lt : (a b : ℕ) → a < 2 → b < 2 → differ a b < 2
differ_lt zero b g h = h
differ_lt (suc zero) zero g h = g
differ_lt (suc zero) (suc b) g h = omega arith
differ_lt (suc (suc a)) b g h = omega arith

differ_assoc : (a b c : ℕ) → a < 2 → b < 2 → c < 2 → differ (differ a b) c ≡ differ a (differ b c)
differ_assoc zero b c f g h = refl
differ_assoc (suc zero) zero c f g h = refl
differ_assoc (suc zero) (suc zero) zero f g h = refl
differ_assoc (suc zero) (suc zero) (suc zero) f g h = refl
differ_assoc (suc zero) (suc zero) (suc (suc c)) f g h = omega arith
differ_assoc (suc zero) (suc (suc b)) c f g h = omega arith
differ_assoc (suc (suc a)) b c f g h = omega arith

two : (a : ℕ) → a % 2 < 2
two a = mod-lt a (zero-lt-suc 1)

xor_half : (a b : ℕ) → bit_xor a b / 2 ≡ bit_xor (a / 2) (b / 2)
xor_half a b =
    ap (λ (n : ℕ). n / 2) (xor_step a b) ∙ digits_div (bit_xor (a / 2) (b / 2)) (differ_lt (a % 2) (b % 2) (two a) (two b))

xor_odd : (a b : ℕ) → bit_xor a b % 2 ≡ differ (a % 2) (b % 2)
xor_odd a b =
    ap (λ (n : ℕ). n % 2) (xor_step a b) ∙ digits_mod (bit_xor (a / 2) (b / 2)) (differ_lt (a % 2) (b % 2) (two a) (two b))

join : {r s c d : ℕ} → r ≡ s → c ≡ d → r * 2 + c ≡ s * 2 + d
join p q = ap₂ (λ (x y : ℕ). x * 2 + y) p q

pub xor_assoc : (a b c : ℕ) → bit_xor (bit_xor a b) c ≡ bit_xor a (bit_xor b c)
xor_assoc =
    bin_ind (λ (a : ℕ). (b c : ℕ) → bit_xor (bit_xor a b) c ≡ bit_xor a (bit_xor b c)) (λ b c. refl)
    (λ a ih b c.
    xor_step (bit_xor a b) c
    ∙ join (ap (λ (n : ℕ). bit_xor n (c / 2)) (xor_half a b) ∙ ih (b / 2) (c / 2) ∙ ap (λ (n : ℕ). bit_xor (a / 2) n) (sym (xor_half b c)))
    (ap (λ (n : ℕ). differ n (c % 2)) (xor_odd a b) ∙ differ_assoc (a % 2) (b % 2) (c % 2) (two a) (two b) (two c)
    ∙ ap (λ (n : ℕ). differ (a % 2) n) (sym (xor_odd b c)))
    ∙ sym (xor_step a (bit_xor b c)))

-- ---- the high part of the register moves down unchanged

shift_high : (n h x : ℕ) → shift (bit_xor (h * 2 ^ suc n) x) ≡ bit_xor (h * 2 ^ n) (shift x)
unfolding shift
shift_high n h x =
    ap₂ (λ (a b : ℕ). bit_xor a (b * polynomial))
    (xor_half (h * 2 ^ suc n) x ∙ ap (λ (m : ℕ). bit_xor m (x / 2)) (shifted_half h n))
    (xor_odd (h * 2 ^ suc n) x ∙ ap (λ (m : ℕ). differ m (x % 2)) (shifted_even h n))
    ∙ xor_assoc (h * 2 ^ n) (x / 2) (x % 2 * polynomial)

shifts_high : (n h x : ℕ) → shifts n (bit_xor (h * 2 ^ n) x) ≡ bit_xor h (shifts n x)
unfolding shifts
shifts_high zero h x = let e : h * 2 ^ 0 ≡ h = omega arith in ap (λ (m : ℕ). bit_xor m x) e
shifts_high (suc n) h x = ap (shifts n) (shift_high n h x) ∙ shifts_high n h (shift x)

-- ---- shifts are linear

interchange : (a b c d : ℕ) → bit_xor (bit_xor a b) (bit_xor c d) ≡ bit_xor (bit_xor a c) (bit_xor b d)
interchange a b c d =
    xor_assoc a b (bit_xor c d)
    ∙ ap (bit_xor a) (sym (xor_assoc b c d) ∙ ap (λ (n : ℕ). bit_xor n d) (xor_comm b c) ∙ xor_assoc c b d)
    ∙ sym (xor_assoc a c (bit_xor b d))

no_bit : (x : ℕ) → suc (suc x) < 2 → ⊥
no_bit x h = omega arith

-- two bits that fall out add the polynomial once, twice or not at all
falls : (x y : ℕ) → x < 2 → y < 2 → differ x y * polynomial ≡ bit_xor (x * polynomial) (y * polynomial)
falls zero y g h = (let e : zero * polynomial ≡ 0 = omega arith in sym (ap (λ (n : ℕ). bit_xor n (y * polynomial)) e ∙ xor_zero_l (y * polynomial)))
falls (suc zero) zero g h = refl
falls (suc zero) (suc zero) g h = refl
falls (suc zero) (suc (suc y)) g h = absurd (no_bit y h)
falls (suc (suc x)) y g h = absurd (no_bit x g)

shift_linear : (a b : ℕ) → shift (bit_xor a b) ≡ bit_xor (shift a) (shift b)
unfolding shift
shift_linear a b =
    ap₂ (λ (m n : ℕ). bit_xor m (n * polynomial)) (xor_half a b) (xor_odd a b)
    ∙ ap (bit_xor (bit_xor (a / 2) (b / 2))) (falls (a % 2) (b % 2) (two a) (two b))
    ∙ interchange (a / 2) (b / 2) (a % 2 * polynomial) (b % 2 * polynomial)

shifts_linear : (n a b : ℕ) → shifts n (bit_xor a b) ≡ bit_xor (shifts n a) (shifts n b)
unfolding shifts
shifts_linear zero a b = refl
shifts_linear (suc n) a b = ap (shifts n) (shift_linear a b) ∙ shifts_linear n (shift a) (shift b)

shifts_add : (m n r : ℕ) → shifts (m + n) r ≡ shifts n (shifts m r)
unfolding shifts
shifts_add zero n r = let e : 0 + n ≡ n = omega arith in ap (λ (k : ℕ). shifts k r) e
shifts_add (suc m) n r = (let e : suc m + n ≡ suc (m + n) = omega arith in ap (λ (k : ℕ). shifts k r) e) ∙ shifts_add m n (shift r)

pow_pos : (n : ℕ) → 0 < 2 ^ n
pow_pos zero = omega arith
pow_pos (suc n) = let e : 2 ^ suc n ≡ 2 ^ n * 2 = pow-suc 2 n in let p : 0 < 2 ^ n = pow_pos n in omega (arith, e, p)

-- n shifts: the upper bits, and the n shifts of the low n bits
low_and_high : (n x : ℕ) → shifts n x ≡ bit_xor (x / 2 ^ n) (shifts n (x % 2 ^ n))
low_and_high n x =
    ap (shifts n) (sym (div-add-mod' x (2 ^ n)) ∙ sym (xor_shifted (x / 2 ^ n) n (x % 2 ^ n) (mod-lt x (pow_pos n))))
    ∙ shifts_high n (x / 2 ^ n) (x % 2 ^ n)

-- the two halves of a byte go in apart
halves : (m x : ℕ) → shifts (4 + m) x ≡ bit_xor (shifts m (x / 16)) (shifts (4 + m) (x % 16))
halves m x =
    shifts_add 4 m x ∙ ap (shifts m) (low_and_high 4 x) ∙ shifts_linear m (x / 16) (shifts 4 (x % 16))
    ∙ ap (bit_xor (shifts m (x / 16))) (sym (shifts_add 4 m (x % 16)))

-- ---- many bytes at once

no_shifts : (q : ℕ) → shifts (8 * 0) q ≡ q
unfolding shifts
no_shifts q = refl

byte_linear : (p q b : ℕ) → byte_in (bit_xor p q) b ≡ bit_xor (byte_in p b) (shifts 8 q)
unfolding byte_in
byte_linear p q b =
    ap (shifts 8) (xor_assoc p q b ∙ ap (bit_xor p) (xor_comm q b) ∙ sym (xor_assoc p b q)) ∙ shifts_linear 8 (bit_xor p b) q

-- what stood in the register besides goes through alone
bytes_linear : (p q : ℕ) (s : List ℕ) → bytes_in (bit_xor p q) s ≡ bit_xor (bytes_in p s) (shifts (8 * length s) q)
unfolding bytes_in
bytes_linear p q [] = ap (bit_xor p) (sym (no_shifts q))
bytes_linear p q (b ∷ s) =
    ap (λ (r : ℕ). bytes_in r s) (byte_linear p q b) ∙ bytes_linear (byte_in p b) (shifts 8 q) s
    ∙ ap (bit_xor (bytes_in (byte_in p b) s)) (sym (shifts_add 8 (8 * length s) q) ∙ (let e : 8 + 8 * length s ≡ 8 * suc (length s) = omega arith in ap (λ (n : ℕ). shifts n q) e))

-- the first byte of the register meets the first byte of the input, and so on: each goes in by the number of bytes behind it
unfoldable pub sliced : ℕ → List ℕ → ℕ
sliced r [] = r
sliced r (b ∷ s) = bit_xor (sliced (r / 256) s) (shifts (8 * length s + 8) (bit_xor (r % 256) b))

pub data Bytes : List ℕ → Type 0 where
  none : Bytes []
  more : {b : ℕ} {s : List ℕ} → b < 256 → Bytes s → Bytes (b ∷ s)

byte_in_lem : (r b : ℕ) → b < 256 → byte_in r b ≡ bit_xor (r / 256) (shifts 8 (bit_xor (r % 256) b))
unfolding byte_in
byte_in_lem r b h =
    low_and_high 8 (bit_xor r b)
    ∙ ap₂ (λ (m n : ℕ). bit_xor m (shifts 8 n))
    (xor_shr r b 8 ∙ ap (bit_xor (r / 256)) small ∙ xor_zero_r (r / 256))
    (xor_mod r b 8 ∙ ap (bit_xor (r % 256)) same)
  where
    small : b / 256 ≡ 0
    small = omega arith

    same : b % 256 ≡ b
    same = omega arith

pub by_slices : (r : ℕ) {s : List ℕ} → Bytes s → bytes_in r s ≡ sliced r s
unfolding bytes_in sliced
by_slices r Bytes.none = refl
by_slices r (Bytes.more {b} {s} h v) =
    ap (λ (n : ℕ). bytes_in n s) (byte_in_lem r b h)
    ∙ bytes_linear (r / 256) (shifts 8 (bit_xor (r % 256) b)) s
    ∙ ap₂ (λ (m n : ℕ). bit_xor m n) (by_slices (r / 256) v)
    (sym (shifts_add 8 (8 * length s) (bit_xor (r % 256) b))
    ∙ (let e : 8 + 8 * length s ≡ 8 * length s + 8 = omega arith in ap (λ (n : ℕ). shifts n (bit_xor (r % 256) b)) e))

-- the register after one byte
pub one_byte : (r b x : ℕ) → b < 256 → x ≡ shifts (8 * 0 + 8) (bit_xor (r % 256) b) → bit_xor (r / 256) x ≡ byte_in r b
one_byte r b x h e = ap (bit_xor (r / 256)) e ∙ sym (byte_in_lem r b h)

-- ---- the tables

unfoldable pub rows : ℕ → ℕ → List ℕ
rows zero i = []
rows (suc n) i = shifts (4 * (i / 16) + 4) (i % 16) ∷ rows n (suc i)

length_rows : (n i : ℕ) → length (rows n i) ≡ n
unfolding rows
length_rows zero i = refl
length_rows (suc n) i = ap suc (length_rows n (suc i))

row_at_lem : (n i k : ℕ) → k < n → get_or (rows n i) k 0 ≡ shifts (4 * ((i + k) / 16) + 4) ((i + k) % 16)
unfolding rows
row_at_lem zero i k h = absurd (not-suc-le-zero h)
row_at_lem (suc n) i zero h = let e : i ≡ i + 0 = omega arith in ap (λ (m : ℕ). shifts (4 * (m / 16) + 4) (m % 16)) e
row_at_lem (suc n) i (suc k) h =
    let e : suc i + k ≡ i + suc k = omega arith in
    row_at_lem n (suc i) k (omega arith) ∙ ap (λ (m : ℕ). shifts (4 * (m / 16) + 4) (m % 16)) e

pub rows_right : Tables (rows 256 0)
rows_right = record { long = length_rows 256 0; rule = rule }
  where
    rule : (j i : ℕ) → j < 16 → i < 16 → get_or (rows 256 0) (16 * j + i) 0 ≡ shifts (4 * j + 4) i
    rule j i g h =
        row_at_lem 256 0 (16 * j + i) (omega arith)
        ∙ ap₂ (λ (m n : ℕ). shifts (4 * m + 4) n)
        (let e : (0 + (16 * j + i)) / 16 ≡ j = omega arith in e) (let e : (0 + (16 * j + i)) % 16 ≡ i = omega arith in e)

-- the two entries of a byte
pub by_tables : {t : List ℕ} (k r b x : ℕ) → Tables t → k < 8 → b < 256 → x ≡ bit_and (bit_xor r b) 255
    → bit_xor (get_or t (32 * k + x / 16) 0) (get_or t (32 * k + 16 + x % 16) 0) ≡ shifts (8 * k + 8) (bit_xor (r % 256) b)
by_tables {t} k r b x tables h g e =
    ap₂ (λ (m n : ℕ). bit_xor m n)
    ((let q : 32 * k + x / 16 ≡ 16 * (2 * k) + x / 16 = omega arith in ap (λ (i : ℕ). get_or t i 0) q)
    ∙ tables.rule (2 * k) (x / 16) (omega arith) (omega (arith, small))
    ∙ (let q : 4 * (2 * k) + 4 ≡ 8 * k + 4 = omega arith in ap (λ (n : ℕ). shifts n (x / 16)) q))
    ((let q : 32 * k + 16 + x % 16 ≡ 16 * (2 * k + 1) + x % 16 = omega arith in ap (λ (i : ℕ). get_or t i 0) q)
    ∙ tables.rule (2 * k + 1) (x % 16) (omega arith) (omega arith)
    ∙ (let q : 4 * (2 * k + 1) + 4 ≡ 4 + (8 * k + 4) = omega arith in ap (λ (n : ℕ). shifts n (x % 16)) q))
    ∙ sym (halves (8 * k + 4) x)
    ∙ ap₂ (λ (m n : ℕ). shifts m n) (let q : 4 + (8 * k + 4) ≡ 8 * k + 8 = omega arith in q) low
  where
    small : x < 256
    small = subst (λ (n : ℕ). n < 256) (sym e) (mask_lt (bit_xor r b) 8)

    same : b % 256 ≡ b
    same = omega arith

    low : x ≡ bit_xor (r % 256) b
    low = e ∙ and_mask (bit_xor r b) 8 ∙ xor_mod r b 8 ∙ ap (bit_xor (r % 256)) same

-- ---- the loops go by what is left

-- with r in the register at index i, what is left decides
pub record Passed (s : List ℕ) (start r i : ℕ) : Type 0 where
  pub within : i ≤ length s
  pub decides : start ≡ bytes_in r (drop i s)

pub begin : (s : List ℕ) (r i : ℕ) → i ≤ length s → Passed s (bytes_in r (drop i s)) r i
begin s r i h = record { within = h; decides = refl }

pub one_more_lem : {s : List ℕ} {start r x i : ℕ} → Passed s start r i → x ≡ byte_in r (get_or s i 0) → i < length s → Passed s start x (i + 1)
unfolding bytes_in
one_more_lem {s} {start} {r} {x} {i} p e h = record { within = omega arith; decides = p.decides ∙ rw (add-one, drop-cons s i 0, e) }

bytes_append : (r : ℕ) (s t : List ℕ) → bytes_in r (s ++ t) ≡ bytes_in (bytes_in r s) t
unfolding bytes_in
bytes_append r [] t = refl
bytes_append r (b ∷ s) t = bytes_append (byte_in r b) s t

pub eight_more : {s : List ℕ} {start r x i : ℕ} → Passed s start r i → x ≡ bytes_in r (take 8 (drop i s)) → i + 8 ≤ length s → Passed s start x (i + 8)
eight_more {s} {start} {r} {x} {i} p e h = record {
  within = h;
  decides = p.decides
      ∙ ap (bytes_in r) (sym (take-append-drop 8 (drop i s)))
      ∙ bytes_append r (take 8 (drop i s)) (drop 8 (drop i s))
      ∙ ap₂ (λ (n : ℕ) (t : List ℕ). bytes_in n t) (sym e) (drop-drop 8 i s);
}

-- chunk i of eight bytes
pub chunk_at : (k : ℕ) (s : List ℕ) (i : ℕ) (d : List ℕ) → i < k → get_or (first_chunks 8 k s) i d ≡ take 8 (drop (8 * i) s)
chunk_at zero s i d h = absurd (not-suc-le-zero h)
chunk_at (suc k) s zero d h = refl
chunk_at (suc k) s (suc i) d h =
    chunk_at k (drop 8 s) i d (omega arith)
    ∙ ap (take 8) (drop-drop (8 * i) 8 s ∙ (let e : 8 + 8 * i ≡ 8 * suc i = omega arith in ap (λ (n : ℕ). drop n s) e))

-- the chunk at i goes in
pub chunk_more : {s : List ℕ} {cs : List (List ℕ)} {start r x i : ℕ} (d : List ℕ) → Passed s start r (8 * i) → cs ≡ first_chunks 8 (length s / 8) s → i < length s / 8
    → x ≡ bytes_in r (get_or cs i d) → Passed s start x (8 * (i + 1))
chunk_more {s} {cs} {start} {r} {x} {i} d p q h e =
    let g : 8 * i + 8 ≡ 8 * (i + 1) = omega arith in
    subst (λ (n : ℕ). Passed s start x n) g
    (eight_more p (e ∙ ap (λ (ds : List (List ℕ)). bytes_in r (get_or ds i d)) q ∙ ap (bytes_in r) (chunk_at (length s / 8) s i d h)) (omega arith))

-- all chunks are in, and then what is behind them
pub chunks_passed : {s t : List ℕ} {start r x i k : ℕ} → Passed s start r (8 * i) → k ≡ length s / 8 → t ≡ drop (length s / 8 * 8) s → i ≤ k → k ≤ i → x ≡ bytes_in r t → x ≡ start
chunks_passed {s} {t} {start} {r} {x} {i} {k} p q e g h f =
    let u : length s / 8 * 8 ≡ 8 * i = omega (arith, q, g, h) in
    f ∙ ap (bytes_in r) (e ∙ ap (λ (n : ℕ). drop n s) u) ∙ sym p.decides

pub all_passed : {s : List ℕ} {start r i : ℕ} → Passed s start r i → length s ≤ i → r ≡ start
unfolding bytes_in
all_passed {s} {start} {r} {i} p h = sym (p.decides ∙ rw (drop_of_length-le s h))

-- ---- eight bytes of a slice

unfoldable pub eight_at : List ℕ → ℕ → List ℕ
eight_at s i =
    get_or s i 0 ∷ get_or s (i + 1) 0 ∷ get_or s (i + 2) 0 ∷ get_or s (i + 3) 0
    ∷ get_or s (i + 4) 0 ∷ get_or s (i + 5) 0 ∷ get_or s (i + 6) 0 ∷ get_or s (i + 7) 0 ∷ []

next_of : (n : ℕ) (s : List ℕ) (i : ℕ) → i < length s → take (suc n) (drop i s) ≡ get_or s i 0 ∷ take n (drop (i + 1) s)
next_of n s i h = rw (add-one, drop-cons s i 0)

pub eight_of : (s : List ℕ) (i : ℕ) → i + 8 ≤ length s → take 8 (drop i s) ≡ eight_at s i
unfolding eight_at
eight_of s i h =
    next_of 7 s i (omega arith)
    ∙ ap (λ (t : List ℕ). get_or s i 0 ∷ t) (go 6 1 (omega arith)
    ∙ ap (λ (t : List ℕ). get_or s (i + 1) 0 ∷ t) (go 5 2 (omega arith)
    ∙ ap (λ (t : List ℕ). get_or s (i + 2) 0 ∷ t) (go 4 3 (omega arith)
    ∙ ap (λ (t : List ℕ). get_or s (i + 3) 0 ∷ t) (go 3 4 (omega arith)
    ∙ ap (λ (t : List ℕ). get_or s (i + 4) 0 ∷ t) (go 2 5 (omega arith)
    ∙ ap (λ (t : List ℕ). get_or s (i + 5) 0 ∷ t) (go 1 6 (omega arith)
    ∙ ap (λ (t : List ℕ). get_or s (i + 6) 0 ∷ t) (go 0 7 (omega arith))))))))
  where
    go : (n j : ℕ) → i + j < length s → take (suc n) (drop (i + j) s) ≡ get_or s (i + j) 0 ∷ take n (drop (i + suc j) s)
    go n j g = next_of n s (i + j) g ∙ (let e : i + j + 1 ≡ i + suc j = omega arith in ap (λ (m : ℕ). get_or s (i + j) 0 ∷ take n (drop m s)) e)

-- the eight passes, the last byte first
pub eight_passes : (r : ℕ) (s : List ℕ) (i : ℕ) {a b c d e f g h : ℕ} → r < 2 ^ 32 → ((j : ℕ) → get_or s j 0 < 256) → i + 8 ≤ length s
    → a ≡ shifts (8 * 0 + 8) (bit_xor (0 % 256) (get_or s (i + 7) 0)) → b ≡ shifts (8 * 1 + 8) (bit_xor (0 % 256) (get_or s (i + 6) 0))
    → c ≡ shifts (8 * 2 + 8) (bit_xor (0 % 256) (get_or s (i + 5) 0)) → d ≡ shifts (8 * 3 + 8) (bit_xor (0 % 256) (get_or s (i + 4) 0))
    → e ≡ shifts (8 * 4 + 8) (bit_xor (r / 256 / 256 / 256 % 256) (get_or s (i + 3) 0)) → f ≡ shifts (8 * 5 + 8) (bit_xor (r / 256 / 256 % 256) (get_or s (i + 2) 0))
    → g ≡ shifts (8 * 6 + 8) (bit_xor (r / 256 % 256) (get_or s (i + 1) 0)) → h ≡ shifts (8 * 7 + 8) (bit_xor (r % 256) (get_or s i 0))
    → bit_xor (bit_xor (bit_xor (bit_xor (bit_xor (bit_xor (bit_xor a b) c) d) e) f) g) h ≡ bytes_in r (take 8 (drop i s))
unfolding eight_at sliced
eight_passes r s i {a} {b} {c} {d} {e} {f} {g} {h} low bytes long ea eb ec ed ee ef eg eh =
    sym
    (ap (bytes_in r) (eight_of s i long)
    ∙ by_slices r (Bytes.more (bytes i) (Bytes.more (bytes (i + 1)) (Bytes.more (bytes (i + 2)) (Bytes.more (bytes (i + 3))
    (Bytes.more (bytes (i + 4)) (Bytes.more (bytes (i + 5)) (Bytes.more (bytes (i + 6)) (Bytes.more (bytes (i + 7)) Bytes.none))))))))
    ∙ rw (top, ea, eb, ec, ed, ee, ef, eg, eh, xor_zero_l (shifts (8 * 0 + 8) (bit_xor (0 % 256) (get_or s (i + 7) 0)))))
  where
    top : r / 256 / 256 / 256 / 256 ≡ 0
    top = omega arith

-- ---- a CRC has 32 bits

shift_lt : (r : ℕ) → r < 2 ^ 32 → shift r < 2 ^ 32
unfolding shift
shift_lt r h = xor_lt 32 (r / 2) (r % 2 * polynomial) (omega arith) (omega arith)

shifts_lt : (n r : ℕ) → r < 2 ^ 32 → shifts n r < 2 ^ 32
unfolding shifts
shifts_lt zero r h = h
shifts_lt (suc n) r h = shifts_lt n (shift r) (shift_lt r h)

byte_in_lt : (r b : ℕ) → r < 2 ^ 32 → b < 256 → byte_in r b < 2 ^ 32
unfolding byte_in
byte_in_lt r b g h = shifts_lt 8 (bit_xor r b) (xor_lt 32 r b g (omega arith))

bytes_in_lt : (r : ℕ) (s : List ℕ) → r < 2 ^ 32 → ((i : ℕ) → get_or s i 0 < 256) → bytes_in r s < 2 ^ 32
unfolding bytes_in
bytes_in_lt r [] g h = g
bytes_in_lt r (b ∷ s) g h = bytes_in_lt (byte_in r b) s (byte_in_lt r b g (h 0)) (λ i. h (suc i))

pub crc_lt : (s : List ℕ) → ((i : ℕ) → get_or s i 0 < 256) → crc_of s < 2 ^ 32
unfolding crc_of
crc_lt s h = xor_lt 32 (bytes_in all_ones s) all_ones (bytes_in_lt all_ones s (omega arith) h) (omega arith)
