-- The block that a save stores is good, and says the number and the table that were stored.
-- Assumes nothing.
use mathlib.Core.Path.{◌≡◌, refl, sym, ap, ap₂, ◌∙◌, subst}
use mathlib.Core.Bool.{true}
use mathlib.Core.List.{List, [], ◌∷◌, ◌++◌, append_assoc, append-nil}
use Prim.Native.Nat.{ℕ, zero, suc, ◌+◌, ◌*◌, ◌-◌, ◌/◌, ◌%◌, ◌^◌, ◌<◌, ◌≤◌}
use native.Mathlib.Omega.{arith}
use borrow.Author.Tests.{eq-eqb, ne_eqb}
use lib.ListN.{length, get_or, take, drop, replicate, length-append, length-replicate, replicate-append-replicate, drop_of_length-le, get_or-append, get_or-eq_default}
use lib.Seq.{sets, sets-eq, take_at, drop_at, drop-append-add, get_or-append-add, ext_get_or}
use Rattle.crc32.specs.Crc.{crc_of}
use Rattle.crc32.proofs.Laws.{crc_lt}
use Rattle.journal.specs.Block.{each, bytes_of, all_zero, packed_at, body_of, block_of, number_of, wait_in, table_in, good}
use Rattle.journal.proofs.Bytes.{length_bytes_of, bytes_of_small, big_endian_bytes_of, length_each, get_d_each}
use Rattle.journal.proofs.Limits.{each_add}

abbrev marks : List ℕ → List ℕ
marks t = each (packed_at t) 0 256

abbrev zeros : List ℕ
zeros = replicate 244 0

-- ---- lengths and places

length_marks : (t : List ℕ) → length (marks t) ≡ 256
length_marks t = length_each (packed_at t) 0 256

pub length_body : (n : ℕ) (t : List ℕ) → length (body_of n t) ≡ 508
unfolding body_of
length_body n t =
    length-append (bytes_of 8 n) (marks t ++ zeros)
    ∙ ap₂ (λ (x y : ℕ). x + y) (length_bytes_of 8 n)
    (length-append (marks t) zeros ∙ ap₂ (λ (x y : ℕ). x + y) (length_marks t) (length-replicate {A = ℕ} 244 0))

pub length_block : (n : ℕ) (t : List ℕ) → length (block_of n t) ≡ 512
unfolding block_of
length_block n t =
    length-append (body_of n t) (bytes_of 4 (crc_of (body_of n t)))
    ∙ ap₂ (λ (x y : ℕ). x + y) (length_body n t) (length_bytes_of 4 (crc_of (body_of n t)))

body_is : (n : ℕ) (t : List ℕ) → take 508 (block_of n t) ≡ body_of n t
unfolding block_of
body_is n t = take_at (body_of n t) (bytes_of 4 (crc_of (body_of n t))) 508 (length_body n t)

check_is : (n : ℕ) (t : List ℕ) → drop 508 (block_of n t) ≡ bytes_of 4 (crc_of (body_of n t))
unfolding block_of
check_is n t = drop_at (body_of n t) (bytes_of 4 (crc_of (body_of n t))) 508 (length_body n t)

-- what stands behind the number
behind : ℕ → List ℕ → List ℕ
behind n t = (marks t ++ zeros) ++ bytes_of 4 (crc_of (body_of n t))

block_split : (n : ℕ) (t : List ℕ) → block_of n t ≡ bytes_of 8 n ++ behind n t
unfolding block_of body_of behind
block_split n t = append_assoc (bytes_of 8 n) (marks t ++ zeros) (bytes_of 4 (crc_of (body_of n t)))

pub number_is_lem : (n : ℕ) (t : List ℕ) → n < 2 ^ 64 → number_of (block_of n t) ≡ n
unfolding number_of
number_is_lem n t h = rw (block_split n t, take_at (bytes_of 8 n) (behind n t) 8 (length_bytes_of 8 n)) (big_endian_bytes_of 8 n h)

zeros_are : (n : ℕ) (t : List ℕ) → drop 264 (body_of n t) ≡ zeros
unfolding body_of
zeros_are n t =
    ap (drop 264) (sym (append_assoc (bytes_of 8 n) (marks t) zeros))
    ∙ drop_at (bytes_of 8 n ++ marks t) zeros 264
    (length-append (bytes_of 8 n) (marks t) ∙ ap₂ (λ (x y : ℕ). x + y) (length_bytes_of 8 n) (length_marks t))

pub all_zero_replicate : (n : ℕ) → all_zero (replicate n 0) ≡ true
unfolding all_zero
all_zero_replicate zero = refl
all_zero_replicate (suc n) = all_zero_replicate n

-- ---- bytes

packed_small : (t : List ℕ) → ((i : ℕ) → get_or t i 0 < 4) → (j : ℕ) → packed_at t j < 256
unfolding packed_at
packed_small t h j = omega (arith, h (4 * j), h (4 * j + 1), h (4 * j + 2), h (4 * j + 3))

append_small : (s t : List ℕ) → ((i : ℕ) → get_or s i 0 < 256) → ((i : ℕ) → get_or t i 0 < 256) → (i : ℕ) → get_or (s ++ t) i 0 < 256
append_small [] t g h i = h i
append_small (x ∷ s) t g h zero = g zero
append_small (x ∷ s) t g h (suc i) = append_small s t (λ j. g (suc j)) h i

each_small : (f : ℕ → ℕ) → ((i : ℕ) → f i < 256) → (i n k : ℕ) → get_or (each f i n) k 0 < 256
unfolding each
each_small f h i zero k = omega arith
each_small f h i (suc n) zero = h i
each_small f h i (suc n) (suc k) = each_small f h (suc i) n k

zeros_small : (n k : ℕ) → get_or (replicate n 0) k 0 < 256
zeros_small zero k = omega arith
zeros_small (suc n) zero = omega arith
zeros_small (suc n) (suc k) = zeros_small n k

pub body_small : (n : ℕ) (t : List ℕ) → ((i : ℕ) → get_or t i 0 < 4) → (i : ℕ) → get_or (body_of n t) i 0 < 256
unfolding body_of
body_small n t h =
    append_small (bytes_of 8 n) (marks t ++ zeros) (bytes_of_small 8 n)
    (append_small (marks t) zeros (each_small (packed_at t) (packed_small t h) 0 256) (zeros_small 244))

-- ---- the two bits of an identifier

abbrev pick : ℕ → ℕ → ℕ → ℕ → ℕ → ℕ
pick zero a b c d = a
pick (suc zero) a b c d = b
pick (suc (suc zero)) a b c d = c
pick (suc (suc (suc m))) a b c d = d

two_bits : (m a b c d : ℕ) → m < 4 → a < 4 → b < 4 → c < 4 → d < 4 → (a + 4 * b + 16 * c + 64 * d) / 4 ^ m % 4 ≡ pick m a b c d
two_bits zero a b c d h ha hb hc hd = omega arith
two_bits (suc zero) a b c d h ha hb hc hd = omega arith
two_bits (suc (suc zero)) a b c d h ha hb hc hd = omega arith
two_bits (suc (suc (suc zero))) a b c d h ha hb hc hd = omega arith
two_bits (suc (suc (suc (suc m)))) a b c d h ha hb hc hd = omega arith

picked : (t : List ℕ) (j m : ℕ) → m < 4 → pick m (get_or t (4 * j) 0) (get_or t (4 * j + 1) 0) (get_or t (4 * j + 2) 0) (get_or t (4 * j + 3) 0) ≡ get_or t (4 * j + m) 0
picked t j zero h = let e : 4 * j ≡ 4 * j + 0 = omega arith in ap (λ (i : ℕ). get_or t i 0) e
picked t j (suc zero) h = refl
picked t j (suc (suc zero)) h = refl
picked t j (suc (suc (suc zero))) h = refl
picked t j (suc (suc (suc (suc m)))) h = omega arith

in_marks : (n : ℕ) (t : List ℕ) (j : ℕ) → j < 256 → get_or (behind n t) j 0 ≡ packed_at t j
unfolding behind
in_marks n t j h =
    get_or-append (marks t ++ zeros) (bytes_of 4 (crc_of (body_of n t))) 0 j
    (let e : length (marks t ++ zeros) ≡ length (marks t) + length zeros = length-append (marks t) zeros in omega (arith, e, length_marks t))
    ∙ get_or-append (marks t) zeros 0 j (let e : length (marks t) ≡ 256 = length_marks t in omega (arith, e))
    ∙ get_d_each (packed_at t) 0 256 j h
    ∙ (let e : 0 + j ≡ j = omega arith in ap (packed_at t) e)

byte_is : (n : ℕ) (t : List ℕ) (j : ℕ) → j < 256 → get_or (block_of n t) (8 + j) 0 ≡ packed_at t j
byte_is n t j h =
    ap (λ (b : List ℕ). get_or b (8 + j) 0) (block_split n t)
    ∙ subst (λ (k : ℕ). get_or (bytes_of 8 n ++ behind n t) (k + j) 0 ≡ packed_at t j) (length_bytes_of 8 n)
    (get_or-append-add (bytes_of 8 n) (behind n t) j 0 ∙ in_marks n t j h)

pub wait_is : (n : ℕ) (t : List ℕ) → ((i : ℕ) → get_or t i 0 < 4) → (i : ℕ) → i < 1024 → wait_in (block_of n t) i ≡ get_or t i 0
unfolding wait_in packed_at
wait_is n t s i h =
    ap (λ (x : ℕ). x / 4 ^ (i % 4) % 4) (byte_is n t (i / 4) (omega arith))
    ∙ two_bits (i % 4) _ _ _ _ (omega arith) (s (4 * (i / 4))) (s (4 * (i / 4) + 1)) (s (4 * (i / 4) + 2)) (s (4 * (i / 4) + 3))
    ∙ picked t (i / 4) (i % 4) (omega arith)
    ∙ (let e : 4 * (i / 4) + i % 4 ≡ i = omega arith in ap (λ (k : ℕ). get_or t k 0) e)

-- ---- good

-- where f is 0 from i on, n times
each_zero : (f : ℕ → ℕ) (i n : ℕ) → ((k : ℕ) → i ≤ k → k < i + n → f k ≡ 0) → all_zero (each f i n) ≡ true
unfolding each all_zero
each_zero f i zero h = refl
each_zero f i (suc n) h = rw (h i (omega arith) (omega arith)) (each_zero f (suc i) n (λ k g l. h k (omega arith) (omega arith)))

pub block_good : (r n : ℕ) (t : List ℕ) → 0 < n → n < 2 ^ 64 → length t ≤ r → r ≤ 1024 → ((i : ℕ) → get_or t i 0 < 4) → good r (block_of n t) ≡ true
unfolding good
block_good r n t p h l m s =
    rw (
      body_is n t,
      check_is n t,
      zeros_are n t,
      number_is_lem n t h,
      big_endian_bytes_of 4 (crc_of (body_of n t)) (crc_lt (body_of n t) (body_small n t s)),
      eq-eqb (crc_of (body_of n t)) (crc_of (body_of n t)) refl,
      all_zero_replicate 244,
      ne_eqb n 0 (λ e. omega (arith, e)),
      each_zero (wait_in (block_of n t)) r (1024 - r) (λ k g q. wait_is n t s k (omega arith) ∙ get_or-eq_default t 0 (omega arith)),
    )

pub table_is : (n : ℕ) (t : List ℕ) → length t ≤ 1024 → ((i : ℕ) → get_or t i 0 < 4) → table_in (length t) (block_of n t) ≡ t
unfolding table_in
table_is n t m s =
    ext_get_or 0 (each (wait_in (block_of n t)) 0 (length t)) t (length_each (wait_in (block_of n t)) 0 (length t))
    (λ i h.
    let q : i < length t = subst (λ (k : ℕ). i < k) (length_each (wait_in (block_of n t)) 0 (length t)) h in
    get_d_each (wait_in (block_of n t)) 0 (length t) i q ∙ wait_is n t s (0 + i) (omega arith) ∙ (let e : 0 + i ≡ i = omega arith in ap (λ (k : ℕ). get_or t k 0) e))

-- ---- the stores of put_block

each_zeros : (f : ℕ → ℕ) (i n : ℕ) → ((k : ℕ) → i ≤ k → f k ≡ 0) → each f i n ≡ replicate n 0
unfolding each
each_zeros f i zero h = refl
each_zeros f i (suc n) h = ap₂ (λ (x : ℕ) (s : List ℕ). x ∷ s) (h i (omega arith)) (each_zeros f (suc i) n (λ k g. h k (omega arith)))

no_marks : (t : List ℕ) (m : ℕ) → length t ≤ 4 * m → (k : ℕ) → m ≤ k → packed_at t k ≡ 0
unfolding packed_at
no_marks t m h k g =
    let a : get_or t (4 * k) 0 ≡ 0 = get_or-eq_default t 0 (omega arith) in
    let b : get_or t (4 * k + 1) 0 ≡ 0 = get_or-eq_default t 0 (omega arith) in
    let c : get_or t (4 * k + 2) 0 ≡ 0 = get_or-eq_default t 0 (omega arith) in
    let d : get_or t (4 * k + 3) 0 ≡ 0 = get_or-eq_default t 0 (omega arith) in
    omega (arith, a, b, c, d)

marks_are : (t : List ℕ) (m : ℕ) → m ≤ 256 → length t ≤ 4 * m → marks t ≡ each (packed_at t) 0 m ++ replicate (256 - m) 0
marks_are t m h l =
    (let e : 256 ≡ m + (256 - m) = omega arith in ap (each (packed_at t) 0) e)
    ∙ each_add (packed_at t) 0 m (256 - m)
    ∙ ap (λ (s : List ℕ). each (packed_at t) 0 m ++ s) (each_zeros (packed_at t) (0 + m) (256 - m) (λ k g. no_marks t m l k (omega arith)))

zeros_drop : (m n : ℕ) → drop m (replicate (m + n) 0) ≡ replicate {A = ℕ} n 0
zeros_drop m n = ap (drop m) (sym (replicate-append-replicate m n 0)) ∙ drop_at (replicate m 0) (replicate n 0) m (length-replicate {A = ℕ} m 0)

numbered : (n : ℕ) → sets (replicate 512 0) 0 (bytes_of 8 n) ≡ bytes_of 8 n ++ replicate 504 0
numbered n =
    sets-eq (bytes_of 8 n) (replicate 512 0) 0 (let e : length (bytes_of 8 n) ≡ 8 = length_bytes_of 8 n in omega (arith, e))
    ∙ ap (λ (k : ℕ). bytes_of 8 n ++ drop (0 + k) (replicate 512 0)) (length_bytes_of 8 n)

marked : (n : ℕ) (t : List ℕ) (m : ℕ) → m ≤ 256 → length t ≤ 4 * m
    → sets (sets (replicate 512 0) 0 (bytes_of 8 n)) 8 (each (packed_at t) 0 m) ≡ body_of n t ++ replicate 4 0
unfolding body_of
marked n t m h l =
    ap (λ (s : List ℕ). sets s 8 ms) (numbered n)
    ∙ sets-eq ms (bytes_of 8 n ++ replicate 504 0) 8 (omega (arith, length-append (bytes_of 8 n) (replicate 504 0), length_bytes_of 8 n, lm))
    ∙ ap₂ (λ (x y : List ℕ). (x ++ ms) ++ y) (take_at (bytes_of 8 n) (replicate 504 0) 8 (length_bytes_of 8 n)) rest
    ∙ append_assoc (bytes_of 8 n) ms (replicate (504 - m) 0)
    ∙ ap (λ (s : List ℕ). bytes_of 8 n ++ s) (tail ∙ sym (append_assoc (marks t) zeros (replicate 4 0)))
    ∙ sym (append_assoc (bytes_of 8 n) (marks t ++ zeros) (replicate 4 0))
  where
    ms : List ℕ
    ms = each (packed_at t) 0 m

    lm : length ms ≡ m
    lm = length_each (packed_at t) 0 m

    rest : drop (8 + length ms) (bytes_of 8 n ++ replicate 504 0) ≡ replicate (504 - m) 0
    rest =
        (let e : 8 + length ms ≡ length (bytes_of 8 n) + m = omega (arith, lm, length_bytes_of 8 n) in ap (λ (k : ℕ). drop k (bytes_of 8 n ++ replicate 504 0)) e)
        ∙ drop-append-add (bytes_of 8 n) (replicate 504 0) m
        ∙ (let e : 504 ≡ m + (504 - m) = omega arith in ap (λ (k : ℕ). drop m (replicate {A = ℕ} k 0)) e)
        ∙ zeros_drop m (504 - m)

    tail : ms ++ replicate (504 - m) 0 ≡ marks t ++ (zeros ++ replicate 4 0)
    tail =
        (let e : 504 - m ≡ (256 - m) + 248 = omega arith in ap (λ (k : ℕ). ms ++ replicate {A = ℕ} k 0) e)
        ∙ ap (λ (s : List ℕ). ms ++ s) (sym (replicate-append-replicate (256 - m) 248 0))
        ∙ sym (append_assoc ms (replicate (256 - m) 0) (replicate 248 0))
        ∙ ap (λ (s : List ℕ). s ++ replicate 248 0) (sym (marks_are t m h l))

-- zeros, the number, the marks, the check: the block
pub block_stored : (d : List ℕ) (n : ℕ) (t : List ℕ) (m : ℕ) {z a b c : List ℕ} → length d ≡ 512 → m ≤ 256 → length t ≤ 4 * m
    → z ≡ replicate (length d) 0 → a ≡ sets z 0 (bytes_of 8 n) → b ≡ sets a 8 (each (packed_at t) 0 m)
    → c ≡ sets b 508 (bytes_of 4 (crc_of (take 508 b))) → c ≡ block_of n t
unfolding block_of
block_stored d n t m {z} {a} {b} {c} e h l ez ea eb ec =
    ec ∙ ap (λ (s : List ℕ). sets s 508 (bytes_of 4 (crc_of (take 508 s)))) is
    ∙ ap (λ (s : List ℕ). sets (body_of n t ++ replicate 4 0) 508 (bytes_of 4 (crc_of s))) (take_at (body_of n t) (replicate 4 0) 508 (length_body n t))
    ∙ sets-eq crc (body_of n t ++ replicate 4 0) 508 (omega (arith, length-append (body_of n t) (replicate 4 0), length_body n t, lc))
    ∙ ap₂ (λ (x y : List ℕ). (x ++ crc) ++ y) (take_at (body_of n t) (replicate 4 0) 508 (length_body n t)) rest
    ∙ append-nil (body_of n t ++ crc)
  where
    crc : List ℕ
    crc = bytes_of 4 (crc_of (body_of n t))

    lc : length crc ≡ 4
    lc = length_bytes_of 4 (crc_of (body_of n t))

    is : b ≡ body_of n t ++ replicate 4 0
    is =
        eb ∙ ap (λ (s : List ℕ). sets s 8 (each (packed_at t) 0 m)) (ea ∙ ap (λ (s : List ℕ). sets s 0 (bytes_of 8 n)) (ez ∙ ap (λ (k : ℕ). replicate {A = ℕ} k 0) e))
        ∙ marked n t m h l

    rest : drop (508 + length crc) (body_of n t ++ replicate 4 0) ≡ []
    rest = drop_of_length-le (body_of n t ++ replicate 4 0) {i = 508 + length crc} (omega (arith, length-append (body_of n t) (replicate 4 0), length_body n t, lc))
