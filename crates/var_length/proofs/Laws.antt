-- The variable length number, turn by turn: what a reader has passed. Assumes nothing.
use mathlib.Core.Path.{◌≡◌, refl, sym, ap, ◌∙◌}
use mathlib.Core.Bool.{true, false, ◌||◌}
use mathlib.Core.List.{List, []}
use Prim.Native.Nat.{ℕ, suc, ◌+◌, ◌-◌, ◌*◌, ◌^◌, ◌≤◌, ◌<◌}
use native.Mathlib.Omega.{arith}
use native.Mathlib.Nat.{mul_comm, mul-le-mul_right, pow-suc, pow-le-pow_right}
use native.Mathlib.Numerals.{add-one}
use lib.Dec.{leb}
use lib.ListN.{length, drop, get_or}
use Rattle.grammar.specs.Number.{shortest}
use Rattle.reading.specs.Refusal.{Refusal, nr}
use Rattle.reading.specs.Reader.{got, bad}
use Rattle.reading.specs.Read.{groups_of, num_of}
use Rattle.positions.specs.Position.{from_at}
use Rattle.positions.proofs.At.{scale, num_cut, num_last, num_next, scale_scale, scale_one}
use Rattle.positions.proofs.Trails.{trails_num}
use Rattle.positions.proofs.Position.{got_within, by_bad, by_passes, by_fails}

-- n bytes from index at are passed, worth `value`, and what stands at `next` decides
pub record Passed (s : List ℕ) (at value unit next : ℕ) : Type 0 where
  pub n : ℕ
  pub few : n ≤ 3
  pub here : next ≡ at + n
  pub power : unit ≡ 128 ^ n
  pub small : value < unit
  pub rest : (c : Refusal) → groups_of c 4 (drop at s) ≡ scale value unit (groups_of c (suc (3 - n)) (drop next s))

pub none_passed : (s : List ℕ) (at : ℕ) → Passed s at 0 1 at
none_passed s at = record { n = 0; few = omega arith; here = omega arith; power = refl; small = omega arith; rest = λ c. sym (scale_one (groups_of c 4 (drop at s))) }

module _ {s : List ℕ} {at value unit next : ℕ} (p : Passed s at value unit next) where
  -- a group of the fourth byte counts 128 ^ 3 times
  pub unit_le : unit ≤ 2097152
  unit_le = rw p.power (pow-le-pow_right {n = 128} (omega arith) p.few)

  -- one group more stays below the next group's unit
  group_below : (g : ℕ) → g < 128 → value + g * unit < unit * 128
  group_below g h =
      let l : g * unit ≤ 127 * unit = mul-le-mul_right unit (omega arith) in
      omega (arith, p.small)

  pub group_fits : (g : ℕ) → g < 128 → value + g * unit < 268435456
  group_fits g h = omega (arith, group_below g h, unit_le)

  pub number_cut : length s ≤ next → (c : Refusal) → bad c ≡ from_at (num_of c 4) s at
  unfolding num_of
  number_cut h c = sym (by_bad (groups_of c 4) s at shortest (λ _ _. nr 2 []) c (p.rest c ∙ rw (num_cut c (3 - p.n) next s h)))

  module _ (h : next < length s) (b : ℕ) (e : (b ≡ get_or s next 0) × (b < 256)) where
    -- the number, as its groups say it
    ended : b < 128 → (c : Refusal) → groups_of c 4 (drop at s) ≡ got (value + b * unit, drop (next + 1) s)
    ended l c =
        let x : ℕ = get_or s next 0 in
        let v : value + unit * x ≡ value + b * unit = omega (arith, mul_comm unit x, ap (λ (y : ℕ). y * unit) e.0) in
        p.rest c ∙ rw (num_last c (3 - p.n) next s h (omega arith)) (ap (λ (y : ℕ). got (y, drop (next + 1) s)) v)

    -- the test of the code is the definition's
    needed : (leb (next + 1 - at) 1 || leb unit (value + b * unit)) ≡ shortest (value + b * unit) (next + 1 - at)
    needed =
        let i : next + 1 - at - 1 ≡ p.n = omega (arith, p.here) in
        rw (i, ← p.power)

    pub number_ends : b < 128 → (leb (next + 1 - at) 1 || leb unit (value + b * unit)) ≡ true → (c : Refusal) → got (value + b * unit, at + (next + 1 - at)) ≡ from_at (num_of c 4) s at
    unfolding num_of
    number_ends l w c =
        let k : at + (next + 1 - at) ≡ next + 1 = omega (arith, p.here) in
        rw k (sym (by_passes (groups_of c 4) s at shortest (λ _ _. nr 2 []) (value + b * unit) (next + 1) (ended l c) (omega arith) (sym needed ∙ w)))

    pub number_winded : b < 128 → (leb (next + 1 - at) 1 || leb unit (value + b * unit)) ≡ false → (c : Refusal) → bad (nr 2 []) ≡ from_at (num_of c 4) s at
    unfolding num_of
    number_winded l w c = sym (by_fails (groups_of c 4) s at shortest (λ _ _. nr 2 []) (value + b * unit) (next + 1) (ended l c) (omega arith) (sym needed ∙ w))

    goes_on : 128 ≤ b → (c : Refusal) → groups_of c 4 (drop at s) ≡ scale (value + (b - 128) * unit) (unit * 128) (groups_of c (3 - p.n) (drop (next + 1) s))
    goes_on l c =
        p.rest c ∙ rw (num_next c (3 - p.n) next s h (omega arith), e.0) (scale_scale value unit (get_or s next 0 - 128) 128 (groups_of c (3 - p.n) (drop (next + 1) s)))

    pub number_long : 128 ≤ b → 4 ≤ next + 1 - at → (c : Refusal) → bad (nr 2 []) ≡ from_at (num_of c 4) s at
    unfolding num_of groups_of
    number_long l f c =
        let z : 3 - p.n ≡ 0 = omega arith in
        sym (by_bad (groups_of c 4) s at shortest (λ _ _. nr 2 []) (nr 2 []) (goes_on l c ∙ rw z))

    pub one_passed : 128 ≤ b → next + 1 - at < 4 → Passed s at (value + (b - 128) * unit) (unit * 128) (next + 1)
    one_passed l f =
        let z : 3 - p.n ≡ suc (3 - (p.n + 1)) = omega arith in
        record {
          n = p.n + 1;
          few = omega arith;
          here = omega arith;
          power = rw (add-one p.n, pow-suc 128 p.n, p.power);
          small = group_below (b - 128) (omega arith);
          rest = λ c. goes_on l c ∙ rw z;
        }

-- a number ends within the slice
pub number_within : (s : List ℕ) (at n m : ℕ) (c : Refusal) → got (n, m) ≡ from_at (num_of c 4) s at → m ≤ length s
number_within s at n m c e = got_within (num_of c 4) s at (trails_num c 4) n m (sym e)
