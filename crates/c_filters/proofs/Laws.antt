-- How the entries come one behind the other into an array of numbers. Assumes nothing.
use mathlib.Core.Path.{◌≡◌, refl, sym, ap, ◌∙◌}
use mathlib.Core.Option.{none}
use mathlib.Core.List.{List, ◌++◌, append_assoc, append-nil}
use Prim.Native.Nat.{ℕ, zero, suc, ◌+◌, ◌-◌, ◌*◌, ◌≤◌, ◌<◌}
use native.Mathlib.Omega.{arith}
use lib.ListN.{length, take, drop, length-drop, drop_of_length-le}
use lib.Seq.{sets, sets-eq, take_all, drop-drop}
use Rattle.reading.specs.Reader.{Fit}
use Rattle.reading.specs.Place.{read_placed_of}
use Rattle.packet.specs.PacketRead.{taken_in}
use Rattle.filter_table.specs.Table.{told_table, entry_at, entries_from, Planned}
use Rattle.filter_table.specs.declared.Plan.{Plan}
use Rattle.filter_table.specs.declared.FilterEntry.{FilterEntry}
use Rattle.c_filters.specs.Numbers.{entry_numbers, numbers_of, places_in, said_of, answer_numbers, table_as, put_from}

-- entry by entry, or all at once
pub put_all : (s : List ℕ) (end n at k : ℕ) (t : List ℕ) → put_from s end n at k t ≡ sets t k (numbers_of (entries_from s end n at))
put_all s end zero at k t = refl
put_all s end (suc n) at k t =
    let e = entry_at s at end in
    let m : k + 3 ≡ suc (suc (suc k)) = omega arith in
    put_all s end n e.1 (k + 3) (sets t k (entry_numbers e.0)) ∙ ap (λ (i : ℕ). sets (sets t k (entry_numbers e.0)) i (numbers_of (entries_from s end n e.1))) m

-- after i of n entries, three numbers each, the walk stands at j; what is put from there on makes of t what is put in all makes of t₀
pub record Put (s : List ℕ) (end n at : ℕ) (t₀ t : List ℕ) (i j : ℕ) : Type 0 where
  pub rest : put_from s end (n - i) j (3 * i) t ≡ put_from s end n at 0 t₀
  pub same : length t ≡ length t₀

module _ {s : List ℕ} {end n at : ℕ} {t₀ : List ℕ} where
  pub put_start : Put s end n at t₀ t₀ 0 at
  put_start = let e : n - 0 ≡ n = omega arith in record { rest = rw e; same = refl }

  module _ {t : List ℕ} {i j : ℕ} (P : Put s end n at t₀ t i j) where
    pub put_next : {u : List ℕ} {e : FilterEntry} {m : ℕ} → i < n → (e, m) ≡ entry_at s j end → u ≡ sets t (3 * i) (entry_numbers e) → length u ≡ length t → Put s end n at t₀ u (i + 1) m
    put_next {u = u} {e = e} {m = m} h a b l =
        let d : n - i ≡ suc (n - (i + 1)) = omega (arith, h) in
        let x : (entry_at s j end).0 ≡ e = ap (λ (z : FilterEntry × ℕ). z.0) (sym a) in
        let y : (entry_at s j end).1 ≡ m = ap (λ (z : FilterEntry × ℕ). z.1) (sym a) in
        let k = 3 * i in
        let w : 3 * (i + 1) ≡ k + 3 = omega arith in
        let r : put_from s end (suc (n - (i + 1))) j k t ≡ put_from s end n at 0 t₀ = sym (ap (λ (c : ℕ). put_from s end c j k t) d) ∙ P.rest in
        record {
          rest = rw (b, w) (sym (ap (λ (z : ℕ). put_from s end (n - (i + 1)) z (k + 3) (sets t k (entry_numbers e))) y) ∙ sym (ap (λ (z : FilterEntry). put_from s end (n - (i + 1)) (entry_at s j end).1 (k + 3) (sets t k (entry_numbers z))) x) ∙ r);
          same = l ∙ P.same;
        }

    pub put_end : n ≤ i → t ≡ sets t₀ 0 (numbers_of (entries_from s end n at))
    put_end h =
        let z : n - i ≡ 0 = omega (arith, h) in
        sym (ap (λ (c : ℕ). put_from s end c j (3 * i) t) z) ∙ P.rest ∙ put_all s end n at 0 t₀

-- ---- a part of the table

-- what is stored in the part behind `at` is stored behind `at`
pub put_behind : (t xs : List ℕ) (at n : ℕ) {b : List ℕ} → at + length xs ≤ length t → n ≡ length t → b ≡ sets (take (n - at) (drop at t)) 0 xs → take at t ++ (b ++ drop (n - at) (drop at t)) ≡ sets t at xs
put_behind t xs at n {b = b} h e i =
    let l : length (drop at t) ≡ length t - at = length-drop at t in
    let z : 0 + length xs ≡ length xs = omega arith in
    let p : b ≡ xs ++ drop (at + length xs) t =
    i ∙ ap (λ (u : List ℕ). sets u 0 xs) (take_all (n - at) (drop at t) (omega (arith, l, e)))
    ∙ sets-eq xs (drop at t) 0 (omega (arith, l, h))
    ∙ ap (λ (k : ℕ). xs ++ drop k (drop at t)) z
    ∙ ap (λ (u : List ℕ). xs ++ u) (drop-drop (length xs) at t) in
    ap (λ (u : List ℕ). take at t ++ (b ++ u)) (drop_of_length-le (drop at t) {i = n - at} (omega (arith, l, e)))
    ∙ ap (λ (u : List ℕ). take at t ++ u) (append-nil b ∙ p)
    ∙ sym (append_assoc (take at t) xs (drop (at + length xs) t))
    ∙ sym (sets-eq xs t at h)

-- ---- the whole call

-- the contract of `ecch_filter_table`, from that of `plan_of`
module _ {s : List ℕ} (t : List ℕ) {p : Plan} (P : Planned s (places_in t) p) where
  pub table_stored : {u : List ℕ} → u ≡ sets t 0 (numbers_of (entries_from s p.end p.count p.at)) → u ≡ table_as s t
  unfolding table_as
  table_stored e = e ∙ ap (λ (es : List FilterEntry). sets t 0 (numbers_of es)) P.plan.listed

  pub answer_stored : (a : List ℕ) {u : List ℕ} → u ≡ sets a 0 (answer_numbers p.taken (told_table p.answer)) → u ≡ sets a 0 (answer_numbers (taken_in (read_placed_of none s)) (said_of s (places_in t)))
  answer_stored a e = e ∙ ap (λ (n : ℕ). sets a 0 (answer_numbers n (told_table p.answer))) P.taken ∙ ap (λ (f : Fit ℕ). sets a 0 (answer_numbers (taken_in (read_placed_of none s)) f)) P.plan.answer
