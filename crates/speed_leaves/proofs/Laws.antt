-- How a sum of numbers goes on at an index of the slice. Assumes nothing.
use Rattle.std.proofs.Common.{◌≡◌, ℕ, suc, ◌<◌, ◌≤◌, List, ◌∷◌, length, get_or, drop, sym, refl, ap, ◌∙◌, arith, length-drop, drop_of_length-le, drop-cons}
use Rattle.grammar.specs.Gram.{forget}
use Rattle.reading.specs.Refusal.{Refusal, cut}
use Rattle.reading.specs.Reader.{got, bad}
use Rattle.reading.specs.Read.{num_of}
use Rattle.reading.proofs.Reading.{less}
use Rattle.reading.proofs.Fields.{reads_num, num_solid}
use Rattle.positions.specs.Position.{from_at}
use Rattle.positions.proofs.Position.{got_left, got_within, bad_left}
use Rattle.positions.proofs.Trails.{trails_reads}
use Rattle.positions.proofs.Walk.{Less, fold_nil, fold_bad, fold_next}
use Rattle.positions.specs.Count.{wrapped, or_zero}
use Rattle.speed_leaves.specs.Numbers.{numbers_sum_from, numbers_sum}

num_less : (bound : ℕ) → Less bound (num_of cut 4)
num_less bound s z h e = less (reads_num cut 4) (num_solid 4) s z e

-- the numbers before `at` are summed up, and what stands from there on decides
pub record Summed (s : List ℕ) (sum at : ℕ) : Type 0 where
  pub within : at ≤ length s
  pub rest : numbers_sum s ≡ or_zero (numbers_sum_from sum (drop at s))

pub none_summed : (s : List ℕ) → Summed s 0 0
unfolding numbers_sum
none_summed s = record { within = omega arith; rest = refl }

module _ {s : List ℕ} {sum at : ℕ} (p : Summed s sum at) where
  pub all_summed : length s ≤ at → sum ≡ numbers_sum s
  all_summed h = sym (p.rest ∙ rw (drop_of_length-le s h, fold_nil forget (λ _. num_of cut 4) 0 (λ _. num_less 0) wrapped sum tt))

  module _ (h : at < length s) where
    pub not_summed : (k : Refusal) → from_at (num_of cut 4) s at ≡ bad k → 0 ≡ numbers_sum s
    not_summed k e =
        let c : drop at s ≡ get_or s at 0 ∷ drop (suc at) s = drop-cons s at 0 h in
        let b : num_of cut 4 (get_or s at 0 ∷ drop (suc at) s) ≡ bad k = rw c at (bad_left (num_of cut 4) s at k e) in
        sym (p.rest ∙ rw (c, fold_bad forget (λ _. num_of cut 4) 0 (λ _. num_less 0) wrapped sum tt (get_or s at 0) (drop (suc at) s) k b))

    module _ (n next : ℕ) (e : from_at (num_of cut 4) s at ≡ got (n, next)) where
      left : num_of cut 4 (drop at s) ≡ got (n, drop next s)
      left = got_left (num_of cut 4) s at (trails_reads (reads_num cut 4)) n next e

      in_slice : next ≤ length s
      in_slice = got_within (num_of cut 4) s at (trails_reads (reads_num cut 4)) n next e

      pub ahead : at < next
      ahead =
          let l : length (drop next s) < length (drop at s) = num_less (length (drop at s)) (drop at s) (n, drop next s) (omega arith) left in
          omega (arith, simp length-drop at l, in_slice)

      pub one_summed : Summed s (wrapped sum n) next
      one_summed =
          let c : drop at s ≡ get_or s at 0 ∷ drop (suc at) s = drop-cons s at 0 h in
          let b : num_of cut 4 (get_or s at 0 ∷ drop (suc at) s) ≡ got (n, drop next s) = rw c at left in
          let l : length (get_or s at 0 ∷ drop (suc at) s) ≤ length s = omega (arith, ap length c, length-drop at s) in
          record {
            within = in_slice;
            rest = p.rest ∙ rw (c, fold_next forget (λ _. num_of cut 4) (length s) (λ _. num_less (length s)) wrapped sum tt (get_or s at 0) (drop (suc at) s) (n, drop next s) l b);
          }
