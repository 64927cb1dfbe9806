-- Filters one by one: counted, tested and put. Assumes nothing.
use mathlib.Core.Path.{◌≡◌, refl, sym, ap, ◌∙◌}
use mathlib.Core.Bool.{not}
use mathlib.Core.Logic.{◌⊎◌, inl, inr}
use mathlib.Core.List.{List, [], ◌∷◌, map}
use Prim.Native.Nat.{ℕ, ◌+◌, ◌*◌, ◌/◌, ◌%◌, ◌≤◌, ◌<◌, min}
use native.Mathlib.Omega.{arith}
use native.Mathlib.Numerals.{add-one}
use lib.ListN.{length, drop, get_or, length-append, drop_of_length-le}
use lib.Seq.{sets, drop-cons}
use Rattle.grammar.specs.Choice.{is_empty}
use Rattle.grammar.specs.Octets.{Each, ◌&◌}
use Rattle.grammar.specs.Sentence.{qos_fine, rule_fine}
use Rattle.reading.specs.Refusal.{Refusal, nr}
use Rattle.reading.specs.Reader.{got, bad, ◌>>◌, guard}
use Rattle.writing.specs.Lists.{beside, flat}
use Rattle.writing.specs.Handed.{Run, strings, filters_of}
use Rattle.writing.specs.Spell.{wide, filter_bytes}
use Rattle.writing.specs.Size.{cap}
use Rattle.writing.specs.Order.{Test, judge, word, filter, field_tests, filter_field}
use Rattle.writing.specs.Refuse.{Writable}
use Rattle.writing.proofs.Tests.{eq_when, eq_not, le_or}
use Rattle.writing.proofs.Judge.{judge_append}
use Rattle.writing.proofs.ForCode.{run_from, string_at, strings_done}
use Rattle.write_numbers.proofs.Laws.Put.{wide_one}
use Rattle.write_runs.specs.Given.{run}
use Rattle.write_runs.proofs.Laws.Run.{strings_cut}
use Rattle.write_sizes.proofs.Laws.{cap_left}
use Rattle.write_strings.specs.Fitting.{fit_string}
use Rattle.write_strings.proofs.Fits.{string_fits, string_most}
use Rattle.write_properties.specs.Put.{Put}
use Rattle.write_properties.proofs.Laws.{sets_next}
use Rattle.subscribe_write.specs.Fitting.{fit_filter}

-- ---- the i-th filter, its text at index p of the run; the rest of the run is from index q on

pub filters_cut : (r : Run) (i p q : ℕ) → q ≡ min (p + get_or r.lengths i 0) (length r.bytes) → (os : List ℕ) → i < min (length r.lengths) (length os)
    → beside (strings (run_from r i p)) (drop i os) ≡ (string_at r i p, get_or os i 0) ∷ beside (strings (run_from r (i + 1) q)) (drop (i + 1) os)
filters_cut r i p q e os h = rw (strings_cut r i p q e (omega arith), drop-cons os i 0 (omega arith), add-one i)

-- no filter is left
pub filters_done : (r : Run) (i p : ℕ) (os : List ℕ) → min (length r.lengths) (length os) ≤ i → beside (strings (run_from r i p)) (drop i os) ≡ []
filters_done r i p os h = go (le_or (length r.lengths) i)
  where
    none : (ss : List (List ℕ)) → beside {B = ℕ} ss [] ≡ []
    none [] = refl
    none (s ∷ ss) = refl

    go : (length r.lengths ≤ i) ⊎ (i < length r.lengths) → beside (strings (run_from r i p)) (drop i os) ≡ []
    go (inl l) = rw (strings_done r i p l)
    go (inr l) = rw (drop_of_length-le os {i = i} (omega arith)) (none (strings (run_from r i p)))

-- ---- 13: there is a filter exactly if there are a length and an options byte

pub none_asked : (b ns os : List ℕ) → min (length ns) (length os) ≡ 0 → bad (nr 13 []) ≡ guard (not (is_empty (filters_of (run b ns) os))) (nr 13 [])
none_asked b [] os e = refl
none_asked b (n ∷ ns) [] e = refl
none_asked b (n ∷ ns) (o ∷ os) e = absurd (omega arith)

pub some_asked : (b ns os : List ℕ) → (min (length ns) (length os) ≡ 0 → ⊥) → got tt ≡ guard (not (is_empty (filters_of (run b ns) os))) (nr 13 [])
some_asked b [] os e = absurd (e (omega arith))
some_asked b (n ∷ ns) [] e = absurd (e (omega arith))
some_asked b (n ∷ ns) (o ∷ os) e = refl

-- ---- their bytes, counted

pub filters_sum : (m n a b c : ℕ) → a ≡ cap (n + n) → b ≡ cap (a + n) → c ≡ cap (b + m) → c ≡ cap (m + 3 * n)
filters_sum m n a b c e f g =
    let i : n + n + n + m ≡ m + 3 * n = omega arith in
    g ∙ cap_left b (n + n + n) m (f ∙ cap_left a (n + n) n e) ∙ ap cap i

-- ---- one filter, tested

-- the tests after its text
abbrev options_tests : ℕ → List Test
options_tests o = (rule_fine o, nr 14 (3 ∷ [])) ∷ (qos_fine o, nr 11 (3 ∷ [])) ∷ []

module _ (s : List ℕ) (o : ℕ) where
  filter_tests : judge (field_tests (filter s o)) ≡ (judge (field_tests (word s)) >> judge (options_tests o))
  filter_tests = judge_append (field_tests (word s)) (options_tests o)

  pub filter_bad : (k : Refusal) → bad k ≡ judge (field_tests (word s)) → bad k ≡ judge (field_tests (filter s o))
  filter_bad k e = sym (filter_tests ∙ rw (sym e))

  module _ (e : got tt ≡ judge (field_tests (word s))) where
    then_options : judge (field_tests (filter s o)) ≡ judge (options_tests o)
    then_options = filter_tests ∙ rw (sym e)

    pub filter_rule : o / 16 % 4 ≡ 3 → bad (nr 14 (3 ∷ [])) ≡ judge (field_tests (filter s o))
    unfolding judge
    filter_rule h = sym (then_options ∙ rw ((eq_when (o / 16 % 4) 3).1 h))

    module _ (n : o / 16 % 4 ≡ 3 → ⊥) where
      pub filter_qos : o % 4 ≡ 3 → bad (nr 11 (3 ∷ [])) ≡ judge (field_tests (filter s o))
      unfolding judge
      filter_qos h = sym (then_options ∙ rw ((eq_not (o / 16 % 4) 3).1 n, (eq_when (o % 4) 3).1 h))

      pub filter_fine : (o % 4 ≡ 3 → ⊥) → got tt ≡ judge (field_tests (filter s o))
      unfolding judge
      filter_fine m = sym (then_options ∙ rw ((eq_not (o / 16 % 4) 3).1 n, (eq_not (o % 4) 3).1 m))

  -- ---- and put

  filter_length : length (fit_filter (s, o)) ≡ length (fit_string s) + 1
  filter_length = length-append (fit_string s) (o % 64 ∷ [])

  pub filter_most : (l : List ℕ) (at : ℕ) (l₁ : List ℕ) (k : ℕ) → Put l at (fit_filter (s, o)) l₁ k → k ≤ 3 + length s
  filter_most l at l₁ k p = omega (arith, p.count, filter_length, string_most s)

  pub put_filter : (l l₁ l₂ : List ℕ) (at n m : ℕ) → (l₁ ≡ sets l at (fit_string s)) × (n ≡ length (fit_string s)) → m ≡ min (at + n) (length l₁) → l₂ ≡ sets l₁ m (wide 1 (o % 64)) → Put l at (fit_filter (s, o)) l₂ (1 + n)
  put_filter l l₁ l₂ at n m (e, c) p f =
      let w : wide 1 (o % 64) ≡ o % 64 ∷ [] = sym (wide_one (omega arith)) in
      record {
        stores = sets_next l l₁ l₂ (fit_string s) (o % 64 ∷ []) at m e (p ∙ rw c) (f ∙ rw w);
        count = omega (arith, c, filter_length);
      }

-- those that were tested are put as they are written
pub filters_fit_lem : (fs : List (List ℕ × ℕ)) → Each Writable (map filter_field fs) → flat fit_filter fs ≡ flat filter_bytes fs
filters_fit_lem [] p = refl
filters_fit_lem (f ∷ fs) (p & ps) = rw (string_fits f.0 p.0, filters_fit_lem fs ps)
