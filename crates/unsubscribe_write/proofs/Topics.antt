-- Topics one by one: counted, asked for and put. Assumes nothing.
use mathlib.Core.Path.{◌≡◌, refl, ap, ◌∙◌}
use mathlib.Core.Bool.{not}
use mathlib.Core.List.{List, [], ◌∷◌, ◌++◌}
use Prim.Native.Nat.{ℕ, ◌+◌, ◌*◌, ◌≤◌, ◌<◌, min}
use native.Mathlib.Omega.{arith}
use lib.ListN.{length, get_or}
use lib.Seq.{sets}
use Rattle.grammar.specs.Choice.{is_empty}
use Rattle.reading.specs.Refusal.{nr}
use Rattle.reading.specs.Reader.{got, bad, guard}
use Rattle.writing.specs.Lists.{flat}
use Rattle.writing.specs.Handed.{Run, strings}
use Rattle.writing.specs.Size.{topics_size, cap}
use Rattle.writing.proofs.ForCode.{run_from, string_at, strings_done}
use Rattle.write_runs.specs.Given.{run}
use Rattle.write_runs.proofs.Laws.Run.{strings_cut}
use Rattle.write_sizes.proofs.Laws.{cap_left}
use Rattle.write_strings.specs.Fitting.{fit_string}
use Rattle.write_strings.proofs.Fits.{string_most}
use Rattle.write_properties.specs.Put.{Put}

-- ---- the i-th topic, its text at index p of the run; the rest of the run is from index q on

pub topics_cut : (r : Run) (i p q : ℕ) → q ≡ min (p + get_or r.lengths i 0) (length r.bytes) → i < length r.lengths
    → flat fit_string (strings (run_from r i p)) ≡ fit_string (string_at r i p) ++ flat fit_string (strings (run_from r (i + 1) q))
topics_cut r i p q e h = ap (flat fit_string) (strings_cut r i p q e h)

-- no topic is left
pub topics_done : (r : Run) (i p : ℕ) → length r.lengths ≤ i → flat fit_string (strings (run_from r i p)) ≡ []
topics_done r i p h = ap (flat fit_string) (strings_done r i p h)

-- ---- 13: there is a topic exactly if there is a length

pub none_asked : (b ns : List ℕ) → length ns ≡ 0 → bad (nr 13 []) ≡ guard (not (is_empty (strings (run b ns)))) (nr 13 [])
none_asked b [] e = refl
none_asked b (n ∷ ns) e = absurd (omega arith)

pub some_asked : (b ns : List ℕ) → (length ns ≡ 0 → ⊥) → got tt ≡ guard (not (is_empty (strings (run b ns)))) (nr 13 [])
some_asked b [] e = absurd (e refl)
some_asked b (n ∷ ns) e = refl

-- ---- their bytes, counted

pub topics_sum : (r : Run) (a c : ℕ) → a ≡ cap (length r.lengths + length r.lengths) → c ≡ cap (a + length r.bytes) → c ≡ cap (topics_size r)
topics_sum r a c e f =
    let n : ℕ = length r.lengths in
    let m : ℕ = length r.bytes in
    let i : n + n + m ≡ m + 2 * n = omega arith in
    f ∙ cap_left a (n + n) m e ∙ ap cap i

-- ---- one topic, put

pub topic_put : (s l l₁ : List ℕ) (at k : ℕ) → (l₁ ≡ sets l at (fit_string s)) × (k ≡ length (fit_string s)) → Put l at (fit_string s) l₁ k
topic_put s l l₁ at k (e, f) = record { stores = e; count = f }

pub topic_most : (s : List ℕ) (k : ℕ) → k ≡ length (fit_string s) → k ≤ 2 + length s
topic_most s k e = omega (arith, e, string_most s)
