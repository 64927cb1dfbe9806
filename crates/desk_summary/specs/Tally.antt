-- The line of docs/DESK.md that tells the counts of what was read; where each stands: `kind_at`, `refused_more` (Count.antt). Assumes nothing.
use Rattle.std.specs.Prelude.{ℕ, zero, suc, ◌+◌, cond, List, [], ◌∷◌, ◌++◌, ◌==◌, slice_index}
use Rattle.records.specs.Ascii.{codes_of}
use Rattle.kinds.specs.Kinds.{word_of}
use Rattle.desk_summary.specs.Count.{kind_at, all_at}
use Rattle.desk_render.specs.Shown.{decimal_of}

-- docs/DESK.md: "the frames of each kind": its word, and how many were read
abbrev pub kind_text : List ℕ → ℕ → List ℕ
kind_text t k = (codes_of " " ++ word_of k) ++ (codes_of "=" ++ decimal_of (slice_index t (kind_at k)))

-- those of so many kinds, from Publish (3) on
unfoldable pub kinds_to : List ℕ → ℕ → List ℕ
kinds_to t zero = []
kinds_to t (suc n) = kinds_to t n ++ kind_text t (n + 3)

-- docs/DESK.md: "all refusals"
abbrev pub all_text : List ℕ → List ℕ
all_text t = codes_of " refused=" ++ decimal_of (slice_index t all_at)

-- docs/DESK.md: "the refusals by their numbers": k was given n times, if at all
abbrev pub refusal_text : ℕ → ℕ → List ℕ
refusal_text k n = cond (n == 0) [] ((codes_of " refused-" ++ decimal_of k) ++ (codes_of "=" ++ decimal_of n))

-- those of 1 to k
unfoldable pub refusals_to : List ℕ → ℕ → List ℕ
refusals_to t zero = []
refusals_to t (suc k) = refusals_to t k ++ refusal_text (k + 1) (slice_index t (k + 1))

-- docs/DESK.md: "and the bytes taken"
abbrev pub end_text : ℕ → List ℕ
end_text bytes = (codes_of " bytes=" ++ decimal_of bytes) ++ (10 ∷ [])

-- docs/DESK.md: the last line, of all that was read: eleven kinds, refusals 1 to 23
abbrev pub summary_line : List ℕ → ℕ → List ℕ
summary_line t bytes = (((codes_of "desk:" ++ kinds_to t 11) ++ all_text t) ++ refusals_to t 23) ++ end_text bytes
