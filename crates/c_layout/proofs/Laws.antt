-- As many numbers stored as there are or as there is room for; and what is returned of a refusal, from its row, and of an item. Assumes nothing.
use mathlib.Core.Path.{◌≡◌, refl, sym}
use mathlib.Core.List.{List, ◌++◌}
use Prim.Native.Nat.{ℕ, ◌+◌, min}
use native.Mathlib.Omega.{arith}
use lib.ListN.{length, take, drop}
use lib.Seq.{sets, length-take-le}
use Rattle.std.proofs.lemmas.List.Edits.{sets-eq}
use Rattle.write_bytes.proofs.Laws.{put_all}
use Rattle.reading.specs.Refusal.{Refusal, nr}
use Rattle.reading.specs.Reader.{bad}
use Rattle.std.specs.Prelude.{Option, Some, None, Result, Ok, Err}
use Rattle.records.specs.AsNumbers.{row_of, told_error, told_by}
use Rattle.records.specs.declared.error.Error.{Error}
use Rattle.records.specs.declared.span.Span.{Span}
use Rattle.records.specs.Answered.{told_user}
use Rattle.c_layout.specs.Value.{fit_number, answered_number, item_number}

-- from index 0 on
pub stored_all : (o xs : List ℕ) (n : ℕ) → n ≡ min (length o) (length xs) → take n xs ++ drop n o ≡ sets o 0 xs
stored_all o xs n e =
    let l : length (take n xs) ≡ n = length-take-le n xs (omega (arith, e)) in
    let z : 0 + length (take n xs) ≡ n = omega (arith, l) in
    put_all o _ o xs 0 n (omega (arith, e)) (sym (rw z at (sets-eq (take n xs) o 0 (omega (arith, l, e))))) (omega (arith, e))

-- ---- a refusal

pub bad_number : (A : Type 0) (k : Refusal) → row_of k ≡ fit_number {A = A} (bad k)
bad_number A (nr k vs) = refl

-- what f tells of an answer has the answer's number
pub number_told : {T B : Type 0} (f : T → B) (r : Result T Error) → answered_number r ≡ fit_number (told_by f r)
number_told f (Ok x) = refl
number_told {B = B} f (Err e) = bad_number B (told_error e)

-- ---- an item

pub user_number : (item : Option (Span × Span)) → item_number item ≡ fit_number (told_user item)
user_number (Some (k, v)) = refl
user_number None = refl
