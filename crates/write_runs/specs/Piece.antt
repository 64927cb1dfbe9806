-- Which part of a run is handed back: its bytes, and where it lies. Assumes nothing.
use Rattle.std.specs.Prelude.{◌≡◌, cond, List, ℕ, ◌+◌, ltb, length, take, drop}
use Rattle.std.specs.Borrow.{Bor}

-- r is the n bytes at an index of the run, or as many as there are, in the memory of the run itself; the empty part at 0 if there is no such index
pub record PieceAt (run : Bor (List ℕ)) (at n : ℕ) (r : Bor (List ℕ)) : Type 0 where
  pub bytes : r.now ≡ take n (drop at run.now)
  -- the same block of memory ..
  pub block : r.ref_ptr.0 ≡ run.ref_ptr.0
  -- .. so many bytes behind where the run begins
  pub start : r.ref_ptr.1 ≡ run.ref_ptr.1 + cond (ltb at (length run.now)) at 0
