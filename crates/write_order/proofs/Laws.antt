-- The order of refusals, from what is found, and what is written by it. Assumes nothing.
use mathlib.Core.Path.{◌≡◌, refl, sym, ◌∙◌}
use mathlib.Core.Bool.{Bool, true, false}
use mathlib.Core.Logic.{◌⊎◌, inl, inr}
use mathlib.Core.Option.{Option}
use mathlib.Core.List.{List, []}
use Prim.Native.Nat.{ℕ, ◌+◌, ◌≤◌, ◌<◌}
use native.Mathlib.Omega.{arith}
use lib.Dec.{leb}
use lib.ListN.{length}
use lib.Seq.{sets}
use Rattle.std.specs.Prelude.{Result, IsErrAnd}
use Rattle.std.proofs.lemmas.Result.{err_from_is_err_and}
use borrow.Author.Tests.{le-leb, lt-leb, leb-false}
use Rattle.reading.specs.Refusal.{Refusal, nr}
use Rattle.reading.specs.Reader.{Fit, got, bad, ◌>>◌, guard}
use Rattle.reading.proofs.Reading.{bad_got}
use Rattle.records.specs.AsNumbers.{told_error}
use Rattle.records.specs.Answered.{told_size}
use Rattle.records.specs.declared.error.Error.{Error}
use Rattle.writing.specs.Lists.{flat}
use Rattle.writing.specs.Handed.{Handed, belongs}
use Rattle.writing.specs.Size.{most, with_length, rest_is, size_is, cap}
use Rattle.writing.specs.Order.{judge, field_tests, fields_of, limit_tests, permit}
use Rattle.writing.specs.Write.{frame_bytes, size_of, answer_of, Written}
use Rattle.writing.proofs.Tests.{le_or}
use Rattle.writing.proofs.ForCode.{writes_all, writes_none}
use Rattle.writing.proofs.Belong.{belongs_when}
use Rattle.writing.proofs.Verdict.{answered_when}
use Rattle.write_order.specs.Found.{before_size, after_limit, within_room, settled_of, size_alone, Found, Stored}

-- ---- the order

then_then : {A B C : Type 0} (a : Fit A) (b : Fit B) (c : Fit C) → ((a >> b) >> c) ≡ (a >> (b >> c))
then_then (got x) b c = refl
then_then (bad k) b c = refl

-- R is not cut off
pub rest_small : (n m : ℕ) → m ≡ cap n → m ≤ most → m ≡ n
rest_small n m e h = go (leb n most) refl
  where
    go : (t : Bool) → leb n most ≡ t → m ≡ n
    go true i = e ∙ rw i
    go false i =
        let f : m ≡ most + 1 = e ∙ rw i in
        let z : ◌≡◌ {A = ℕ} 0 1 = omega arith in
        omega arith

pub rest_large : (n m : ℕ) → m ≡ cap n → most < m → most < n
rest_large n m e h = go (leb n most) refl
  where
    go : (t : Bool) → leb n most ≡ t → most < n
    go true i = let f : m ≡ n = e ∙ rw i in omega arith
    go false i = leb-false n most i

-- what is found decides the size
pub sized_found : (h : Handed) (t : Bool) (m : ℕ) → t ≡ belongs h → m ≡ cap (rest_is h) → size_alone t m ≡ size_of h
unfolding size_of size_is
sized_found h t m e r = go (le_or m most)
  where
    go : (m ≤ most) ⊎ (most < m) → size_alone t m ≡ (guard (belongs h) (nr 20 []) >> (guard (leb (rest_is h) most) (nr 17 []) >> got (1 + with_length (rest_is h))))
    go (inl l) = let i : m ≡ rest_is h = rest_small (rest_is h) m r l in rw (e, i)
    go (inr l) = rw (e, lt-leb m most l, lt-leb (rest_is h) most (rest_large (rest_is h) m r l))

-- what does not belong together is refused before any field is tested
pub before_size_foreign : (h : Handed) (b : Bool) → b ≡ belongs h → b ≡ false → bad (nr 20 []) ≡ before_size h
before_size_foreign h b e f = rw (← e, f)

-- what does is refused as its fields are
pub before_size_fields : (h : Handed) (b : Bool) → b ≡ belongs h → b ≡ true → judge (flat field_tests (fields_of h)) ≡ before_size h
before_size_fields h b e f = rw (← e, f)

-- what is left once R is known to be small
abbrev ending : Option ℕ → ℕ → ℕ → Fit (Unit {0}) → Fit ℕ
ending limit room n late = judge (limit_tests limit n) >> (late >> within_room n room)

module _ (limit : Option ℕ) (room : ℕ) (early late : Fit (Unit {0})) (m : ℕ) where
  pub before_size_bad : (k : Refusal) → early ≡ bad k → bad k ≡ settled_of early m limit late room
  before_size_bad k e = rw e

  module _ (e : early ≡ got tt) where
    pub rest_long : most < m → bad (nr 17 []) ≡ settled_of early m limit late room
    rest_long l = rw (e, lt-leb m most l)

    module _ (l : m ≤ most) (n : ℕ) (s : n ≡ 1 + with_length m) where
      then_ending : settled_of early m limit late room ≡ ending limit room n late
      then_ending = rw (e, le-leb m most l, s)

      pub limit_bad : (k : Refusal) → bad k ≡ judge (limit_tests limit n) → bad k ≡ settled_of early m limit late room
      limit_bad k j = sym (then_ending ∙ rw (← j))

      module _ (j : got tt ≡ judge (limit_tests limit n)) where
        pub after_limit_bad : (k : Refusal) → late ≡ bad k → bad k ≡ settled_of early m limit late room
        after_limit_bad k b = sym (then_ending ∙ rw (← j, b))

        pub after_limit_fine : late ≡ got tt → within_room n room ≡ settled_of early m limit late room
        after_limit_fine b = sym (then_ending ∙ rw (← j, b))

module _ (limit : Option ℕ) (room : ℕ) (h : Handed) where
  in_order : answer_of limit room h ≡ (before_size h >> (guard (leb (rest_is h) most) (nr 17 []) >> ending limit room (size_is h) (after_limit h)))
  unfolding answer_of permit
  in_order = simp then_then

  -- what is found decides the answer
  pub settled_found : {early late : Fit (Unit {0})} {m : ℕ} → Found h early m late → settled_of early m limit late room ≡ answer_of limit room h
  unfolding size_is
  settled_found {early} {late} {m} f = go (le_or m most)
    where
      go : (m ≤ most) ⊎ (most < m) → settled_of early m limit late room ≡ answer_of limit room h
      go (inl l) = let i : m ≡ rest_is h = rest_small (rest_is h) m f.rest l in rw (f.early, f.late, i) (sym in_order)
      go (inr l) = rw (f.early, lt-leb m most l) (sym (in_order ∙ rw (lt-leb (rest_is h) most (rest_large (rest_is h) m f.rest l))))

-- ---- the answer decides what is written

module _ (limit : Option ℕ) (h : Handed) (before : List ℕ) where
  -- refused: nothing is stored
  pub none_written : (k : Refusal) → bad k ≡ answer_of limit (length before) h → Written limit h before before (bad k)
  unfolding answer_of
  none_written k e = go (permit limit (length before) h) refl e
    where
      go : (p : Fit (Unit {0})) → permit limit (length before) h ≡ p → bad k ≡ (p >> got (size_is h)) → Written limit h before before (bad k)
      go (got u) p e = absurd (bad_got e)
      go (bad j) p e = writes_none limit h before k (cc)

  -- the same, of a refusal that leaves by a `?`
  pub none_handed_on : (r : Result ℕ Error) (e : Error) → IsErrAnd r (λ y. y ≡ e) → bad (told_error e) ≡ answer_of limit (length before) h → Written limit h before before (told_size r)
  none_handed_on r e i a = let p = err_from_is_err_and r i in rw (p.1, p.2) (none_written (told_error e) a)

  module _ (n : ℕ) (e : got n ≡ answer_of limit (length before) h) where
    permitted : permit limit (length before) h ≡ got tt
    unfolding answer_of
    permitted = go (permit limit (length before) h) e
      where
        go : (p : Fit (Unit {0})) → got n ≡ (p >> got (size_is h)) → p ≡ got tt
        go (got u) e = refl
        go (bad j) e = absurd (bad_got (sym e))

    -- accepted: the frame is stored, if what is put is the frame of what can be written
    pub frame_written : (after : List ℕ) → Stored h before after → Written limit h before after (got n)
    frame_written after f =
        let a = (answered_when limit (length before) h n).0 (sym e) in
        let c = a.0.countable in
        rw a.1 at (writes_all limit h before permitted after (f ((belongs_when h).1 c.belongs) c.rest c.fields a.0.numbers))

    -- the same, if it is the frame of what belongs together and is not too long
    pub all_written : (after : List ℕ) → (belongs h ≡ true → rest_is h ≤ most → after ≡ sets before 0 (frame_bytes h)) → Written limit h before after (got n)
    all_written after f = frame_written after (λ b r w i. f b r)
