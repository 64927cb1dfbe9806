-- A size and a write behind a head, of every kind: 20 and the QoS are refused first, and touch nothing; any other hand-over is sized and written.
-- Assumes nothing.
use mathlib.Core.Path.{◌≡◌, refl, sym, ap, ◌∙◌}
use mathlib.Core.Bool.{Bool, true, false, cond}
use mathlib.Core.Option.{Option}
use mathlib.Core.List.{List, []}
use Prim.Native.Nat.{ℕ}
use lib.ListN.{length}
use Rattle.reading.specs.Refusal.{Refusal, nr}
use Rattle.reading.specs.Reader.{Fit, got, bad}
use Rattle.writing.specs.Handed.{Handed, belongs}
use Rattle.writing.specs.Order.{permit}
use Rattle.writing.specs.Write.{size_of, write_of, answer_of, out_of, Written, sized_behind, answered_behind, out_behind, WrittenBehind}
use Rattle.c_heads.specs.By.{behind}

-- ---- what comes before the packet's own order

behind_off : (q : Fit (Unit {0})) (h : Handed) → behind (false, q, h) ≡ bad (nr 20 [])
unfolding behind
behind_off q h = refl

behind_bad : (k : Refusal) (h : Handed) (t : Bool) → belongs h ≡ t → behind (true, bad k, h) ≡ bad (cond t k (nr 20 []))
unfolding behind
behind_bad k h true e = rw e
behind_bad k h false e = rw e

behind_fine : (h : Handed) → belongs h ≡ true → behind (true, got tt, h) ≡ got h
unfolding behind
behind_fine h e = rw e

behind_foreign : (h : Handed) → belongs h ≡ false → behind (true, got tt, h) ≡ bad (nr 20 [])
unfolding behind
behind_foreign h e = rw e

-- ---- what does not belong together is 20 in the packet's own order too

size_foreign : (h : Handed) → belongs h ≡ false → size_of h ≡ bad (nr 20 [])
unfolding size_of
size_foreign h e = rw e

answer_foreign : (limit : Option ℕ) (room : ℕ) (h : Handed) → belongs h ≡ false → answer_of limit room h ≡ bad (nr 20 [])
unfolding answer_of permit
answer_foreign limit room h e = rw e

write_foreign : (limit : Option ℕ) (room : ℕ) (h : Handed) → belongs h ≡ false → write_of limit room h ≡ bad (nr 20 [])
unfolding write_of permit
write_foreign limit room h e = rw e

-- ---- sizes

sized_again : (h : Handed) (t : Bool) → belongs h ≡ t → size_of h ≡ sized_behind (behind (true, got tt, h))
unfolding sized_behind
sized_again h true e = rw (behind_fine h e)
sized_again h false e = rw (behind_foreign h e) (size_foreign h e)

pub sized_off : (q : Fit (Unit {0})) (h : Handed) → bad (nr 20 []) ≡ sized_behind (behind (false, q, h))
unfolding sized_behind
sized_off q h = rw (behind_off q h)

pub sized_bad : (k : Refusal) (h : Handed) {r : Refusal} → r ≡ cond (belongs h) k (nr 20 []) → bad r ≡ sized_behind (behind (true, bad k, h))
unfolding sized_behind
sized_bad k h e = rw (behind_bad k h (belongs h) refl) (ap bad e)

pub sized_fine : (h : Handed) {told : Fit ℕ} → told ≡ size_of h → told ≡ sized_behind (behind (true, got tt, h))
sized_fine h e = e ∙ sized_again h (belongs h) refl

-- ---- writes

module _ (limit : Option ℕ) (before : List ℕ) where
  refused_behind : (f : Fit Handed) (k : Refusal) → f ≡ bad k → WrittenBehind limit f before before (bad k)
  unfolding answered_behind out_behind
  refused_behind f k e = record { answer = rw e; output = rw e }

  answered_again : (h : Handed) (t : Bool) → belongs h ≡ t → answer_of limit (length before) h ≡ answered_behind (behind (true, got tt, h)) limit before
  unfolding answered_behind
  answered_again h true e = rw (behind_fine h e)
  answered_again h false e = rw (behind_foreign h e) (answer_foreign limit (length before) h e)

  out_again : (h : Handed) (t : Bool) → belongs h ≡ t → out_of limit before h ≡ out_behind (behind (true, got tt, h)) limit before
  unfolding out_behind out_of
  out_again h true e = rw (behind_fine h e)
  out_again h false e = rw (behind_foreign h e, write_foreign limit (length before) h e)

  pub written_off : (q : Fit (Unit {0})) (h : Handed) → WrittenBehind limit (behind (false, q, h)) before before (bad (nr 20 []))
  written_off q h = refused_behind _ _ (behind_off q h)

  pub written_bad : (k : Refusal) (h : Handed) {r : Refusal} → r ≡ cond (belongs h) k (nr 20 []) → WrittenBehind limit (behind (true, bad k, h)) before before (bad r)
  written_bad k h e = refused_behind _ _ (behind_bad k h (belongs h) refl ∙ ap bad (sym e))

  pub written_fine : (h : Handed) {after : List ℕ} {told : Fit ℕ} → Written limit h before after told → WrittenBehind limit (behind (true, got tt, h)) before after told
  written_fine h w = record { answer = w.answer ∙ answered_again h (belongs h) refl; output = w.output ∙ out_again h (belongs h) refl }
