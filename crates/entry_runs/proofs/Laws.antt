-- The n-th reason and the n-th topic at a place of any bytes. Assumes nothing.
use Rattle.std.specs.Prelude as std
use Rattle.std.specs.Prelude.{Some}
use mathlib.Core.Path.{◌≡◌, refl}
use mathlib.Core.Bool.{Bool, true, false, cond}
use lib.Dec.{eqb}
use mathlib.Core.List.{List}
use Prim.Native.Nat.{ℕ, ◌+◌, ◌≤◌, ◌<◌}
use lib.ListN.{length, take, drop}
use Rattle.reading.specs.Reader.{got, bad}
use Rattle.reading.specs.Read.{reason_of, text_of, reasons_fit, topics_fit}
use Rattle.reading.specs.Place.{Span, as_places, no_item, reason_at, topic_at}
use Rattle.positions.specs.Nth.{chosen, nth_run}
use Rattle.records.specs.AsNumbers.{told_span}
use Rattle.records.specs.Answered.{told_reason_item, told_topic_item}
use Rattle.records.specs.declared.span.Span.{Span as CodeSpan}
use Rattle.entry_runs.specs.EntryRun.{kept_of}
use Rattle.positions.proofs.Nth.{run_outside, run_within}

module _ (s : List ℕ) (p : Span) (n : ℕ) where
  pub reason_outside : (rs : List ℕ) → length s < p.start + p.len → bad no_item ≡ reason_at s p rs n
  unfolding reason_at reasons_fit
  reason_outside rs h = run_outside (λ _. reason_of rs) s p n h

  pub reason_within : (rs : List ℕ) → p.start + p.len ≤ length s → nth_run (reason_of rs) n (drop p.start (take (p.start + p.len) s)) ≡ reason_at s p rs n
  unfolding reason_at reasons_fit
  reason_within rs h = run_within (λ _. reason_of rs) s p n h

  pub topic_outside : length s < p.start + p.len → bad no_item ≡ topic_at as_places s p n
  unfolding topic_at topics_fit
  topic_outside h = run_outside (text_of as_places) s p n h

  pub topic_within : p.start + p.len ≤ length s → nth_run (text_of as_places (length (take (p.start + p.len) s))) n (drop p.start (take (p.start + p.len) s)) ≡ topic_at as_places s p n
  unfolding topic_at topics_fit
  topic_within h = run_within (text_of as_places) s p n h

-- ---- the entry that is kept

pub kept_reason : (item : std.Option ℕ) (v turn n : ℕ) → told_reason_item (kept_of item v turn n) ≡ chosen (told_reason_item item) v turn n
kept_reason item v turn n = go (eqb turn n)
  where
    go : (b : Bool) → told_reason_item (cond b (Some v) item) ≡ cond b (got v) (told_reason_item item)
    go true = refl
    go false = refl

pub kept_topic : (item : std.Option CodeSpan) (v : CodeSpan) (turn n : ℕ) → told_topic_item (kept_of item v turn n) ≡ chosen (told_topic_item item) (told_span v) turn n
kept_topic item v turn n = go (eqb turn n)
  where
    go : (b : Bool) → told_topic_item (cond b (Some v) item) ≡ cond b (got (told_span v)) (told_topic_item item)
    go true = refl
    go false = refl
