-- A refusal of one answer as that of another, and the n-th filter at a place of any bytes. Assumes nothing.
use mathlib.Core.Path.{◌≡◌}
use mathlib.Core.List.{List}
use Prim.Native.Nat.{ℕ, ◌+◌, ◌≤◌, ◌<◌}
use lib.ListN.{length, take, drop}
use Rattle.reading.specs.Refusal.{Refusal}
use Rattle.reading.specs.Reader.{Fit, bad}
use Rattle.reading.specs.Read.{filter_of, filters_fit}
use Rattle.reading.specs.Place.{Span, as_places, no_item, filter_at}
use Rattle.positions.specs.Nth.{nth_run}
use Rattle.positions.proofs.Nth.{run_outside, run_within}

pub bad_as : {A B : Type 0} {k l : Refusal} → ◌≡◌ {A = Fit A} (bad k) (bad l) → ◌≡◌ {A = Fit B} (bad k) (bad l)
bad_as {k = k} {l = l} e = let q : k ≡ l = cc in rw q

module _ (s : List ℕ) (p : Span) (n : ℕ) where
  pub filter_outside : length s < p.start + p.len → bad no_item ≡ filter_at as_places s p n
  unfolding filter_at filters_fit
  filter_outside h = run_outside (filter_of as_places) s p n h

  pub filter_within : p.start + p.len ≤ length s → nth_run (filter_of as_places (length (take (p.start + p.len) s))) n (drop p.start (take (p.start + p.len) s)) ≡ filter_at as_places s p n
  unfolding filter_at filters_fit
  filter_within h = run_within (filter_of as_places) s p n h
