-- A reason at an index, and the fields of a reply as those of a kind with entries. Assumes nothing.
use mathlib.Core.Path.{◌≡◌, sym, ap}
use mathlib.Core.Bool.{true, false}
use mathlib.Core.Option.{Option}
use mathlib.Core.List.{List, [], ◌∷◌}
use Prim.Native.Nat.{ℕ, suc, ◌+◌, ◌-◌, ◌<◌}
use native.Mathlib.Omega.{arith}
use lib.ListN.{length, drop, get_or, length-drop}
use lib.Seq.{drop-cons}
use Rattle.grammar.specs.Choice.{is_in}
use Rattle.grammar.specs.Tables.{ack_row, a_reply}
use Rattle.grammar.specs.Record.{Props, reply, kind_of}
use Rattle.reading.specs.Refusal.{nr}
use Rattle.reading.specs.Reader.{got, bad, hand_fit, only_of}
use Rattle.reading.specs.Read.{byte_of, reason_of, reasons_fit, fields_fit}
use Rattle.reading.specs.Place.{Span, Placed, as_places}
use Rattle.positions.specs.Position.{from_at, placed_run}
use Rattle.positions.proofs.Listed.{listed_fields}

module _ (rs s : List ℕ) (i : ℕ) (h : i < length s) where
  pub reason_here : is_in (get_or s i 0) rs ≡ true → got (get_or s i 0, i + 1) ≡ from_at (reason_of rs) s i
  unfolding from_at only_of byte_of
  reason_here e =
      let n : length s - length (drop (suc i) s) ≡ i + 1 = rw length-drop (omega arith) in
      rw (drop-cons s i 0 h, e, n)

  pub reason_not : is_in (get_or s i 0) rs ≡ false → bad (nr 15 (get_or s i 0 ∷ [])) ≡ from_at (reason_of rs) s i
  unfolding from_at only_of byte_of
  reason_not e = rw (drop-cons s i 0 h, e)

-- the record of a reply of the kind k
abbrev pub made_by : ℕ → ℕ × (Option (Props Span (λ A. Span)) × Span) → Placed
made_by k v = reply k (record { ident = v.0; props = v.1.0; reasons = v.1.1 })

-- x is a first byte of the kind
pub as_listed : (rs : List ℕ) (k : ℕ) (s : List ℕ) (at x : ℕ) → kind_of x ≡ k → listed_fields ack_row (placed_run (reason_of rs) (length s)) (made_by k) s at ≡ fields_fit as_places (a_reply rs) x (length s) (drop at s)
unfolding fields_fit hand_fit reasons_fit
as_listed rs k s at x h = ap (λ (n : ℕ). listed_fields ack_row (placed_run (reason_of rs) (length s)) (made_by n) s at) (sym h)
