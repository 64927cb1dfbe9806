-- How a walk over the user properties goes on, property by property; and that its answers are the record's list in order. Assumes nothing.
use Rattle.std.specs.Prelude.{Option, Ok, Err}
use mathlib.Core.Path.{◌≡◌, refl, sym, ◌∙◌, subst}
use mathlib.Core.Bool.{Bool, true, false}
use mathlib.Core.Option.{some}
use mathlib.Core.List.{List}
use Prim.Native.Nat.{ℕ, ◌≤◌, ◌<◌}
use native.Mathlib.Omega.{arith}
use lib.Dec.{leb}
use lib.ListN.{length, drop_of_length-le}
use borrow.Author.Tests.{leb-true, leb-false}
use Rattle.grammar.specs.Record.{Val}
use Rattle.grammar.specs.Tables.{pair, Row, form_at}
use Rattle.reading.specs.Refusal.{cut}
use Rattle.reading.specs.Reader.{Fit, got, bad}
use Rattle.reading.specs.Read.{property_of}
use Rattle.reading.specs.Place.{Span, no_item}
use Rattle.reading.proofs.Reading.{bad_got}
use Rattle.positions.specs.Position.{from_at}
use Rattle.records.specs.Answered.{told_user}
use Rattle.records.specs.declared.error.Error.{Error}
use Rattle.property_value.specs.OneProperty.{told_value, form_of, PropertyRead}
use Rattle.property_value.proofs.Laws.{property_ahead}
use Rattle.property_value.specs.declared.Value.{Value}
use Rattle.walker.specs.Walk.{property_at, Next, here, other, done, UserOf}
use Rattle.records.specs.declared.span.Span.{Span as CodeSpan}

-- ---- one step

some_inj : {A : Type 0} {a b : A} → some a ≡ some b → a ≡ b
some_inj e = cc

-- what comes next from index i on comes next from `at` on
pub record Behind (row : Row) (s : List ℕ) (at i : ℕ) : Type 0 where
  pub goes : (o : Fit (Val Span)) (m : ℕ) → Next row s i o m → Next row s at o m

pub behind_start : {row : Row} {s : List ℕ} {at : ℕ} → Behind row s at at
behind_start = record { goes = λ o m w. w }

pub behind_ahead : {row : Row} {s : List ℕ} {i k n : ℕ} {v : Value} → PropertyRead row s i (Ok (k, v, n)) → i < n
behind_ahead {row = row} {s = s} {i = i} {k = k} {n = n} {v = v} r = property_ahead row s i (k, told_value v) n r.says

-- none is read where the bytes end
none_behind : (row : Row) (s : List ℕ) (i : ℕ) → length s ≤ i → property_at row s i ≡ bad cut
unfolding from_at property_of
none_behind row s i h = rw (drop_of_length-le s h)

pub behind_room : {row : Row} {s : List ℕ} {i k n : ℕ} {v : Value} → PropertyRead row s i (Ok (k, v, n)) → i < length s
behind_room {row = row} {s = s} {i = i} r = go (leb (length s) i) refl
  where
    go : (b : Bool) → leb (length s) i ≡ b → i < length s
    go true h = absurd (bad_got (sym (r.says ∙ none_behind row s i (leb-true (length s) i h))))
    go false h = leb-false (length s) i h

module _ {row : Row} {s : List ℕ} {at i : ℕ} (B : Behind row s at i) where
  pub behind_other : {k n : ℕ} {v : Value} → PropertyRead row s i (Ok (k, v, n)) → (k ≡ 38 → ⊥) → Behind row s at n
  behind_other r h = record { goes = λ o m w. B.goes o m (other (sym r.says) h w) }

  pub next_here : {k n : ℕ} {v : Value} → PropertyRead row s i (Ok (k, v, n)) → k ≡ 38 → some pair ≡ form_at row 38 → {r : Option (CodeSpan × CodeSpan)} → UserOf v r → Next row s at (told_user r) n
  next_here {k = k} {n = n} {v = v} p h f {r = r} u =
      let g : pair ≡ form_of v = some_inj (f ∙ (rw h at p.typed)) in
      let e : got ((38, told_value v), n) ≡ property_at row s i = rw h at p.says in
      B.goes (told_user r) n (subst (λ (o : Fit (Val Span)). Next row s i o n) (sym (u.says (sym g))) (here (sym e)))

  pub next_bad : {e : Error} → PropertyRead row s i (Err e) → Next row s at (bad no_item) i
  next_bad r = B.goes (bad no_item) i (done (sym r.says))

  pub next_end : length s ≤ i → Next row s at (bad no_item) i
  next_end h = B.goes (bad no_item) i (done {k = cut} (none_behind row s i h))

-- where a user property comes next, the walk stands further on then
pub next_ahead : {row : Row} {s : List ℕ} {at m : ℕ} {v : Val Span} → Next row s at (got v) m → at < m
next_ahead {row = row} {s = s} w = go w refl
  where
    go : {at m : ℕ} {v : Val Span} {o : Fit (Val Span)} → Next row s at o m → o ≡ got v → at < m
    go (here {at = at} {m = m} {v = v} e) i = property_ahead row s at (38, v) m (sym e)
    go (other {at = at} {n = n} {i = k} {v = v} e h w) i = omega (arith, property_ahead row s at (k, v) n (sym e), go w i)
    go (done e) i = absurd (bad_got i)
