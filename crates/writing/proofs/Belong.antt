-- 20, 12 and 13 are given exactly when their rows say; what a plain success is; an absent block has nothing in it. Assumes nothing.
use mathlib.Core.Path.{◌≡◌, refl, sym}
use mathlib.Core.Bool.{Bool, true, false, not, ◌||◌, false≢true}
use mathlib.Core.Option.{none, some}
use mathlib.Core.Logic.{◌↔◌}
use mathlib.Core.List.{List, [], ◌∷◌}
use Prim.Native.Nat.{◌%◌}
use lib.Dec.{eqb}
use lib.ListN.{length}
use borrow.Author.Tests.{eqb-true}
use Rattle.grammar.specs.Choice.{is_empty}
use Rattle.grammar.specs.Tables.{Forms, Row, publish_row, subscribe_row, ack_row, unsubscribe_row}
use Rattle.grammar.specs.Octets.{Each, nil, ◌&◌}
use Rattle.writing.specs.Lists.{flat, sum}
use Rattle.writing.specs.Handed.{AckHanded, Handed, publish, ack, subscribe, reply, unsubscribe, ping, Given, one, lent, pairs, several, Givens, publish_given, subscribe_given, ack_given, unsubscribe_given, strings, items, tag, entries, filters, adds_up, coherent, nothing_given, block_belongs, filters_belong, belongs}
use Rattle.writing.specs.Size.{is_plain}
use Rattle.writing.specs.Order.{has_ident, has_entries}
use Rattle.writing.specs.Refuse.{Coherent, NothingGiven, InBlock, Belongs, LacksIdent, LacksEntries}
use Rattle.writing.proofs.Tests.{and_when, or_when, not_when, nil_when, eq_when, eq_not, all_when}

-- ---- what belongs together

sorted_when : (g : Given) → (coherent g ≡ true) ↔ Coherent g
sorted_when (one o) = (λ _. tt, λ _. refl)
sorted_when (lent l) = or_when l.on (is_empty l.bytes) (nil_when l.bytes)
sorted_when (pairs r) =
    and_when (adds_up r) (eqb (length r.lengths % 2) 0) (eq_when (sum r.lengths) (length r.bytes)) (eq_when (length r.lengths % 2) 0)
sorted_when (several ns) = (λ _. tt, λ _. refl)

nothing_when : (g : Given) → (nothing_given g ≡ true) ↔ NothingGiven g
nothing_when (one none) = (λ _. refl, λ _. refl)
nothing_when (one (some n)) = (λ e. absurd (false≢true e), λ e. cc)
nothing_when (lent l) = and_when (not l.on) (is_empty l.bytes) (not_when l.on) (nil_when l.bytes)
nothing_when (pairs r) = and_when (is_empty r.bytes) (is_empty r.lengths) (nil_when r.bytes) (nil_when r.lengths)
nothing_when (several ns) = nil_when ns

block_when : (row : Row) (block : Bool) (g : Givens) → (block_belongs row block g ≡ true) ↔ Each (InBlock block g) row.forms
unfolding block_belongs
block_when row block g = all_when _ (λ r. and_when (coherent (g r.0)) (block || nothing_given (g r.0)) (sorted_when (g r.0)) (or_when block (nothing_given (g r.0)) (nothing_when (g r.0)))) row.forms

-- 01, row 20
pub belongs_when : (h : Handed) → (belongs h ≡ true) ↔ Belongs h
unfolding belongs filters_belong
belongs_when (publish h) = block_when publish_row h.block (publish_given h)
belongs_when (ack k h) = block_when ack_row h.block (ack_given h.text h.user)
belongs_when (subscribe h) =
    and_when (block_belongs subscribe_row h.block (subscribe_given h)) (filters_belong h.filters h.options) (block_when subscribe_row h.block (subscribe_given h))
    (and_when (adds_up h.filters) (eqb (length h.filters.lengths) (length h.options)) (eq_when (sum h.filters.lengths) (length h.filters.bytes)) (eq_when (length h.filters.lengths) (length h.options)))
belongs_when (reply k h) = block_when ack_row h.block (ack_given h.text h.user)
belongs_when (unsubscribe h) =
    and_when (block_belongs unsubscribe_row h.block (unsubscribe_given h.user)) (adds_up h.topics) (block_when unsubscribe_row h.block (unsubscribe_given h.user))
    (eq_when (sum h.topics.lengths) (length h.topics.bytes))
belongs_when (ping k) = (λ _. tt, λ _. refl)

-- ---- 12 and 13

unnamed : (a b : Bool) → ((a || not b) ≡ false) ↔ ((a ≡ false) × (b ≡ true))
unnamed true b = (λ e. absurd (false≢true (sym e)), λ t. absurd (false≢true (sym t.0)))
unnamed false true = (λ e. (refl, refl), λ t. refl)
unnamed false false = (λ e. absurd (false≢true (sym e)), λ t. absurd (false≢true t.1))

never : (true ≡ false) ↔ ⊥
never = (λ e. false≢true (sym e), λ f. absurd f)

-- 01, row 12
pub unnamed_when : (h : Handed) → (has_ident h ≡ false) ↔ LacksIdent h
unnamed_when (publish h) =
    let w = unnamed (eqb h.qos 0) (eqb h.ident 0) in
    (λ e. let p = w.0 e in ((eq_not h.qos 0).0 p.0, eqb-true h.ident 0 p.1), λ t. w.1 ((eq_not h.qos 0).1 t.0, (eq_when h.ident 0).1 t.1))
unnamed_when (ack k h) = never
unnamed_when (subscribe h) = never
unnamed_when (reply k h) = never
unnamed_when (unsubscribe h) = never
unnamed_when (ping k) = never

none_when : {A : Type 0} (l : List A) → (not (is_empty l) ≡ false) ↔ (l ≡ [])
none_when [] = (λ _. refl, λ _. refl)
none_when (a ∷ l) = (λ e. absurd (false≢true (sym e)), λ e. cc)

-- 01, row 13
pub unasked_when : (h : Handed) → (has_entries h ≡ false) ↔ LacksEntries h
unasked_when (publish h) = never
unasked_when (ack k h) = never
unasked_when (subscribe h) = none_when (filters h)
unasked_when (reply k h) = none_when h.reasons
unasked_when (unsubscribe h) = none_when (strings h.topics)
unasked_when (ping k) = never

-- ---- a plain success

-- 01, grammar: "A successful PubAck with properties absent"
pub plain_when : (h : AckHanded) → (is_plain h ≡ true) ↔ ((h.reason ≡ 0) × (h.block ≡ false))
plain_when h = and_when (eqb h.reason 0) (not h.block) (eq_when h.reason 0) (not_when h.block)

-- ---- an absent block

nothing_items : (g : Given) → NothingGiven g → items g ≡ []
nothing_items (one o) e = rw e
nothing_items (lent l) (e, _) = rw e
nothing_items (pairs r) (_, e) = rw e
nothing_items (several ns) e = rw e

nothing_rows : {block : Bool} → block ≡ false → (g : Givens) {rs : Forms} → Each (InBlock block g) rs → flat (λ r. tag r (items (g r.0))) rs ≡ []
nothing_rows e g nil = refl
nothing_rows e g (◌&◌ {a = r} p ps) = rw (nothing_items (g r.0) (p.1 e), nothing_rows e g ps)

pub nothing_entries : (row : Row) (block : Bool) (g : Givens) → Each (InBlock block g) row.forms → block ≡ false → entries row g ≡ []
unfolding entries
nothing_entries row block g rows e = nothing_rows e g rows
