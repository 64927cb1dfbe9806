-- The two numbers of 02's P7 are those of the sentence: a block that is present ends L bytes behind its start. Assumes nothing.
use mathlib.Core.Path.{◌≡◌, refl, sym, ap, ◌∙◌, subst}
use mathlib.Core.Option.{Option, none, some}
use mathlib.Core.List.{List, [], ◌∷◌, ◌++◌, append_assoc, append-nil}
use Prim.Native.Nat.{ℕ, ◌+◌}
use native.Mathlib.Omega.{arith}
use lib.ListN.{length, length-append}
use Rattle.grammar.specs.Number.{Big, big, byte, Spells}
use Rattle.grammar.specs.Gram.{mapped}
use Rattle.grammar.specs.Tables.{Row, Layout, a_publish, an_ack, a_subscribe, a_reply, an_unsubscribe, a_ping, publish_row, subscribe_row, ack_row, unsubscribe_row}
use Rattle.grammar.specs.Record.{PropOf, PublishProps, publish_props, Props, props_of, unless_empty, mk_publish, mk_subscribe, mk_reply, mk_unsubscribe}
use Rattle.reading.specs.Refusal.{accepted}
use Rattle.reading.specs.Reader.{got}
use Rattle.reading.specs.Place.{Span, Placed, read_placed_of, on_some}
use Rattle.reading.specs.Bounds.{bounds_of, ending_at, bounds_in, bounds_by}
use Rattle.reading.proofs.Bounds.{read_bounds}
use Rattle.placing.specs.Placing.{GramAt, place_of, both, sized, ManyAt, done, HandedAt, handed, PropertyAt, BlockAt, publish_from, props_from, AckRestAt, plain, coded, full, FieldsAt, PlacedSentence, framed}
use Rattle.placing.specs.Stands.{block_place, HeadAt, of_publish_lem, of_ack_lem, of_subscribe_lem, of_reply_lem, of_unsubscribe_lem, short, pinged, StandsAt, present, absent, unsent, StandsIn, in_frame}
use Rattle.placing.proofs.Placed.{read_placed}

-- ---- the block

-- properties that come to none fill no bytes
none_empty : {place : Row} {at : ℕ} {b : List ℕ} → ManyAt (PropertyAt place) at [] b → b ≡ []
none_empty done = refl

-- a block of a row, whose record says where it stands, behind the fields h and before the bytes t
module _ {X : Type 0} (place : Row) (g : Span → List (PropOf Span) → X) (user : X → Span) (u : (p : Span) (ps : List (PropOf Span)) → user (g p ps) ≡ p) {x at : ℕ} {l : Layout} {h : List ℕ} (H : HeadAt x at l h) (t : List ℕ) where
  block_stands : {o : Option X} {b : List ℕ} → BlockAt place (λ ps p. unless_empty (g p) ps) (at + length h) o b → StandsAt x at l (h ++ (b ++ t)) (on_some user o) (ending_at user (at + length h + length b) o)
  block_stands (sized {c = c} n w) = go c n w
    where
      pair_is : {x y : Span} {i j : ℕ} → x ≡ y → i ≡ j → ◌≡◌ {A = Span × ℕ} (x, i) (y, j)
      pair_is a b = rw (a, b)

      go : (c : List ℕ) {b : List ℕ} → Spells (length b) c → {o : Option X} → HandedAt (λ ps p. unless_empty (g p) ps) (ManyAt (PropertyAt place)) (at + length h + length c) o b
          → StandsAt x at l (h ++ ((c ++ b) ++ t)) (on_some user o) (ending_at user (at + length h + length (c ++ b)) o)
      go c n (handed {a = []} {b = b} m) =
          let z : length b ≡ 0 = ap length (none_empty m) in
          let e : at + length h + length (c ++ b) ≡ at + length h + length c = omega (arith, length-append c b, z) in
          subst (λ (i : ℕ). StandsAt x at l (h ++ ((c ++ b) ++ t)) none (i, i)) (sym e)
          (absent h c t (ap (λ (r : List ℕ). h ++ ((c ++ r) ++ t)) (none_empty m) ∙ ap (λ (r : List ℕ). h ++ (r ++ t)) (append-nil c)) H (subst (λ (i : ℕ). Spells i c) z n))
      go c n (handed {a = p ∷ ps} {b = b} m) =
          let e : at + length h + length c + length b ≡ at + length h + length (c ++ b) = omega (arith, length-append c b) in
          let q : place_of (at + length h + length c) b ≡ user (g (place_of (at + length h + length c) b) (p ∷ ps)) = sym (u (place_of (at + length h + length c) b) (p ∷ ps)) in
          subst (λ (z : Span × ℕ). StandsAt x at l (h ++ ((c ++ b) ++ t)) (some z.0) (z.0.start, z.1)) (pair_is q e)
          (present h c b t (ap (λ (r : List ℕ). h ++ r) (append_assoc c b t)) H n place (p ∷ ps) m)

-- the blocks of the two shapes of records
module _ {x at : ℕ} {l : Layout} {h : List ℕ} (H : HeadAt x at l h) (t : List ℕ) where
  publish_block_lem : {o : Option (PublishProps Span (λ A. Span))} {b : List ℕ} → BlockAt publish_row publish_from (at + length h) o b → StandsAt x at l (h ++ (b ++ t)) (on_some (λ ps. ps.user) o) (ending_at (λ ps. ps.user) (at + length h + length b) o)
  unfolding publish_props
  publish_block_lem = block_stands publish_row (λ p. publish_props Span (λ A. Span) (λ vs. p)) (λ ps. ps.user) (λ p ps. refl) H t

  plain_block_lem : (place : Row) {o : Option (Props Span (λ A. Span))} {b : List ℕ} → BlockAt place props_from (at + length h) o b → StandsAt x at l (h ++ (b ++ t)) (on_some (λ ps. ps.user) o) (ending_at (λ ps. ps.user) (at + length h + length b) o)
  unfolding props_of
  plain_block_lem place = block_stands place (λ p. props_of Span (λ A. Span) (λ vs. p)) (λ ps. ps.user) (λ p ps. refl) H t

-- ---- each layout

two_bytes : {i : ℕ} {b : List ℕ} → Big 2 i b → length b ≡ 2
two_bytes (big e) = e

-- what follows an acknowledgement's identifier, a
ack_stands : (rs : List ℕ) (x at : ℕ) (a : List ℕ) {i : ℕ} → Big 2 i a → {z : ℕ × Option (Props Span (λ A. Span))} {d : List ℕ} → AckRestAt ack_row (at + length a) z d
    → StandsAt x at (an_ack rs) (a ++ d) (on_some (λ ps. ps.user) z.1) (ending_at (λ ps. ps.user) (at + length (a ++ d)) z.1)
ack_stands rs x at a i plain = unsent (short {b = a ++ []} (omega (arith, length-append a [], two_bytes i)))
ack_stands rs x at a i (coded {c = c}) = unsent (short {b = a ++ (c ∷ [])} (omega (arith, length-append a (c ∷ []), two_bytes i)))
ack_stands rs x at a i (full {c = c} {ps = o} {b = b} k) =
    let h : List ℕ = a ++ (c ∷ []) in
    let n : at + length a + 1 ≡ at + length h = omega (arith, length-append a (c ∷ [])) in
    let f : h ++ (b ++ []) ≡ a ++ (c ∷ b) = append_assoc a (c ∷ []) (b ++ []) ∙ ap (λ (r : List ℕ). a ++ (c ∷ r)) (append-nil b) in
    let e : at + length h + length b ≡ at + length (a ++ (c ∷ b)) = omega (arith, length-append a (c ∷ []), length-append a (c ∷ b)) in
    let s : StandsAt x at (an_ack rs) (h ++ (b ++ [])) (on_some (λ ps. ps.user) o) (ending_at (λ ps. ps.user) (at + length h + length b) o) =
    plain_block_lem (of_ack_lem (both i byte)) [] ack_row (subst (λ (m : ℕ). BlockAt ack_row props_from m o b) n k) in
    subst (λ (r : List ℕ). StandsAt x at (an_ack rs) r (on_some (λ ps. ps.user) o) (ending_at (λ ps. ps.user) (at + length (a ++ (c ∷ b))) o)) f
    (subst (λ (m : ℕ). StandsAt x at (an_ack rs) (h ++ (b ++ [])) (on_some (λ ps. ps.user) o) (ending_at (λ ps. ps.user) m o)) e s)

-- a topic a and an identifier i, then the block b and the payload d
message_stands : (x at : ℕ) (a i b d : List ℕ) → HeadAt x at a_publish (a ++ i) → {o : Option (PublishProps Span (λ A. Span))} → BlockAt publish_row publish_from (at + length a + length i) o b
    → StandsAt x at a_publish (a ++ (i ++ (b ++ d))) (on_some (λ ps. ps.user) o) (ending_at (λ ps. ps.user) (at + length a + length i + length b) o)
message_stands x at a i b d H {o = o} k =
    let n : at + length a + length i ≡ at + length (a ++ i) = omega (arith, length-append a i) in
    subst (λ (r : List ℕ). StandsAt x at a_publish r (on_some (λ ps. ps.user) o) (ending_at (λ ps. ps.user) (at + length a + length i + length b) o)) (append_assoc a i (b ++ d))
    (subst (λ (m : ℕ). StandsAt x at a_publish ((a ++ i) ++ (b ++ d)) (on_some (λ ps. ps.user) o) (ending_at (λ ps. ps.user) (m + length b) o)) (sym n)
    (publish_block_lem H d (subst (λ (m : ℕ). BlockAt publish_row publish_from m o b) n k)))

handed_place : {A : Type 0} {G : GramAt A} {q : ℕ} {c : Span} {d : List ℕ} → HandedAt (λ a p. p) G q c d → c ≡ place_of q d
handed_place (handed p) = refl

fields_stand : (l : Layout) (x at : ℕ) (v : Placed) (f : List ℕ) → FieldsAt l x at v f → StandsAt x at l f (block_place v) (bounds_in v (at + length f))
fields_stand a_publish x at _ _ (mapped (both {a = m} {b = a} t (both {a = id} {b = i} n (both {a = o} {c = c} {b = b} {d = d} k p)))) =
    subst (λ (c : Span). StandsAt x at a_publish (a ++ (i ++ (b ++ d))) (on_some (λ ps. ps.user) o) (bounds_in (mk_publish x (m, (id, (o, c)))) (at + length (a ++ (i ++ (b ++ d))))))
    (sym (handed_place p)) (message_stands x at a i b d (of_publish_lem (both t n)) k)
fields_stand (an_ack rs) x at _ _ (mapped (both {b = a} i r)) = ack_stands rs x at a i r
fields_stand a_subscribe x at _ _ (mapped (both {a = id} {b = h} i (both {a = o} {c = c} {b = b} {d = d} k r))) =
    subst (λ (c : Span). StandsAt x at a_subscribe (h ++ (b ++ d)) (on_some (λ ps. ps.user) o) (bounds_in (mk_subscribe (id, (o, c))) (at + length (h ++ (b ++ d)))))
    (sym (handed_place r)) (plain_block_lem (of_subscribe_lem i) d subscribe_row k)
fields_stand (a_reply rs) x at _ _ (mapped (both {a = id} {b = h} i (both {a = o} {c = c} {b = b} {d = d} k r))) =
    subst (λ (c : Span). StandsAt x at (a_reply rs) (h ++ (b ++ d)) (on_some (λ ps. ps.user) o) (bounds_in (mk_reply x (id, (o, c))) (at + length (h ++ (b ++ d)))))
    (sym (handed_place r)) (plain_block_lem (of_reply_lem i) d ack_row k)
fields_stand an_unsubscribe x at _ _ (mapped (both {a = id} {b = h} i (both {a = o} {c = c} {b = b} {d = d} k r))) =
    subst (λ (c : Span). StandsAt x at an_unsubscribe (h ++ (b ++ d)) (on_some (λ ps. ps.user) o) (bounds_in (mk_unsubscribe (id, (o, c))) (at + length (h ++ (b ++ d)))))
    (sym (handed_place r)) (plain_block_lem (of_unsubscribe_lem i) d unsubscribe_row k)
fields_stand a_ping x at _ _ (mapped i) = unsent pinged

-- ---- the sentence, and the record that is read

-- 02, P7, of every sentence
pub sentence_stands : {v : Placed} {f : List ℕ} → PlacedSentence v f → StandsIn f (block_place v) (bounds_in v (length f))
sentence_stands {v = v} (framed {x = x} {l = l} b c i k g) =
    let e : 1 + length c + length b ≡ length (x ∷ (c ++ b)) = omega (arith, length-append c b) in
    in_frame c b refl i k (subst (λ (n : ℕ). StandsAt x (1 + length c) l b (block_place v) (bounds_in v n)) e (fields_stand l x (1 + length c) v b g))

module _ (limit : Option ℕ) (s : List ℕ) (v : Placed) (n : ℕ) (e : read_placed_of limit s ≡ accepted v n) where
  read_numbers : bounds_of limit s ≡ got (bounds_in v n)
  read_numbers = read_bounds limit s ∙ ap bounds_by e

  -- 02, P7: "Every record read shall also carry where its properties start, after the block's length, and end, within the frame", f, of n bytes
  pub read_stands : (f r : List ℕ) × (s ≡ f ++ r) × (length f ≡ n) × (z : ℕ × ℕ) × (bounds_of limit s ≡ got z) × StandsIn f (block_place v) z
  read_stands =
      let (f, r, i, l, p) = read_placed limit s v n e in
      (f, r, i, l, bounds_in v n, read_numbers, subst (λ (k : ℕ). StandsIn f (block_place v) (bounds_in v k)) l (sentence_stands p))

  -- a block that is present starts and ends where the two numbers say: its start, and L bytes behind it
  pub block_ends : (p : Span) → block_place v ≡ some p → bounds_of limit s ≡ got (p.start, p.start + p.len)
  block_ends p i =
      let (f, r, j, l, z, b, k) = read_stands in
      b ∙ ap got (present_is (subst (λ (o : Option Span). StandsIn f o z) i k))
    where
      of_body : {x at : ℕ} {l : Layout} {f : List ℕ} {p : Span} {z : ℕ × ℕ} → StandsAt x at l f (some p) z → z ≡ (p.start, p.start + p.len)
      of_body (present h c b t e H n place ps m) = refl

      present_is : {f : List ℕ} {p : Span} {z : ℕ × ℕ} → StandsIn f (some p) z → z ≡ (p.start, p.start + p.len)
      present_is (in_frame c b e i k w) = of_body w
