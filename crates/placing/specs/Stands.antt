-- Where the properties of a sentence stand, as 02's P7 says it: by the fields before them, and with no reader. Assumes nothing.
use Rattle.std.specs.Prelude.{◌≡◌, List, ◌∷◌, ◌++◌, ℕ, ◌+◌, ◌≤◌, length}
use Rattle.std.proofs.Math.Option.{Option, none, some}
use Rattle.grammar.specs.Choice.{lookup}
use Rattle.grammar.specs.Number.{Byte, Big, Spells}
use Rattle.grammar.specs.Sentence.{Ident}
use Rattle.grammar.specs.Tables.{Row, Layout, a_publish, an_ack, a_subscribe, a_reply, an_unsubscribe, a_ping, kinds}
use Rattle.grammar.specs.Record.{PropOf, publish, ack, subscribe, reply, unsubscribe, ping, kind_of, flag_qos}
use Rattle.reading.specs.Place.{Span, Placed, on_some}
use Rattle.placing.specs.Placing.{place_of, ThenAt, BytesAt, ManyAt, PropertyAt}

-- the place of a record's block, if it has one
abbrev pub block_place : Placed → Option Span
block_place (publish m) = on_some (λ ps. ps.user) m.props
block_place (ack k m) = on_some (λ ps. ps.user) m.props
block_place (subscribe m) = on_some (λ ps. ps.user) m.props
block_place (reply k m) = on_some (λ ps. ps.user) m.props
block_place (unsubscribe m) = on_some (λ ps. ps.user) m.props
block_place (ping k) = none

-- 01, grammar: the fields h that a layout has before its block, behind `at` bytes, where x is the first byte: "topic, identifier if QoS is 1 or 2", "identifier", "from R = 4 a reason and a block"
pub data HeadAt (x at : ℕ) : Layout → List ℕ → Type 0 where
  of_publish_lem : {z : Span × ℕ} {h : List ℕ} → ThenAt BytesAt (λ _ _. Ident (flag_qos x)) at z h → HeadAt x at a_publish h
  of_ack_lem : {rs h : List ℕ} {z : ℕ × ℕ} → ThenAt (λ _. Big 2) (λ _ _. Byte) at z h → HeadAt x at (an_ack rs) h
  of_subscribe_lem : {i : ℕ} {h : List ℕ} → Big 2 i h → HeadAt x at a_subscribe h
  of_reply_lem : {i : ℕ} {rs h : List ℕ} → Big 2 i h → HeadAt x at (a_reply rs) h
  of_unsubscribe_lem : {i : ℕ} {h : List ℕ} → Big 2 i h → HeadAt x at an_unsubscribe h

-- 01, grammar: the bodies in which no block's length is sent: an acknowledgement's "at R = 2 ..; at R = 3", a ping's
pub data NoLength : Layout → List ℕ → Type 0 where
  short : {rs b : List ℕ} → length b ≤ 3 → NoLength (an_ack rs) b
  pinged : {b : List ℕ} → NoLength a_ping b

-- the two numbers of the body b of a layout, which stands behind `at` bytes, and the place that the record has for the block
pub data StandsAt (x at : ℕ) (l : Layout) (f : List ℕ) : Option Span → ℕ × ℕ → Type 0 where
  -- 02, P7: "where its properties start, after the block's length, and end": c spells L, and the L bytes behind it are properties
  present : (h c b t : List ℕ) → f ≡ h ++ (c ++ (b ++ t)) → HeadAt x at l h → Spells (length b) c → (place : Row) (ps : List (PropOf Span)) → ManyAt (PropertyAt place) (at + length h + length c) ps b
      → StandsAt x at l f (some (place_of (at + length h + length c) b)) (at + length h + length c, at + length h + length c + length b)
  -- 02, P7: "When absent they are equal: the place after the block's length"
  absent : (h c t : List ℕ) → f ≡ h ++ (c ++ t) → HeadAt x at l h → Spells 0 c → StandsAt x at l f none (at + length h + length c, at + length h + length c)
  -- 02, P7: "or F where no length was sent"
  unsent : NoLength l f → StandsAt x at l f none (at + length f, at + length f)

-- the same of a frame f: its body stands behind the first byte and R
pub data StandsIn (f : List ℕ) (o : Option Span) (z : ℕ × ℕ) : Type 0 where
  in_frame : {x : ℕ} {l : Layout} (c b : List ℕ) → f ≡ x ∷ (c ++ b) → lookup kinds (kind_of x) ≡ some l → Spells (length b) c → StandsAt x (1 + length c) l b o z → StandsIn f o z
