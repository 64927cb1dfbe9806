-- The frame that was read: its tidy form by the kind of its first byte, and what is told of the stream that it begins. Assumes nothing.
use mathlib.Core.Path.{◌≡◌, refl, sym, ap, ◌∙◌, subst}
use mathlib.Core.Bool.{Bool, true, false}
use mathlib.Core.Option.{Option, none, some}
use mathlib.Core.List.{List, [], ◌∷◌, ◌++◌, append-nil}
use Prim.Native.Nat.{ℕ, ◌≤◌, ◌<◌}
use native.Mathlib.Omega.{arith}
use lib.Dec.{leb}
use lib.ListN.{length, take, drop, get_or}
use lib.Seq.{take_at}
use borrow.Author.Tests.{leb-true, leb-false}
use Rattle.std.specs.Prelude.{Err}
use Rattle.grammar.specs.Choice.{lookup}
use Rattle.grammar.specs.Octets.{Octets}
use Rattle.grammar.specs.Tables.{Row, publish_row, subscribe_row, ack_row, unsubscribe_row, Layout, a_publish, an_ack, a_subscribe, a_reply, an_unsubscribe, a_ping, kinds, first_of}
use Rattle.grammar.specs.Record.{kind_of}
use Rattle.grammar.specs.Sentence.{Packet, Sentence}
use Rattle.reading.specs.Refusal.{Refusal, nr, Answer, accepted, refused, refused_as}
use Rattle.reading.specs.Reader.{got}
use Rattle.reading.specs.Read.{read_of}
use Rattle.reading.specs.Place.{Placed, read_placed_of}
use Rattle.reading.specs.Bounds.{frame_bounds, bounds_of}
use Rattle.reading.proofs.Places.{placed_refused, placed_accepted}
use Rattle.reading.proofs.Demand.{reads_sentence}
use Rattle.reading.proofs.Theorems.{suffix}
use Rattle.writing.specs.Write.{frame_bytes}
use Rattle.records.specs.AsNumbers.{told_error}
use Rattle.records.specs.declared.error.Error.{Error}
use Rattle.kinds.specs.Kinds.{kind_row}
use Rattle.tables.specs.Property.{table_row}
use Rattle.tables.specs.declared.property.PropertyRow.{PropertyRow}
use Rattle.tables.specs.declared.property.PropertyRow.TheVariants as row_of
use Rattle.tidy_form.specs.Tidy.{handed_of, rewrite, tidy_of}
use Rattle.tidy_form.specs.Order.{AsIs, Masked, FrameLaid, short_ack}
use Rattle.tidy_form.proofs.Tidy.{tidy_refused}
use Rattle.tidy_form.proofs.Form.{never}
use Rattle.tidy_form.proofs.Layouts.{bounds_alone, publish_frame, reply_frame, unsubscribe_frame, subscribe_frame, ping_frame, ack_frame, ack_short}
use Rattle.tidying.specs.Tidied.{Tidied, room_for, tidied_of, size_in, stands_in, Tidies}
use Rattle.tidying.specs.Copied.{Gives, LaidGiven, Accepted, FrameTidied}
use Rattle.tidying.specs.Way.{ack_way, way_of}
use Rattle.tidying.specs.declared.Way.{Way}
use Rattle.tidying.proofs.Laws.Put.{frame_tidied, carried_kind}

-- ---- by the kind

module _ {s : List ℕ} {start end : ℕ} (a : Accepted s start end) (o : Octets s) where
  abbrev pub Kinded : Option Layout → Type 0
  Kinded l = l ≡ lookup kinds (kind_of (get_or s 0 0))

  pub publish_in : Kinded (some a_publish) → FrameLaid publish_row AsIs (handed_of a.packet) (get_or s 0 0) s start end
  publish_in e = publish_frame a.packet s a.sentence o start end a.bounds (sym e)

  module _ {first : ℕ} (i : first ≡ first_of (kind_of (get_or s 0 0))) where
    pub reply_in : {rs : List ℕ} → Kinded (some (a_reply rs)) → FrameLaid ack_row AsIs (handed_of a.packet) first s start end
    reply_in {rs} e = rw i (reply_frame a.packet s a.sentence o start end a.bounds rs (sym e))

    pub unsubscribe_in : Kinded (some an_unsubscribe) → FrameLaid unsubscribe_row AsIs (handed_of a.packet) first s start end
    unsubscribe_in e = rw i (unsubscribe_frame a.packet s a.sentence o start end a.bounds (sym e))

    pub subscribe_in : Kinded (some a_subscribe) → FrameLaid subscribe_row Masked (handed_of a.packet) first s start end
    subscribe_in e = rw i (subscribe_frame a.packet s a.sentence o start end a.bounds (sym e))

    pub ack_in : {rs : List ℕ} → Kinded (some (an_ack rs)) → start < end → FrameLaid ack_row AsIs (handed_of a.packet) first s start end
    ack_in {rs} e h = rw i (ack_frame a.packet s a.sentence o start end a.bounds rs (sym e) h)

    -- an identifier stands behind the length
    pub short_long : {rs : List ℕ} → Kinded (some (an_ack rs)) → end ≤ start → 4 ≤ length s
    short_long {rs} e h = (ack_short a.packet s a.sentence o start end a.bounds rs (sym e) h).0

    pub short_tidied : {rs : List ℕ} {before after : List ℕ} {r : Tidied} → Kinded (some (an_ack rs)) → end ≤ start → Gives (short_ack first s) (length s) before after r → FrameTidied s before after r
    short_tidied {rs} {before} {after} {r} e h g =
        let f : frame_bytes (handed_of a.packet) ≡ short_ack first s = (ack_short a.packet s a.sentence o start end a.bounds rs (sym e) h).2 ∙ ap (λ (k : ℕ). short_ack k s) (sym i) in
        frame_tidied s start end before after r a o (rw f g)

    pub ping_tidied : {before after : List ℕ} {r : Tidied} → Kinded (some a_ping) → Gives (first ∷ 0 ∷ []) (length s) before after r → FrameTidied s before after r
    ping_tidied {before} {after} {r} e g =
        let f : frame_bytes (handed_of a.packet) ≡ first ∷ 0 ∷ [] = ping_frame a.packet s a.sentence o start end a.bounds (sym e) ∙ ap (λ (k : ℕ). k ∷ 0 ∷ []) (sym i) in
        frame_tidied s start end before after r a o (rw f g)

  -- a frame with a block
  pub laid_tidied : {row : Row} {T : List ℕ → List ℕ → Type 0} {first : ℕ} {before after : List ℕ} {r : Tidied} → FrameLaid row T (handed_of a.packet) first s start end
      → LaidGiven row T first s start end before after r → FrameTidied s before after r
  laid_tidied {before = before} {after = after} {r = r} w g = frame_tidied s start end before after r a o (g (handed_of a.packet) w)

  -- its properties stand behind a byte at least
  pub laid_start : {row : Row} {T : List ℕ → List ℕ → Type 0} {first : ℕ} → FrameLaid row T (handed_of a.packet) first s start end → 1 ≤ start
  laid_start w = omega (arith, w.starts)

  -- no kind that is not carried
  pub never_kind : {X : Type 0} → Kinded none → X
  never_kind e = carried_kind a.packet s a.sentence (sym e)

-- ---- by the way

-- the row of the kind says the layout
pub way_as : (x : ℕ) (bare : Bool) {t : ℕ × Bool × Option Layout} → t ≡ kind_row (kind_of x) → way_of t.2 x bare ≡ way_of (lookup kinds (kind_of x)) x bare
way_as x bare e = ap (λ (z : ℕ × Bool × Option Layout). way_of z.2 x bare) e

-- the layouts that go each way
filters_kind : (l : Option Layout) (x first : ℕ) (t : Bool) → Way.Filters first ≡ way_of l x t → (l ≡ some a_subscribe) × (first ≡ first_of (kind_of x))
filters_kind none x first t e = never (cc)
filters_kind (some a_publish) x first t e = never (cc)
filters_kind (some (an_ack rs)) x first true e = never (cc)
filters_kind (some (an_ack rs)) x first false e = never (cc)
filters_kind (some a_subscribe) x first t e = (refl, cc)
filters_kind (some (a_reply rs)) x first t e = never (cc)
filters_kind (some an_unsubscribe) x first t e = never (cc)
filters_kind (some a_ping) x first t e = never (cc)

short_kind : (l : Option Layout) (x first : ℕ) (t : Bool) → Way.Short first ≡ way_of l x t → (rs : List ℕ) × (l ≡ some (an_ack rs)) × (first ≡ first_of (kind_of x)) × (t ≡ true)
short_kind none x first t e = never (cc)
short_kind (some a_publish) x first t e = never (cc)
short_kind (some (an_ack rs)) x first true e = (rs, refl, cc, refl)
short_kind (some (an_ack rs)) x first false e = never (cc)
short_kind (some a_subscribe) x first t e = never (cc)
short_kind (some (a_reply rs)) x first t e = never (cc)
short_kind (some an_unsubscribe) x first t e = never (cc)
short_kind (some a_ping) x first t e = never (cc)

ping_kind : (l : Option Layout) (x first : ℕ) (t : Bool) → Way.Ping first ≡ way_of l x t → (l ≡ some a_ping) × (first ≡ first_of (kind_of x))
ping_kind none x first t e = never (cc)
ping_kind (some a_publish) x first t e = never (cc)
ping_kind (some (an_ack rs)) x first true e = never (cc)
ping_kind (some (an_ack rs)) x first false e = never (cc)
ping_kind (some a_subscribe) x first t e = never (cc)
ping_kind (some (a_reply rs)) x first t e = never (cc)
ping_kind (some an_unsubscribe) x first t e = never (cc)
ping_kind (some a_ping) x first t e = (refl, cc)

no_kind : (l : Option Layout) (x : ℕ) (t : Bool) → Way.No ≡ way_of l x t → l ≡ none
no_kind none x t e = refl
no_kind (some a_publish) x t e = never (cc)
no_kind (some (an_ack rs)) x true e = never (cc)
no_kind (some (an_ack rs)) x false e = never (cc)
no_kind (some a_subscribe) x t e = never (cc)
no_kind (some (a_reply rs)) x t e = never (cc)
no_kind (some an_unsubscribe) x t e = never (cc)
no_kind (some a_ping) x t e = never (cc)

module _ {s : List ℕ} {start end : ℕ} (a : Accepted s start end) (o : Octets s) where
  abbrev pub Goes : Way → Type 0
  Goes w = w ≡ way_of (lookup kinds (kind_of (get_or s 0 0))) (get_or s 0 0) (leb end start)

  abbrev BlockLaid : PropertyRow → ℕ → Type 0
  BlockLaid w first = FrameLaid (table_row w) AsIs (handed_of a.packet) first s start end

  ack_block : (w : PropertyRow) (first : ℕ) (rs : List ℕ) (t : Bool) → leb end start ≡ t → Kinded a o (some (an_ack rs)) → Way.Block w first ≡ ack_way (first_of (kind_of (get_or s 0 0))) t → BlockLaid w first
  ack_block w first rs true h k e = never (cc)
  ack_block w first rs false h k e =
      let p : w ≡ row_of.Ack = cc in
      let q : first ≡ first_of (kind_of (get_or s 0 0)) = cc in
      rw p (ack_in a o q k (leb-false end start h))

  block_laid : (w : PropertyRow) (first : ℕ) (l : Option Layout) → Kinded a o l → Way.Block w first ≡ way_of l (get_or s 0 0) (leb end start) → BlockLaid w first
  block_laid w first none k e = never (cc)
  block_laid w first (some a_publish) k e =
      let p : w ≡ row_of.Publish = cc in
      let q : first ≡ get_or s 0 0 = cc in
      rw (p, q) (publish_in a o k)
  block_laid w first (some (an_ack rs)) k e = ack_block w first rs (leb end start) refl k e
  block_laid w first (some a_subscribe) k e = never (cc)
  block_laid w first (some (a_reply rs)) k e =
      let p : w ≡ row_of.Ack = cc in
      let q : first ≡ first_of (kind_of (get_or s 0 0)) = cc in
      rw p (reply_in a o q k)
  block_laid w first (some an_unsubscribe) k e =
      let p : w ≡ row_of.Unsubscribe = cc in
      let q : first ≡ first_of (kind_of (get_or s 0 0)) = cc in
      rw p (unsubscribe_in a o q k)
  block_laid w first (some a_ping) k e = never (cc)

  -- a block of this row
  pub way_block : {w : PropertyRow} {first : ℕ} → Goes (Way.Block w first) → BlockLaid w first
  way_block {w} {first} e = block_laid w first (lookup kinds (kind_of (get_or s 0 0))) refl e

  pub way_filters : {first : ℕ} → Goes (Way.Filters first) → FrameLaid subscribe_row Masked (handed_of a.packet) first s start end
  way_filters {first} e = let (k, i) = filters_kind (lookup kinds (kind_of (get_or s 0 0))) (get_or s 0 0) first (leb end start) e in subscribe_in a o i (sym k)

  module _ {first : ℕ} (e : Goes (Way.Short first)) where
    pub way_long : 4 ≤ length s
    way_long = let (rs, k, i, t) = short_kind (lookup kinds (kind_of (get_or s 0 0))) (get_or s 0 0) first (leb end start) e in short_long a o i (sym k) (leb-true end start t)

    pub way_short : {before after : List ℕ} {r : Tidied} → Gives (short_ack first s) (length s) before after r → FrameTidied s before after r
    way_short g = let (rs, k, i, t) = short_kind (lookup kinds (kind_of (get_or s 0 0))) (get_or s 0 0) first (leb end start) e in short_tidied a o i (sym k) (leb-true end start t) g

  pub way_ping : {first : ℕ} {before after : List ℕ} {r : Tidied} → Goes (Way.Ping first) → Gives (first ∷ 0 ∷ []) (length s) before after r → FrameTidied s before after r
  way_ping {first} e g = let (k, i) = ping_kind (lookup kinds (kind_of (get_or s 0 0))) (get_or s 0 0) first (leb end start) e in ping_tidied a o i (sym k) g

  pub way_no : {X : Type 0} → Goes Way.No → X
  way_no e = never_kind a o (sym (no_kind (lookup kinds (kind_of (get_or s 0 0))) (get_or s 0 0) (leb end start) e))

-- ---- the stream

module _ (s before : List ℕ) where
  refused_as_lem : (k : Refusal) (n : ℕ) → refused_as k n ≡ read_placed_of none s → (room : ℕ) → tidied_of s room ≡ refused_as k n
  unfolding tidied_of
  refused_as_lem (nr k vs) n e room =
      let f : read_of none s ≡ refused k vs n = (placed_refused none s k vs n).0 (sym e) in
      rw (tidy_refused s k vs n f, f)

  size_refused : (k : Refusal) (n : ℕ) (m : Answer (List ℕ)) → m ≡ refused_as k n → (refused_as k n ≡ size_in m) × (before ≡ stands_in before m)
  size_refused (nr k vs) n m e = rw e (refl, refl)

  -- the reader's refusal, and what it takes
  pub tidies_refused : (e : Error) (n : ℕ) → refused_as (told_error e) n ≡ read_placed_of none s → Tidies s before before (Err (e, n))
  tidies_refused e n i =
      let (p, q) = size_refused (told_error e) n (tidied_of s (length before)) (refused_as_lem (told_error e) n i (length before)) in
      record { answer = p; output = q }

module _ (s : List ℕ) {v : Placed} {n : ℕ} (e : accepted v n ≡ read_placed_of none s) {f : List ℕ} (t : f ≡ take n (drop 0 s)) where
  -- the frame at its start
  frame_in : (w : Packet) × (read_of none s ≡ accepted w n) × Sentence w f × (length f ≡ n) × ((r : List ℕ) × (s ≡ f ++ r))
  frame_in =
      let (w, _, i) = placed_accepted none s v n (sym e) in
      let (b, r, j, k, l) = (reads_sentence s w n).0 i in
      let q : f ≡ b = t ∙ ap (take n) j ∙ take_at b r n l in
      (w, i, subst (λ (c : List ℕ). Sentence w c) (sym q) k, ap length q ∙ l, (r, j ∙ ap (λ (c : List ℕ). c ++ r) (sym q)))

  pub accepted_frame : {start end : ℕ} → got (start, end) ≡ bounds_of none s → Accepted f start end
  unfolding bounds_of
  accepted_frame {start} {end} d =
      let (w, i, k, l, (r, j)) = frame_in in
      let q : got (start, end) ≡ frame_bounds none s = rw (← e) at d in
      record { packet = w; sentence = k; bounds = sym (bounds_alone w f r k) ∙ ap (frame_bounds none) (sym j) ∙ sym q }

  pub tidies_frame : {before after : List ℕ} {r : Tidied} → FrameTidied f before after r → Tidies s before after r
  unfolding tidied_of tidy_of rewrite
  tidies_frame {before} x =
      let (w, i, k, l, _) = frame_in in
      let j : read_of none f ≡ accepted w (length f) = rw (append-nil f) at (suffix w f [] k) in
      let q : tidy_of s ≡ got x.form = ap rewrite i ∙ sym (ap rewrite j) ∙ x.is in
      let y : tidied_of s (length before) ≡ room_for (length before) x.form (length f) = rw (q, i, l) in
      record { answer = x.gives.answer ∙ ap size_in (sym y); output = x.gives.output ∙ ap (stands_in before) (sym y) }
