-- What is put of filters and of a whole frame, and what is told of it: each put goes on where the one before it ended. Assumes nothing.
use mathlib.Core.Path.{◌≡◌, refl, sym, ap, ◌∙◌, subst}
use mathlib.Core.Bool.{Bool, true, false, ◌||◌, cond}
use mathlib.Core.Option.{none, some}
use mathlib.Core.List.{List, [], ◌∷◌, ◌++◌, append-nil, append_assoc}
use Prim.Native.Nat.{ℕ, suc, ◌+◌, ◌-◌, ◌%◌, ◌≤◌, ◌<◌, min}
use native.Mathlib.Omega.{arith}
use lib.Dec.{eqb, leb}
use lib.ListN.{length, take, drop, get_or, length-append, length-drop}
use lib.Seq.{sets, sets-eq, length-sets, take_all, take_at, drop_at, length-take-le}
use borrow.Author.Tests.{le-leb, lt-leb, leb-false}
use Rattle.std.specs.Prelude.{Ok, Err}
use Rattle.grammar.specs.Choice.{lookup}
use Rattle.grammar.specs.Gram.{Many}
use Rattle.grammar.specs.Octets.{nil, ◌&◌, Octets}
use Rattle.grammar.specs.Tables.{Row, subscribe_row, kinds}
use Rattle.grammar.specs.Record.{kind_of}
use Rattle.grammar.specs.Sentence.{Packet, Sentence}
use Rattle.reading.specs.Refusal.{accepted}
use Rattle.reading.specs.Read.{read_of}
use Rattle.reading.proofs.Theorems.{suffix}
use Rattle.writing.specs.Lists.{flat}
use Rattle.writing.specs.Handed.{Handed}
use Rattle.writing.specs.Spell.{string, filter_bytes}
use Rattle.writing.specs.Write.{frame_bytes}
use Rattle.write_bytes.proofs.Laws.{sets_append, sets_then}
use Rattle.records.specs.declared.error.Error.{Error}
use Rattle.write_properties.specs.Behind.{Behind}
use Rattle.tidy_form.specs.Tidy.{handed_of}
use Rattle.tidy_form.specs.Order.{ordered_bytes, Exact, ExactFilter, AsIs, Masked, FrameLaid, success_in, short_ack}
use Rattle.tidy_form.proofs.Tidy.{tidy_is}
use Rattle.tidy_form.proofs.Layouts.{opened}
use Rattle.tidying.specs.Tidied.{Tidied}
use Rattle.tidying.specs.Copied.{Stands, RowPut, FiltersStand, FilterBetween, FilterPassed, FiltersPut, FrontAt, FrontPut, Gives, LaidGiven, Accepted, FrameTidied}
use Rattle.tidying.proofs.Laws.Pass.{many_more, many_none}

-- ---- what is put if a test holds

pub put_same : (xs : List ℕ) {before after : List ℕ} {to r : ℕ} (t : Bool) (l : List ℕ) → t ≡ true → l ≡ xs → after ≡ sets before to l → r ≡ min (to + length l) (length after) → Behind before to (cond t xs []) after r
put_same xs true l e i j k = record { stores = j ∙ ap (sets _ _) i; place = k ∙ rw i }
put_same xs false l e i j k = let z : ◌≡◌ {A = ℕ} 0 1 = cc in absurd (omega arith)

pub put_other : (xs : List ℕ) {before : List ℕ} {to r : ℕ} (t : Bool) → t ≡ false → r ≡ min (to + 0) (length before) → Behind before to (cond t xs []) before r
put_other xs true e k = let z : ◌≡◌ {A = ℕ} 0 1 = cc in absurd (omega arith)
put_other xs false e k = record { stores = refl; place = k }

-- a put leaves the length alone
pub behind_same : {before xs after : List ℕ} {to r : ℕ} → Behind before to xs after r → length after ≡ length before
behind_same {before} {xs} {to = to} b = ap length b.stores ∙ length-sets before to xs

pub put_same_length : (before after xs : List ℕ) (to : ℕ) → after ≡ sets before to xs → length after ≡ length before
put_same_length before after xs to e = ap length e ∙ length-sets before to xs

-- ---- filters

module _ (s : List ℕ) (at : ℕ) (before : List ℕ) where
  -- of the filters zs, `back` is left from index i on
  pub record Masking (zs : List (List ℕ × ℕ)) (after : List ℕ) (i : ℕ) : Type 0 where
    pub back : List (List ℕ × ℕ)
    pub rest : FiltersStand s i back
    pub goes : sets before at (flat filter_bytes zs) ≡ sets after i (flat filter_bytes back)

  abbrev pub MaskingAll : List ℕ → ℕ → Type 0
  MaskingAll after i = (zs : List (List ℕ × ℕ)) → FiltersStand s at zs → Masking zs after i

  pub mask_start : MaskingAll before at
  mask_start zs w = record { back = zs; rest = w; goes = refl }

  none_left : {i : ℕ} (zs : List (List ℕ × ℕ)) → length s ≤ i → FiltersStand s i zs → zs ≡ []
  none_left [] h w = refl
  none_left {i} (z ∷ zs) h w =
      let (b, c, e, k, r) = many_more w in
      absurd (omega (arith, h, ap length e, length-append b c, ap length k.bytes, length-append (string z.0) (z.1 ∷ []), length-drop i s))

  some_left : {i : ℕ} (zs : List (List ℕ × ℕ)) → i < length s → FiltersStand s i zs → (z : List ℕ × ℕ) × (ys : List (List ℕ × ℕ)) × (zs ≡ z ∷ ys)
  some_left {i} [] h w = absurd (omega (arith, h, ap length (many_none w), length-drop i s))
  some_left (z ∷ zs) h w = (z, zs, refl)

  -- a filter's text, and its options byte without bits 6 and 7
  filter_put : (z : List ℕ × ℕ) (ys : List (List ℕ × ℕ)) (i r : ℕ) (after after₁ after₂ l : List ℕ) → i < length s → (i < r) × (r ≤ length s) → FilterBetween s i z ys r → l ≡ take (r - 1 - i) (drop i s)
      → after₁ ≡ sets after i l → after₂ ≡ sets after₁ (r - 1) (get_or s (r - 1) 0 % 64 ∷ []) → sets after i (flat filter_bytes (z ∷ ys)) ≡ sets after₂ r (flat filter_bytes ys)
  filter_put z ys i r after after₁ after₂ l h (a, b) w e e₁ e₂ =
      let n : length (take (r - 1 - i) (drop i s)) ≡ r - 1 - i = length-take-le (r - 1 - i) (drop i s) (omega (arith, h, a, b, length-drop i s)) in
      let m : r - 1 ≡ i + length (string z.0) = omega (arith, a, n, ap length w.text) in
      let j₁ : after₁ ≡ sets after i (string z.0) = e₁ ∙ ap (sets after i) (e ∙ w.text) in
      let j₂ : after₂ ≡ sets after₁ (r - 1) (z.1 % 64 ∷ []) = e₂ ∙ rw w.options in
      let k : after₂ ≡ sets after i (filter_bytes z) = sets_then (string z.0) (z.1 % 64 ∷ []) after after₁ after₂ i (r - 1) j₁ m j₂ in
      let q : r ≡ i + length (filter_bytes z) = omega (arith, a, m, length-append (string z.0) (z.1 % 64 ∷ [])) in
      sets_append (filter_bytes z) (flat filter_bytes ys) after i ∙ rw (← k, ← q)

  pub mask_next : {after after₁ after₂ : List ℕ} {i r : ℕ} {l : List ℕ} → MaskingAll after i → i < length s → FilterPassed s i r → l ≡ take (r - 1 - i) (drop i s)
      → after₁ ≡ sets after i l → after₂ ≡ sets after₁ (r - 1) (get_or s (r - 1) 0 % 64 ∷ []) → MaskingAll after₂ r
  mask_next {after} {after₁} {after₂} {i} {r} {l} M h w e e₁ e₂ zs v =
      let o = M zs v in
      let (z, ys, q) = some_left o.back h o.rest in
      let t = w.says z ys (subst (λ (x : List (List ℕ × ℕ)). FiltersStand s i x) q o.rest) in
      record { back = ys; rest = t.rest; goes = o.goes ∙ ap (λ (x : List (List ℕ × ℕ)). sets after i (flat filter_bytes x)) q ∙ filter_put z ys i r after after₁ after₂ l h (w.ahead h) t e e₁ e₂ }

  pub mask_end : {after : List ℕ} {i : ℕ} → MaskingAll after i → length s ≤ i → FiltersPut s at before after
  mask_end {after} {i} M h zs v =
      let o = M zs v in
      sym (o.goes ∙ ap (λ (x : List (List ℕ × ℕ)). sets after i (flat filter_bytes x)) (none_left o.back h o.rest))

-- ---- what is told

pub gives_none : (b : List ℕ) (n : ℕ) (before : List ℕ) (k : ℕ) → k ≡ length b → length before < k → Gives b n before before (Err ((Error.NoRoom k), 0))
gives_none b n before k e h =
    let t : leb (length b) (length before) ≡ false = lt-leb (length b) (length before) (omega (arith, e, h)) in
    record { answer = rw (t, e); output = rw t }

pub gives_put : (b : List ℕ) (n : ℕ) (before after : List ℕ) (k : ℕ) → k ≡ length b → k ≤ length before → after ≡ sets before 0 b → Gives b n before after (Ok (k, n))
gives_put b n before after k e h j =
    let t : leb (length b) (length before) ≡ true = le-leb (length b) (length before) (omega (arith, e, h)) in
    let z : 0 + length b ≡ length b = omega arith in
    record { answer = rw (t, e); output = rw t (j ∙ sets-eq b before 0 (omega (arith, e, h)) ∙ rw z) }

-- ---- a frame

-- from an index on that lies behind the first part
drop_part : (h q t s : List ℕ) (x k : ℕ) → s ≡ x ∷ (h ++ (q ++ t)) → k ≡ suc (length h + length q) → drop k s ≡ t
drop_part h q t s x k e i =
    let z : x ∷ (h ++ (q ++ t)) ≡ (x ∷ (h ++ q)) ++ t = ap (λ (l : List ℕ). x ∷ l) (sym (append_assoc h q t)) in
    ap (drop k) (e ∙ z) ∙ drop_at (x ∷ (h ++ q)) t k (sym (i ∙ ap suc (sym (length-append h q))))

-- up to an index
props_stand : (h q t s : List ℕ) (x a k : ℕ) → s ≡ x ∷ (h ++ (q ++ t)) → a ≡ suc (length h) → k ≡ suc (length h + length q) → drop a (take k s) ≡ q
props_stand h q t s x a k e i j =
    let z : x ∷ (h ++ (q ++ t)) ≡ (x ∷ (h ++ q)) ++ t = ap (λ (l : List ℕ). x ∷ l) (sym (append_assoc h q t)) in
    ap (drop a) (ap (take k) (e ∙ z) ∙ take_at (x ∷ (h ++ q)) t k (sym (j ∙ ap suc (sym (length-append h q))))) ∙ drop_at (x ∷ h) q a (sym i)

module _ (row : Row) (first : ℕ) (s : List ℕ) (start end : ℕ) (before : List ℕ) where
  pub front_put : {o₁ o₂ after l f : List ℕ} → o₁ ≡ sets before 0 (first ∷ []) → l ≡ take (start - 1) (drop 1 s) → o₂ ≡ sets o₁ 1 l → f ≡ take end (drop 0 s) → RowPut row f start o₂ after
      → FrontPut row first s start end before after
  front_put {o₁} {o₂} {after} {l} {f} e₁ i e₂ j P head list w =
      let n : start - 1 ≡ length head = omega (arith, w.starts) in
      let d : drop 1 s ≡ head ++ (w.props ++ w.tail) = ap (drop 1) w.whole in
      let k : l ≡ head = i ∙ rw (n, d) (take_at head (w.props ++ w.tail) (length head) refl) in
      let g : drop start f ≡ w.props = ap (drop start) j ∙ props_stand head w.props w.tail s w.byte start end w.whole w.starts w.ends in
      let v : Stands row f start list = subst (λ (b : List ℕ). Many (Exact row) list b) (sym g) w.exact in
      let a : o₂ ≡ sets before 0 (first ∷ head) = sets_then (first ∷ []) head before o₁ o₂ 0 1 e₁ refl (e₂ ∙ ap (sets o₁ 1) k) in
      sets_then (first ∷ head) (ordered_bytes row list) before o₂ after 0 start a (omega (arith, w.starts)) (P list v)

  module _ {T : List ℕ → List ℕ → Type 0} {h : Handed} (w : FrameLaid row T h first s start end) where
    pub front_at : FrontAt row s start end w.head w.list
    front_at = record { byte = w.byte; props = w.props; tail = w.tail; whole = w.whole; starts = w.starts; ends = w.ends; exact = w.exact }

    pub tail_at : drop end s ≡ w.tail
    tail_at = drop_part w.head w.props w.tail s w.byte end w.whole w.ends

    -- the tidy form is as long as the frame
    pub laid_length : length s ≡ length (frame_bytes h)
    laid_length =
        omega (
          arith,
          ap length w.whole,
          ap length w.form,
          w.light,
          w.even,
          length-append w.head (w.props ++ w.tail),
          length-append w.props w.tail,
          length-append w.head (ordered_bytes row w.list ++ w.other),
          length-append (ordered_bytes row w.list) w.other,
        )

    -- front and rest are all of it
    pub all_put : {o after : List ℕ} → FrontPut row first s start end before o → after ≡ sets o end w.other → after ≡ sets before 0 (frame_bytes h)
    all_put {o} {after} F e =
        let k : 0 + length (first ∷ (w.head ++ ordered_bytes row w.list)) ≡ end = omega (arith, w.ends, w.light, length-append w.head (ordered_bytes row w.list)) in
        let a : after ≡ sets before 0 ((first ∷ (w.head ++ ordered_bytes row w.list)) ++ w.other) =
        sets_then (first ∷ (w.head ++ ordered_bytes row w.list)) w.other before o after 0 end (F w.head w.list front_at) (sym k) e in
        a ∙ ap (sets before 0) (ap (λ (l : List ℕ). first ∷ l) (append_assoc w.head (ordered_bytes row w.list) w.other) ∙ sym w.form)

  -- 02, P14: the rest as it stands
  pub laid_put : {o after l : List ℕ} → FrontPut row first s start end before o → l ≡ take (length s) (drop end s) → after ≡ sets o end l → length s ≤ length before
      → LaidGiven row AsIs first s start end before after (Ok ((length s), (length s)))
  laid_put {o} {after} {l} F i e r h w =
      let k : l ≡ w.other = i ∙ take_all (length s) (drop end s) (omega (arith, length-drop end s)) ∙ tail_at w ∙ sym w.kept in
      gives_put (frame_bytes h) (length s) before after (length s) (laid_length w) r (all_put w F (e ∙ ap (sets o end) k))

  pub laid_none : {T : List ℕ → List ℕ → Type 0} → length before < length s → LaidGiven row T first s start end before before (Err ((Error.NoRoom (length s)), 0))
  laid_none r h w = gives_none (frame_bytes h) (length s) before (length s) (laid_length w) r

-- its filters with their options bytes
pub masked_put : (first : ℕ) (s : List ℕ) (start end : ℕ) (before : List ℕ) {o after : List ℕ} → FrontPut subscribe_row first s start end before o → FiltersPut s end o after → length s ≤ length before
    → LaidGiven subscribe_row Masked first s start end before after (Ok ((length s), (length s)))
masked_put first s start end before {o} {after} F P r h w =
    let v : FiltersStand s end w.kept.list = subst (λ (b : List ℕ). Many ExactFilter w.kept.list b) (sym (tail_at subscribe_row first s start end before w)) w.kept.exact in
    gives_put (frame_bytes h) (length s) before after (length s) (laid_length subscribe_row first s start end before w) r
    (all_put subscribe_row first s start end before w F (P w.kept.list v ∙ ap (sets o end) (sym w.kept.bytes)))

-- ---- acknowledgements with no properties

-- where there is a reason other than success, it stands behind the identifier
pub reason_there : (s : List ℕ) → false ≡ success_in s → 4 < length s
reason_there s e = go (leb (length s) 4) refl e
  where
    go : (t : Bool) → leb (length s) 4 ≡ t → false ≡ (t || eqb (get_or s 4 0) 0) → 4 < length s
    go true h e = let z : ◌≡◌ {A = ℕ} 0 1 = cc in absurd (omega arith)
    go false h e = leb-false (length s) 4 h

module _ (first : ℕ) (s : List ℕ) (n : ℕ) (before after : List ℕ) (r : Tidied) where
  pub short_success : true ≡ success_in s → Gives (first ∷ 2 ∷ get_or s 2 0 ∷ get_or s 3 0 ∷ []) n before after r → Gives (short_ack first s) n before after r
  unfolding short_ack
  short_success e g = rw (← e) g

  pub short_reason : false ≡ success_in s → Gives (first ∷ 4 ∷ get_or s 2 0 ∷ get_or s 3 0 ∷ get_or s 4 0 ∷ 0 ∷ []) n before after r → Gives (short_ack first s) n before after r
  unfolding short_ack
  short_reason e g = rw (← e) g

-- ---- the frame that was read

-- bytes that are all below 256
pub octets_of : (s : List ℕ) → ((i : ℕ) → get_or s i 0 < 256) → Octets s
octets_of [] h = nil
octets_of (x ∷ s) h = h 0 & octets_of s (λ i. h (suc i))

pub frame_tidied : (s : List ℕ) (start end : ℕ) (before after : List ℕ) (r : Tidied) (a : Accepted s start end) → Octets s → Gives (frame_bytes (handed_of a.packet)) (length s) before after r → FrameTidied s before after r
frame_tidied s start end before after r a o g =
    let e : read_of none s ≡ accepted a.packet (length s) = rw (append-nil s) at (suffix a.packet s [] a.sentence) in
    record { form = frame_bytes (handed_of a.packet); is = tidy_is s o a.packet (length s) e; gives = g }

-- the first byte is of a kind that is carried
pub carried_kind : {X : Type 0} (v : Packet) (s : List ℕ) → Sentence v s → lookup kinds (kind_of (get_or s 0 0)) ≡ none → X
carried_kind v s w e =
    let o = opened v s w in
    let i : lookup kinds (kind_of (get_or s 0 0)) ≡ some o.layout = ap (λ (b : List ℕ). lookup kinds (kind_of (get_or b 0 0))) o.whole ∙ o.carried in
    let z : ◌≡◌ {A = ℕ} 0 1 = cc in
    absurd (omega arith)

pub some_bytes : (v : Packet) (s : List ℕ) → Sentence v s → 0 < length s
some_bytes v s w = omega (arith, ap length (opened v s w).whole)
