-- `table_iff`: a table of so many places is answered so exactly if the row of that answer holds. Assumes nothing.
use mathlib.Core.Path.{◌≡◌, refl, sym, ap, ◌∙◌, subst}
use mathlib.Core.Bool.{Bool, true, false, false≢true}
use mathlib.Core.Logic.{◌↔◌}
use mathlib.Core.Option.{none}
use mathlib.Core.List.{List, [], ◌∷◌, map}
use Prim.Native.Nat.{ℕ, suc, ◌<◌}
use native.Mathlib.Omega.{arith}
use lib.Dec.{leb, leb→le}
use lib.ListN.{length, length-map}
use borrow.Author.Tests.{leb-false}
use Rattle.grammar.specs.Choice.{is_in}
use Rattle.grammar.specs.Record.{Filter, Publish, Ack, Subscribe, Reply, Unsubscribe, PacketOf, publish, ack, subscribe, reply, unsubscribe, ping}
use Rattle.grammar.specs.Sentence.{Packet}
use Rattle.grammar.specs.Tables.{subscribe_row, ack_row, unsubscribe_row, reasons_of}
use Rattle.reading.specs.Refusal.{Refusal, nr, Answer, accepted, refused}
use Rattle.reading.specs.Reader.{Fit, got, bad}
use Rattle.reading.specs.Read.{as_bytes, filters_fit, reasons_fit, topics_fit}
use Rattle.reading.specs.Place.{Span, as_places, Placed, read_placed_of, again, nth_of, filter_at, on_got, if_some, say_publish_props, say_props, say}
use Rattle.reading.specs.Demand.{of_fields, Taken, nothing_yet, own_length, whole_frame}
use Rattle.reading.proofs.Lists.{T_of}
use Rattle.reading.proofs.Reading.{bad_got, got_inj, from_bind}
use Rattle.reading.proofs.Demand.{no_accept}
use Rattle.reading.proofs.Forget.{Like, gots, bads, Via}
use Rattle.reading.proofs.Items.{again_like}
use Rattle.reading.proofs.Places.{filters_says, placed_accepted, placed_refused}
use Rattle.reading.proofs.Rows.{taken}
use Rattle.filter_table.specs.Table.{not_subscribe, entry_of, run_of, entries_of, table_of}
use Rattle.filter_table.specs.Rows.{Subscribes, AnotherKind, RefusedAs, Listed, Answers, filled, full, other, refuses}
use Rattle.filter_table.specs.declared.FilterEntry.{FilterEntry}
use Rattle.filter_table.proofs.Laws.{read_run, entries_got, nth_map}

-- ---- lists that agree in every place

nth_same : {A : Type 0} (vs ws : List A) → ((k : ℕ) → nth_of k vs ≡ nth_of k ws) → vs ≡ ws
nth_same [] [] h = refl
nth_same [] (w ∷ ws) h = absurd (bad_got (h 0))
nth_same (v ∷ vs) [] h = absurd (bad_got (sym (h 0)))
nth_same (v ∷ vs) (w ∷ ws) h = let i = got_inj (h 0) in let j = nth_same vs ws (λ k. h (suc k)) in rw (i, j)

-- ---- the record in bytes

like_count : {A B : Type 0} {h : A → B} {fs : List A} {gs : List B} (m : Fit (List A)) (m' : Fit (List B)) → Like (Via (map h)) m m' → m ≡ got fs → m' ≡ got gs → length gs ≡ length fs
like_count {h = h} _ _ (gots {a = a} r) i j = ap length (sym (got_inj j)) ∙ ap length (sym r) ∙ length-map a h ∙ ap length (got_inj i)
like_count _ _ bads i j = absurd (bad_got i)

accepted_inj : {A : Type 0} {v w : A} {n m : ℕ} → accepted v n ≡ accepted w m → v ≡ w
accepted_inj e = cc

subscribe_inj : {S : Type 0} {L : Type 0 → Type 0} {u w : Subscribe S L} → ◌≡◌ {A = PacketOf S L} (subscribe u) (subscribe w) → u ≡ w
subscribe_inj e = cc

no_publish_lem : {m : Publish (List ℕ) List} {u : Subscribe (List ℕ) List} → ◌≡◌ {A = Packet} (publish m) (subscribe u) → ⊥
no_publish_lem e = let z : ◌≡◌ {A = ℕ} 0 1 = cc in omega arith

no_ack : {k : ℕ} {m : Ack (List ℕ) List} {u : Subscribe (List ℕ) List} → ◌≡◌ {A = Packet} (ack k m) (subscribe u) → ⊥
no_ack e = let z : ◌≡◌ {A = ℕ} 0 1 = cc in omega arith

no_reply : {k : ℕ} {m : Reply (List ℕ) List} {u : Subscribe (List ℕ) List} → ◌≡◌ {A = Packet} (reply k m) (subscribe u) → ⊥
no_reply e = let z : ◌≡◌ {A = ℕ} 0 1 = cc in omega arith

no_unsubscribe : {m : Unsubscribe (List ℕ) List} {u : Subscribe (List ℕ) List} → ◌≡◌ {A = Packet} (unsubscribe m) (subscribe u) → ⊥
no_unsubscribe e = let z : ◌≡◌ {A = ℕ} 0 1 = cc in omega arith

no_ping : {k : ℕ} {u : Subscribe (List ℕ) List} → ◌≡◌ {A = Packet} (ping k) (subscribe u) → ⊥
no_ping e = let z : ◌≡◌ {A = ℕ} 0 1 = cc in omega arith

bad_inj : {A : Type 0} {k l : ℕ} {vs ws : List ℕ} → ◌≡◌ {A = Fit A} (bad (nr k vs)) (bad (nr l ws)) → (k ≡ l) × (vs ≡ ws)
bad_inj e = (cc, cc)

pair_is : {k l : ℕ} {vs ws : List ℕ} → k ≡ l → vs ≡ ws → ◌≡◌ {A = ℕ × List ℕ} (k, vs) (l, ws)
pair_is a b = rw (a, b)

module _ (s : List ℕ) where
  -- what w is if it is no Subscribe
  abbrev Else : Packet → Type 0
  Else w = (u : Subscribe (List ℕ) List) → w ≡ subscribe u → ⊥

  -- a Subscribe with places says one of as many filters
  says_filters : (m : Subscribe Span (λ A. Span)) (fs : List (Filter Span)) → again (filters_fit as_places) s m.filters ≡ got fs → (w : Packet) → say s (subscribe m) ≡ got w
      → (u : Subscribe (List ℕ) List) × (w ≡ subscribe u) × (length u.filters ≡ length fs)
  says_filters m fs f =
      from_bind {C = λ (w : Packet). (u : Subscribe (List ℕ) List) × (w ≡ subscribe u) × (length u.filters ≡ length fs)} (if_some (say_props s subscribe_row) m.props) _
      λ qs _. from_bind {C = λ (w : Packet). (u : Subscribe (List ℕ) List) × (w ≡ subscribe u) × (length u.filters ≡ length fs)} (again (filters_fit as_bytes) s m.filters) _
      λ gs g w e. (record { ident = m.ident; props = qs; filters = gs }, sym (got_inj e), like_count (again (filters_fit as_places) s m.filters) (again (filters_fit as_bytes) s m.filters) (again_like s (filters_says s) m.filters) f g)

  -- and a record of another kind says one of another kind
  says_other : (v : Placed) (t : ℕ) → run_of (accepted v t) ≡ bad not_subscribe → (w : Packet) → say s v ≡ got w → Else w
  says_other (subscribe m) t j = absurd (bad_got (sym j))
  says_other (publish m) t j = from_bind {C = Else} (if_some (say_publish_props s) m.props) _ λ qs _ w e u i. no_publish_lem (got_inj e ∙ i)
  says_other (ack k m) t j = from_bind {C = Else} (if_some (say_props s ack_row) m.props) _ λ qs _ w e u i. no_ack (got_inj e ∙ i)
  says_other (reply k m) t j = from_bind {C = Else} (if_some (say_props s ack_row) m.props) _ λ qs _. from_bind {C = Else} (again (reasons_fit (reasons_of k)) s m.reasons) _ λ rs _ w e u i. no_reply (got_inj e ∙ i)
  says_other (unsubscribe m) t j = from_bind {C = Else} (if_some (say_props s unsubscribe_row) m.props) _ λ qs _. from_bind {C = Else} (again (topics_fit as_bytes) s m.topics) _ λ rs _ w e u i. no_unsubscribe (got_inj e ∙ i)
  says_other (ping k) t j = λ w e u i. no_ping (got_inj e ∙ i)

  -- ---- the row that holds

  table_bad : (places : ℕ) (k : Refusal) → run_of (read_placed_of none s) ≡ bad k → table_of s places ≡ bad k
  unfolding table_of entries_of
  table_bad places k e = rw e

  table_fits : (places : ℕ) (es : List FilterEntry) → entries_of s ≡ got es → leb (length es) places ≡ true → table_of s places ≡ got es
  unfolding table_of
  table_fits places es e b = rw (e, b)

  table_full_lem : (places : ℕ) (es : List FilterEntry) → entries_of s ≡ got es → leb (length es) places ≡ false → table_of s places ≡ bad (nr 37 (length es ∷ []))
  unfolding table_of
  table_full_lem places es e b = rw (e, b)

  counted : (places : ℕ) (es : List FilterEntry) → entries_of s ≡ got es → Subscribes s (length es) → Listed s es → (b : Bool) → leb (length es) places ≡ b → Answers s places (table_of s places)
  counted places es e c l true h = subst (Answers s places) (sym (table_fits places es e h)) (filled c (leb→le (length es) places (T_of (leb (length es) places) h)) l)
  counted places es e c l false h = subst (Answers s places) (sym (table_full_lem places es e h)) (full c (leb-false (length es) places h))

  others : (places : ℕ) (v : Placed) (t : ℕ) → read_placed_of none s ≡ accepted v t → run_of (accepted v t) ≡ bad not_subscribe → Answers s places (table_of s places)
  others places v t e j =
      let (w, i, r) = placed_accepted none s v t e in
      subst (Answers s places) (sym (table_bad places not_subscribe (ap run_of e ∙ j))) (other (w, t, r, says_other v t j w i))

  sorted : (places : ℕ) (a : Answer Placed) → read_placed_of none s ≡ a → Answers s places (table_of s places)
  unfolding filter_at
  sorted places (accepted (subscribe m) t) e =
      let (fs, f) = read_run s (subscribe m) t m.filters e refl in
      let (w, i, r) = placed_accepted none s (subscribe m) t e in
      let (u, j, l) = says_filters m fs f w i in
      let n : length u.filters ≡ length (map entry_of fs) = l ∙ sym (length-map fs entry_of) in
      counted places (map entry_of fs) (entries_got s (subscribe m) t m.filters fs (sym e) refl f) (u, t, r ∙ ap (λ (x : Packet). accepted x t) j, n) (m, t, e, λ k. nth_map entry_of k fs ∙ rw f)
      (leb (length (map entry_of fs)) places) refl
  sorted places (accepted (publish m) t) e = others places (publish m) t e refl
  sorted places (accepted (ack k m) t) e = others places (ack k m) t e refl
  sorted places (accepted (reply k m) t) e = others places (reply k m) t e refl
  sorted places (accepted (unsubscribe m) t) e = others places (unsubscribe m) t e refl
  sorted places (accepted (ping k) t) e = others places (ping k) t e refl
  sorted places (refused k vs t) e = subst (Answers s places) (sym (table_bad places (nr k vs) (ap run_of e))) (refuses (t, (placed_refused none s k vs t).0 e))

  -- ---- no two rows hold

  same_count : {n m : ℕ} → Subscribes s n → Subscribes s m → n ≡ m
  same_count (u, t, e, i) (w, r, f, j) = sym i ∙ ap (λ (x : Subscribe (List ℕ) List). length x.filters) (subscribe_inj (accepted_inj (sym e ∙ f))) ∙ j

  same_entries : {es fs : List FilterEntry} → Listed s es → Listed s fs → es ≡ fs
  same_entries {es = es} {fs = fs} (m, t, e, h) (u, r, f, g) =
      let i : m ≡ u = subscribe_inj (accepted_inj (sym e ∙ f)) in
      nth_same es fs (λ k. h k ∙ ap (λ (x : Subscribe Span (λ A. Span)). on_got entry_of (filter_at as_places s x.filters k)) i ∙ sym (g k))

  not_both : {n : ℕ} → Subscribes s n → AnotherKind s → ⊥
  not_both (u, t, e, i) (w, r, f, h) = h u (accepted_inj (sym f ∙ e))

  not_refused : {n k : ℕ} {vs : List ℕ} → Subscribes s n → RefusedAs s k vs → ⊥
  not_refused (u, t, e, i) (r, f) = no_accept (sym f ∙ e)

  kind_refused : {k : ℕ} {vs : List ℕ} → AnotherKind s → RefusedAs s k vs → ⊥
  kind_refused (w, t, e, i) (r, f) = no_accept (sym f ∙ e)

  refused_same : {k l : ℕ} {vs ws : List ℕ} → RefusedAs s k vs → RefusedAs s l ws → ◌≡◌ {A = Fit (List FilterEntry)} (bad (nr k vs)) (bad (nr l ws))
  refused_same {k = k} {l = l} {vs = vs} {ws = ws} (t, e) (r, f) =
      let i : ◌≡◌ {A = Answer Packet} (refused k vs t) (refused l ws r) = sym e ∙ f in
      let j : k ≡ l = cc i in
      let q : vs ≡ ws = cc i in
      rw (j, q)

  answers_one : {places : ℕ} {a b : Fit (List FilterEntry)} → Answers s places a → Answers s places b → a ≡ b
  answers_one (filled c h l) (filled c' h' l') = ap got (same_entries l l')
  answers_one (filled c h l) (full c' h') = absurd (omega (arith, h, h', same_count c c'))
  answers_one (filled c h l) (other o) = absurd (not_both c o)
  answers_one (filled c h l) (refuses r) = absurd (not_refused c r)
  answers_one (full c h) (filled c' h' l) = absurd (omega (arith, h, h', same_count c c'))
  answers_one (full c h) (full c' h') = ap (λ (n : ℕ). bad (nr 37 (n ∷ []))) (same_count c c')
  answers_one (full c h) (other o) = absurd (not_both c o)
  answers_one (full c h) (refuses r) = absurd (not_refused c r)
  answers_one (other o) (filled c h l) = absurd (not_both c o)
  answers_one (other o) (full c h) = absurd (not_both c o)
  answers_one (other o) (other o') = refl
  answers_one (other o) (refuses r) = absurd (kind_refused o r)
  answers_one (refuses r) (filled c h l) = absurd (not_refused c r)
  answers_one (refuses r) (full c h) = absurd (not_refused c r)
  answers_one (refuses r) (other o) = absurd (kind_refused o r)
  answers_one (refuses r) (refuses r') = refused_same r r'

  -- 02, P7: each answer of the table exactly when: no other is given, and no two of these
  pub table_iff : (places : ℕ) (a : Fit (List FilterEntry)) → (table_of s places ≡ a) ↔ Answers s places a
  table_iff places a = (λ e. subst (Answers s places) e (sorted places (read_placed_of none s) refl), λ w. answers_one (sorted places (read_placed_of none s) refl) w)

  -- ---- by the number

  -- a number that is in none of the reader's rows
  no_row : (x : ℕ) → is_in x (1 ∷ 3 ∷ []) ≡ false → (x ≡ 2 → ⊥) → is_in x (4 ∷ 5 ∷ 6 ∷ of_fields) ≡ false → {k : ℕ} {vs : List ℕ} → RefusedAs s k vs → k ≡ x → ⊥
  no_row x a b c {k = k} {vs = vs} (t, e) = go (taken none s vs k t e)
    where
      go : {k t : ℕ} → Taken none s k t → k ≡ x → ⊥
      go (nothing_yet h) i = false≢true (sym a ∙ ap (λ (y : ℕ). is_in y (1 ∷ 3 ∷ [])) (sym i) ∙ h)
      go (own_length o) i = b (sym i)
      go (whole_frame h f) i = false≢true (sym c ∙ ap (λ (y : ℕ). is_in y (4 ∷ 5 ∷ 6 ∷ of_fields)) (sym i) ∙ h)

  module _ (places : ℕ) (vs : List ℕ) where
    -- 02, P7: "If there are more filters than places, answer FilterTableFull with the number needed ..; never otherwise"
    pub full_iff : (table_of s places ≡ bad (nr 37 vs)) ↔ ((n : ℕ) × (vs ≡ n ∷ []) × Subscribes s n × (places < n))
    full_iff = (λ e. go ((table_iff places (bad (nr 37 vs))).0 e) refl, λ (n, e, c, h). rw e ((table_iff places (bad (nr 37 (n ∷ [])))).1 (full c h)))
      where
        go : {a : Fit (List FilterEntry)} → Answers s places a → a ≡ bad (nr 37 vs) → (n : ℕ) × (vs ≡ n ∷ []) × Subscribes s n × (places < n)
        go (filled c h l) e = absurd (bad_got (sym e))
        go (full {n = n} c h) e = (n, sym (bad_inj e).1, c, h)
        go (other o) e = absurd (omega (arith, (bad_inj e).0))
        go (refuses r) e = absurd (no_row 37 refl (λ z. omega arith) refl r (bad_inj e).0)

    -- 02, P7: "A frame that is not an accepted Subscribe gets the reader's refusal or NotSubscribe"
    pub not_subscribe_iff : (table_of s places ≡ bad (nr 38 vs)) ↔ ((vs ≡ []) × AnotherKind s)
    not_subscribe_iff = (λ e. go ((table_iff places (bad (nr 38 vs))).0 e) refl, λ (e, o). rw e ((table_iff places (bad (nr 38 []))).1 (other o)))
      where
        go : {a : Fit (List FilterEntry)} → Answers s places a → a ≡ bad (nr 38 vs) → (vs ≡ []) × AnotherKind s
        go (filled c h l) e = absurd (bad_got (sym e))
        go (full c h) e = absurd (omega (arith, (bad_inj e).0))
        go (other o) e = (sym (bad_inj e).1, o)
        go (refuses r) e = absurd (no_row 38 refl (λ z. omega arith) refl r (bad_inj e).0)

    -- any other number is the reader's
    pub reader_iff : (k : ℕ) → (k ≡ 37 → ⊥) → (k ≡ 38 → ⊥) → (table_of s places ≡ bad (nr k vs)) ↔ RefusedAs s k vs
    reader_iff k a b = (λ e. go ((table_iff places (bad (nr k vs))).0 e) refl, λ r. (table_iff places (bad (nr k vs))).1 (refuses r))
      where
        go : {z : Fit (List FilterEntry)} → Answers s places z → z ≡ bad (nr k vs) → RefusedAs s k vs
        go (filled c h l) e = absurd (bad_got (sym e))
        go (full c h) e = absurd (a (sym (bad_inj e).0))
        go (other o) e = absurd (b (sym (bad_inj e).0))
        go (refuses {k = l} {vs = ws} r) e = subst (λ (q : ℕ × List ℕ). RefusedAs s q.0 q.1) (pair_is (bad_inj e).0 (bad_inj e).1) r

    -- and so it is never 21: the filters of a Subscribe that was read are read again
    pub never_no_item : table_of s places ≡ bad (nr 21 vs) → ⊥
    never_no_item e = no_row 21 refl (λ z. omega arith) refl ((reader_iff 21 (λ z. omega arith) (λ z. omega arith)).0 e) refl
