-- How a run of filters is counted, and put into a table. Assumes nothing.
use Rattle.std.specs.Prelude.{Result, Ok, Err}
use mathlib.Core.Path.{◌≡◌, refl, sym, ap, ◌∙◌, subst}
use mathlib.Core.Bool.{Bool, true, false}
use mathlib.Core.Option.{none}
use mathlib.Core.List.{List, [], ◌∷◌, ◌++◌, map}
use Prim.Native.Nat.{ℕ, zero, suc, ◌+◌, ◌*◌, ◌%◌, ◌/◌, ◌≤◌, ◌<◌}
use native.Mathlib.Omega.{arith}
use lib.Dec.{leb, leb→le}
use lib.ListN.{length, take, drop, set, length-set, length-append, length-map, length-drop}
use Rattle.std.proofs.lemmas.List.{set-append_left}
use lib.Seq.{sets, sets-eq, length-take-le}
use borrow.Author.Tests.{leb-true, leb-false, le-leb, lt-leb}
use Rattle.grammar.specs.Record.{Filter, mk_filter, publish, ack, subscribe, reply, unsubscribe, ping}
use Rattle.grammar.specs.Tables.{subscribe_row}
use Rattle.grammar.specs.Sentence.{Packet, some_of}
use Rattle.reading.specs.Refusal.{Refusal, nr, accepted, refused_as}
use Rattle.reading.specs.Reader.{Fit, got, bad, Filler, Reader, ◌>>◌, guard, many_fit, only_fit}
use Rattle.reading.specs.Read.{as_bytes, filter_of, filters_fit}
use Rattle.reading.specs.Place.{Span, part_of, lies_in, held_of, as_places, Placed, read_placed_of, no_item, or_no_item, again, nth_of, filter_at, on_got, if_some, say_props}
use Rattle.reading.proofs.Lists.{T_of}
use Rattle.reading.proofs.Reading.{bad_got, got_inj, from_got, from_bind, from_guard}
use Rattle.reading.proofs.Forget.{Like, gots, bads}
use Rattle.reading.proofs.Places.{filters_says, placed_accepted}
use Rattle.reading.proofs.Items.{again_like}
use Rattle.positions.specs.Position.{from_at}
use Rattle.positions.proofs.At.{part_slice}
use Rattle.positions.proofs.Position.{got_left}
use Rattle.positions.proofs.Walk.{Less}
use Rattle.positions.proofs.Less.{filter_less}
use Rattle.positions.proofs.Run.{Passed, none_passed, passed_end, passed_bad, passed_next}
use Rattle.positions.proofs.Trails.{trails_filter}
use Rattle.records.specs.AsNumbers.{told_error, told_qos, told_rule}
use Rattle.records.specs.Said.{told_packet}
use Rattle.records.specs.declared.packet_record.Packet as code
use Rattle.records.specs.declared.subscribe_record.Subscribe.{Subscribe as CodeSubscribe}
use Rattle.records.specs.declared.error.Error.{Error}
use Rattle.records.specs.declared.qos.QoS.{QoS}
use Rattle.records.specs.declared.qos.QoS.TheVariants.{AtMostOnce, AtLeastOnce, ExactlyOnce}
use Rattle.records.specs.declared.subscribe_record.RetainForwardRule.{RetainForwardRule}
use Rattle.records.specs.declared.subscribe_record.RetainForwardRule.TheVariants.{OnEverySubscribe, OnNewSubscribe, Never}
use Rattle.filters.proofs.Laws.{filter_ahead}
use Rattle.filter_table.specs.Table.{not_subscribe, told_table, unfilled, options_of, entry_of, run_of, entries_of, table_of, Fills, front, entry_at, fill_from, entries_from, EntryIs, PlanIs, spanned, Planned, CountIs, RunIs, RunPlanIs}
use Rattle.filter_table.specs.declared.FilterEntry.{FilterEntry}
use Rattle.filter_table.specs.declared.FilterTableError.{FilterTableError}
use Rattle.filter_table.specs.declared.Plan.{Plan}
use Rattle.filter_table.specs.declared.FilterTableError.TheVariants.{FilterTableFull, NotSubscribe, Refused}

-- ---- options

pub qos_small : (q : QoS) → told_qos q ≤ 2
qos_small AtMostOnce = omega arith
qos_small AtLeastOnce = omega arith
qos_small ExactlyOnce = omega arith

pub rule_small : (r : RetainForwardRule) → told_rule r ≤ 2
rule_small OnEverySubscribe = omega arith
rule_small OnNewSubscribe = omega arith
rule_small Never = omega arith

-- 02, P7: "the options with bits 6-7 clear", of the byte o that was read
pub options_clear : (p : Span) (o : ℕ) → options_of (mk_filter (p, o)) ≡ o % 64
options_clear p o = omega (arith, eight o, sixteen o, all o)
  where
    eight : (o : ℕ) → o % 4 + 4 * (o / 4 % 2) ≡ o % 8
    eight o = omega arith

    sixteen : (o : ℕ) → o % 8 + 8 * (o / 8 % 2) ≡ o % 16
    sixteen o = omega arith

    all : (o : ℕ) → o % 16 + 16 * (o / 16 % 4) ≡ o % 64
    all o = omega arith

-- ---- one entry

module _ (s : List ℕ) (at end : ℕ) where
  pub entry_got : {f : Filter Span} {n : ℕ} {e : FilterEntry} → got (f, n) ≡ from_at (filter_of as_places (length (front s end))) (front s end) at → e ≡ entry_of f → EntryIs s at end e n
  unfolding entry_at
  entry_got {f = f} {n = n} i j = record { is = rw (← i, j) refl }

  pub entry_bad : {k : Refusal} → bad k ≡ from_at (filter_of as_places (length (front s end))) (front s end) at → EntryIs s at end (record { start = 0; len = 0; options = 0 }) at
  unfolding entry_at
  entry_bad i = record { is = rw (← i) refl }

-- ---- counting

-- the filters passed from `at` to i, n of them
pub record Counted (s : List ℕ) (at n i : ℕ) : Type 0 where
  pub filters : List (Filter Span)
  pub passed : Passed (filter_of as_places (length s)) s at i filters
  pub count : n ≡ length filters
  pub room : n + at ≤ i

pub counted_start : (s : List ℕ) (at : ℕ) → Counted s at 0 at
counted_start s at = record { filters = []; passed = none_passed s (filter_less (length s)) at; count = refl; room = omega arith }

module _ {s : List ℕ} {at n i : ℕ} (C : Counted s at n i) where
  counted_bad : i < length s → {k : Refusal} → bad k ≡ from_at (filter_of as_places (length s)) s i → CountIs s at n
  counted_bad h {k = k} e = record { counts = λ fs j. absurd (bad_got (sym (passed_bad s (filter_less (length s)) C.passed h k (sym e)) ∙ j)) }

  -- where a filter is read, bytes are left, and the walk goes on behind them
  pub counted_room : {v : Filter Span} {m : ℕ} → got (v, m) ≡ from_at (filter_of as_places (length s)) s i → (i < length s) × (n < length s) × (i < m)
  counted_room {v = v} {m = m} e =
      let q : Reader (Filter Span) = filter_of as_places (length s) in
      let b : length (drop i s) ≤ length s = rw length-drop (omega arith) in
      let l : length (drop m s) < length (drop i s) = filter_less (length s) (drop i s) (v, drop m s) b (got_left q s i (trails_filter as_places (length s)) v m (sym e)) in
      let k : i < length s = omega (arith, l, length-drop m s, length-drop i s) in
      (k, omega (arith, k, C.room), (filter_ahead s k e).0)

  pub counted_next : {v : Filter Span} {m : ℕ} → got (v, m) ≡ from_at (filter_of as_places (length s)) s i → Counted s at (n + 1) m
  counted_next {v = v} e =
      let h = (counted_room e).0 in
      let a = filter_ahead s h e in
      record {
        filters = C.filters ++ (v ∷ []);
        passed = passed_next s (filter_less (length s)) C.passed (trails_filter as_places (length s)) h (sym e);
        count = rw length-append (omega (arith, C.count));
        room = omega (arith, C.room, a.0);
      }

  counted_all : length s ≤ i → CountIs s at n
  counted_all h = record { counts = λ fs j. C.count ∙ ap length (got_inj (sym (passed_end s (filter_less (length s)) C.passed h) ∙ j)) }

  -- where no filter is read, none is left, or what is left is no filter
  pub counted_end : {k : Refusal} → bad k ≡ from_at (filter_of as_places (length s)) s i → CountIs s at n
  counted_end e = go (leb (length s) i) refl
    where
      go : (b : Bool) → leb (length s) i ≡ b → CountIs s at n
      go true h = counted_all (leb-true (length s) i h)
      go false h = counted_bad (leb-false (length s) i h) e

-- ---- at a place

-- a list at a place lies within the bytes, and fills it
again_got : {A : Type 0} (q : ℕ → Filler A) (s : List ℕ) (p : Span) (v : A) → again q s p ≡ got v → (p.start + p.len ≤ length s) × (q (p.start + p.len) (part_of s p) ≡ got v)
unfolding again
again_got {A = A} q s p v = go (lies_in s p) refl (q (p.start + p.len) (part_of s p))
  where
    go : (t : Bool) → lies_in s p ≡ t → (m : Fit A) → (guard t no_item >> or_no_item m) ≡ got v → (p.start + p.len ≤ length s) × (m ≡ got v)
    go true h (got a) e = (leb→le (p.start + p.len) (length s) (T_of (lies_in s p) h), e)
    go true h (bad k) e = absurd (bad_got e)
    go false h m e = absurd (bad_got e)

front_is : (s : List ℕ) (end : ℕ) → end ≤ length s → front s end ≡ take end s
unfolding held_of
front_is s end h =
    let e : 0 + end ≡ end = omega arith in
    rw (e, le-leb end (length s) h)

module _ (s : List ℕ) (p : Span) (fs : List (Filter Span)) (r : again (filters_fit as_places) s p ≡ got fs) where
  abbrev end : ℕ
  end = p.start + p.len

  pub run_lies : end ≤ length s
  run_lies = (again_got (filters_fit as_places) s p fs r).0

  -- the filters at the place are read one after another in the bytes before its end
  run_many : many_fit (filter_of as_places (length (take end s))) (drop p.start (take end s)) ≡ got fs
  unfolding filters_fit only_fit
  run_many =
      let (h, f) = again_got (filters_fit as_places) s p fs r in
      let n : length (take end s) ≡ end = length-take-le end s h in
      rw (n, sym (part_slice s p.len p.start h))
      (from_bind (many_fit (filter_of as_places end) (part_of s p)) _ (λ gs j. from_guard (some_of gs) _ _ λ _. from_got (λ (z : List (Filter Span)). many_fit (filter_of as_places end) (part_of s p) ≡ got z) gs j) fs f)

pub run_within : {s : List ℕ} {p : Span} {n : ℕ} → p.start + p.len ≤ length s → CountIs (take (p.start + p.len) s) p.start n → RunIs s p n
run_within {s = s} {p = p} h c = record { counts = λ fs r. c.counts fs (run_many s p fs r) }

pub run_outside : {s : List ℕ} {p : Span} {n : ℕ} → length s < p.start + p.len → RunIs s p n
run_outside {s = s} {p = p} h = record { counts = λ fs r. absurd (omega (arith, h, run_lies s p fs r)) }

-- ---- filling

cons_head : {A : Type 0} {a b : A} {l r : List A} → a ∷ l ≡ b ∷ r → a ≡ b
cons_head e = cc

cons_tail : {A : Type 0} {a b : A} {l r : List A} → a ∷ l ≡ b ∷ r → l ≡ r
cons_tail e = cc

no_cons : {A : Type 0} {a : A} {l : List A} → [] ≡ a ∷ l → ⊥
no_cons e = let z : ◌≡◌ {A = ℕ} 0 1 = cc in omega arith

module _ (t : List ℕ) where
  abbrev P : Reader (Filter Span)
  P = filter_of as_places (length t)

  -- the first of the filters that are read from `at` on is read at `at`, and the others after it
  peel : (at : ℕ) (f : Filter Span) (fs : List (Filter Span)) → many_fit P (drop at t) ≡ got (f ∷ fs) → (m : ℕ) × (from_at P t at ≡ got (f, m)) × (many_fit P (drop m t) ≡ got fs)
  peel at f fs i = go (leb (length t) at) refl (from_at P t at) refl
    where
      L : Less (length t) P
      L = filter_less (length t)

      go : (b : Bool) → leb (length t) at ≡ b → (z : Fit (Filter Span × ℕ)) → from_at P t at ≡ z → (m : ℕ) × (from_at P t at ≡ got (f, m)) × (many_fit P (drop m t) ≡ got fs)
      go true h z e = absurd (no_cons (got_inj (sym (passed_end t L (none_passed t L at) (leb→le (length t) at (T_of (leb (length t) at) h))) ∙ i)))
      go false h (bad k) e = absurd (bad_got (sym (passed_bad t L (none_passed t L at) (leb-false (length t) at h) k e) ∙ i))
      go false h (got (v, m)) e =
          from_bind {C = λ (gs : List (Filter Span)). gs ≡ f ∷ fs → (m : ℕ) × (from_at P t at ≡ got (f, m)) × (many_fit P (drop m t) ≡ got fs)} (many_fit P (drop m t)) _
          (λ ws j. from_got (λ (gs : List (Filter Span)). gs ≡ f ∷ fs → (m : ℕ) × (from_at P t at ≡ got (f, m)) × (many_fit P (drop m t) ≡ got fs)) (v ∷ ws)
          (λ c. (m, e ∙ ap (λ (x : Filter Span). got (x, m)) (cons_head c), j ∙ ap got (cons_tail c))))
          (f ∷ fs) (sym (passed_next t L (none_passed t L at) (trails_filter as_places (length t)) (leb-false (length t) at h) e).rest ∙ i) refl

entry_is : (s : List ℕ) (e at : ℕ) (f : Filter Span) (m : ℕ) → from_at (filter_of as_places (length (front s e))) (front s e) at ≡ got (f, m) → entry_at s at e ≡ (entry_of f, m)
unfolding entry_at
entry_is s e at f m j = rw j

-- the filters from `at` on are put one after another
fill_run : (s : List ℕ) (e : ℕ) (fs : List (Filter Span)) (at i : ℕ) (ys : List FilterEntry) → many_fit (filter_of as_places (length (front s e))) (drop at (front s e)) ≡ got fs
    → fill_from s e (length fs) at i ys ≡ sets ys i (map entry_of fs)
fill_run s e [] at i ys r = refl
fill_run s e (f ∷ fs) at i ys r =
    let (m, j, k) = peel (front s e) at f fs r in
    ap (λ (z : FilterEntry × ℕ). fill_from s e (length fs) z.1 (suc i) (set ys i z.0)) (entry_is s e at f m j) ∙ fill_run s e fs m (suc i) (set ys i (entry_of f)) k

-- a table that is longer keeps what stands behind
pub fill_append : (s : List ℕ) (e n at i : ℕ) (ys zs : List FilterEntry) → i + n ≤ length ys → fill_from s e n at i ys ++ zs ≡ fill_from s e n at i (ys ++ zs)
fill_append s e zero at i ys zs h = refl
fill_append s e (suc n) at i ys zs h =
    let v : FilterEntry = (entry_at s at e).0 in
    fill_append s e n (entry_at s at e).1 (suc i) (set ys i v) zs (omega (arith, h, length-set ys i v))
    ∙ ap (fill_from s e n (entry_at s at e).1 (suc i)) (sym (set-append_left ys zs i v (omega (arith, h))))

-- and are the entries from there on
list_run : (s : List ℕ) (e : ℕ) (fs : List (Filter Span)) (at : ℕ) → many_fit (filter_of as_places (length (front s e))) (drop at (front s e)) ≡ got fs → entries_from s e (length fs) at ≡ map entry_of fs
list_run s e [] at r = refl
list_run s e (f ∷ fs) at r =
    let (m, j, k) = peel (front s e) at f fs r in
    ap (λ (z : FilterEntry × ℕ). z.0 ∷ entries_from s e (length fs) z.1) (entry_is s e at f m j) ∙ ap (λ (l : List FilterEntry). entry_of f ∷ l) (list_run s e fs m k)

module _ (s : List ℕ) (p : Span) (fs : List (Filter Span)) (r : again (filters_fit as_places) s p ≡ got fs) (es : entries_of s ≡ got (map entry_of fs)) (places n : ℕ) (c : n ≡ length fs) where
  pub run_fits : n ≤ places → PlanIs s places (Ok n) p.start (p.start + p.len) n
  unfolding table_of
  run_fits h =
      let l : length (map entry_of fs) ≡ n = length-map fs entry_of ∙ sym c in
      let b : leb (length (map entry_of fs)) places ≡ true = le-leb (length (map entry_of fs)) places (omega (arith, l)) in
      record {
        answer = rw (es, b) (ap got (sym l));
        room = h;
        listed = rw (es, b, c) lists;
        fills = λ ys q. rw (es, b, c) (puts ys (omega (arith, l, q)));
      }
    where
      end : ℕ
      end = p.start + p.len

      lists : entries_from s end (length fs) p.start ≡ map entry_of fs
      lists = let f = front_is s end (run_lies s p fs r) in list_run s end fs p.start (rw f (run_many s p fs r))

      puts : (ys : List FilterEntry) → length (map entry_of fs) ≤ length ys → fill_from s end (length fs) p.start 0 ys ≡ map entry_of fs ++ drop (length (map entry_of fs)) ys
      puts ys q =
          let f = front_is s end (run_lies s p fs r) in
          let z : 0 + length (map entry_of fs) ≡ length (map entry_of fs) = omega arith in
          fill_run s end fs p.start 0 ys (rw f (run_many s p fs r)) ∙ sets-eq (map entry_of fs) ys 0 (omega arith) ∙ rw z

  pub run_full : places < n → PlanIs s places (Err (FilterTableFull n)) 0 0 0
  unfolding table_of
  run_full h =
      let l : length (map entry_of fs) ≡ n = length-map fs entry_of ∙ sym c in
      let b : leb (length (map entry_of fs)) places ≡ false = lt-leb (length (map entry_of fs)) places (omega (arith, l)) in
      record { answer = rw (es, b, l); room = omega arith; listed = rw (es, b); fills = λ ys q. rw (es, b) }

  pub stands_fits : n ≤ places → (p.start, (p.start + p.len, n)) ≡ spanned (got p) (table_of s places)
  unfolding table_of
  stands_fits h =
      let l : length (map entry_of fs) ≡ n = length-map fs entry_of ∙ sym c in
      let b : leb (length (map entry_of fs)) places ≡ true = le-leb (length (map entry_of fs)) places (omega (arith, l)) in
      rw (es, b) (ap (λ (k : ℕ). (p.start, (p.start + p.len, k))) (sym l))

  pub stands_full : places < n → (0, (0, 0)) ≡ spanned (got p) (table_of s places)
  unfolding table_of
  stands_full h =
      let l : length (map entry_of fs) ≡ n = length-map fs entry_of ∙ sym c in
      let b : leb (length (map entry_of fs)) places ≡ false = lt-leb (length (map entry_of fs)) places (omega (arith, l)) in
      rw (es, b)

-- ---- the frame

-- where the entries are refused, the answer is that refusal, and nothing is filled
entries_bad : (s : List ℕ) (places : ℕ) (k : Refusal) (r : Result ℕ FilterTableError) → entries_of s ≡ bad k → told_table r ≡ bad k → PlanIs s places r 0 0 0
unfolding table_of
entries_bad s places k r e t = record { answer = t ∙ rw e; room = omega arith; listed = rw e; fills = λ ys q. rw e }

pub plan_refused : (s : List ℕ) (places : ℕ) (e : Error) (n : ℕ) → refused_as (told_error e) n ≡ read_placed_of none s → Planned s places (unfilled (Err (Refused e)) n)
unfolding entries_of
plan_refused s places e n i = go (told_error e) i refl
  where
    go : (k : Refusal) → refused_as k n ≡ read_placed_of none s → told_error e ≡ k → Planned s places (unfilled (Err (Refused e)) n)
    go (nr k vs) i j = record { plan = entries_bad s places (nr k vs) (Err (Refused e)) (rw (← i)) (ap bad j); stands = rw (← i); taken = rw (← i) }

pub plan_other : (s : List ℕ) (places : ℕ) (v : Placed) (n : ℕ) → accepted v n ≡ read_placed_of none s → run_of (accepted v n) ≡ bad not_subscribe → Planned s places (unfilled (Err NotSubscribe) n)
unfolding entries_of
plan_other s places v n i j = record { plan = entries_bad s places not_subscribe (Err NotSubscribe) (rw (← i, j)) refl; stands = rw (← i, j); taken = rw (← i) }

-- the record of another kind has no run of filters
pub other_run : (p : code.Packet) (n : ℕ) → ((m : CodeSubscribe) → p ≡ code.Packet.Subscribe m → ⊥) → run_of (accepted (told_packet p) n) ≡ bad not_subscribe
other_run (code.Packet.Publish m) n h = refl
other_run (code.Packet.Ack k m) n h = refl
other_run (code.Packet.Subscribe m) n h = absurd (h m refl)
other_run (code.Packet.Reply k m) n h = refl
other_run (code.Packet.Unsubscribe m) n h = refl
other_run code.Packet.PingReq n h = refl
other_run code.Packet.PingResp n h = refl

-- where the second is a value, so is the first
like_there : {A B : Type 0} {R : A → B → Type 0} (m : Fit A) (m' : Fit B) (b : B) → Like R m m' → m' ≡ got b → (a : A) × (m ≡ got a)
like_there _ _ b (gots {a = a} r) i = (a, refl)
like_there _ _ b bads i = absurd (bad_got i)

module _ (s : List ℕ) where
  -- the filters of a Subscribe that was read stand at their place
  pub read_run : (v : Placed) (n : ℕ) (p : Span) → read_placed_of none s ≡ accepted v n → run_of (accepted v n) ≡ got p → (fs : List (Filter Span)) × (again (filters_fit as_places) s p ≡ got fs)
  read_run (subscribe m) n p e j =
      let (w, k, _) = placed_accepted none s (subscribe m) n e in
      subst (λ (x : Span). (fs : List (Filter Span)) × (again (filters_fit as_places) s x ≡ got fs)) (got_inj j)
      (from_bind {C = λ (_ : Packet). (fs : List (Filter Span)) × (again (filters_fit as_places) s m.filters ≡ got fs)} (if_some (say_props s subscribe_row) m.props) _
      (λ qs _. from_bind {C = λ (_ : Packet). (fs : List (Filter Span)) × (again (filters_fit as_places) s m.filters ≡ got fs)} (again (filters_fit as_bytes) s m.filters) _
      (λ fs f w' _. like_there (again (filters_fit as_places) s m.filters) (again (filters_fit as_bytes) s m.filters) fs (again_like s (filters_says s) m.filters) f)) w k)
  read_run (publish m) n p e j = absurd (bad_got j)
  read_run (ack k m) n p e j = absurd (bad_got j)
  read_run (reply k m) n p e j = absurd (bad_got j)
  read_run (unsubscribe m) n p e j = absurd (bad_got j)
  read_run (ping k) n p e j = absurd (bad_got j)

  pub entries_got : (v : Placed) (n : ℕ) (p : Span) (fs : List (Filter Span)) → accepted v n ≡ read_placed_of none s → run_of (accepted v n) ≡ got p → again (filters_fit as_places) s p ≡ got fs → entries_of s ≡ got (map entry_of fs)
  unfolding entries_of
  entries_got v n p fs i j f = rw (← i, j, f)

  pub plan_subscribe : {places : ℕ} {r : Plan} (v : Placed) (n : ℕ) (p : Span) → accepted v n ≡ read_placed_of none s → run_of (accepted v n) ≡ got p → RunPlanIs s p places n r → Planned s places r
  plan_subscribe v n p i j q =
      let (fs, f) = read_run v n p (sym i) j in
      let e = entries_got v n p fs i j f in
      record { plan = q.plans fs f e; stands = q.stands fs f e ∙ rw (← i, j); taken = q.took ∙ rw (← i) }

-- the contract of `fill_filters`, from those of `plan_of` and `put_entries`
pub filled_is : {s : List ℕ} {xs ys : List FilterEntry} {r : Result ℕ FilterTableError} {at end n : ℕ} → PlanIs s (length xs) r at end n → ys ≡ fill_from s end n at 0 xs → Fills s xs r ys
filled_is {xs = xs} p e = record { answer = p.answer; table = e ∙ p.fills xs refl }

-- the plan at a run whose filters are n
module _ {s : List ℕ} {p : Span} {places n taken : ℕ} (c : RunIs s p n) where
  pub plan_fits : n ≤ places → RunPlanIs s p places taken (record { answer = Ok n; at = p.start; end = p.start + p.len; count = n; taken = taken })
  plan_fits h = record { plans = λ fs r es. run_fits s p fs r es places n (c.counts fs r) h; stands = λ fs r es. stands_fits s p fs r es places n (c.counts fs r) h; took = refl }

  pub plan_full : places < n → RunPlanIs s p places taken (unfilled (Err (FilterTableFull n)) taken)
  plan_full h = record { plans = λ fs r es. run_full s p fs r es places n (c.counts fs r) h; stands = λ fs r es. stands_full s p fs r es places n (c.counts fs r) h; took = refl }

pub plan_outside : {s : List ℕ} {p : Span} {places n taken : ℕ} → length s < p.start + p.len → RunPlanIs s p places taken (unfilled (Err (FilterTableFull n)) taken)
plan_outside {s = s} {p = p} h =
    record { plans = λ fs r es. absurd (omega (arith, h, run_lies s p fs r)); stands = λ fs r es. absurd (omega (arith, h, run_lies s p fs r)); took = refl }

-- 01: "the covered n-th filter function": the k-th entry is the k-th filter of the run at its place
pub nth_map : {A B : Type 0} (f : A → B) (k : ℕ) (vs : List A) → nth_of k (map f vs) ≡ on_got f (nth_of k vs)
nth_map f k [] = refl
nth_map f zero (v ∷ vs) = refl
nth_map f (suc k) (v ∷ vs) = nth_map f k vs

-- 02, P7: of an accepted Subscribe whose filters stand at p, the entries are the filters that the n-th filter function gives there, in order, and no more
pub entries_nth : (s : List ℕ) (v : Placed) (n : ℕ) (p : Span) → read_placed_of none s ≡ accepted v n → run_of (accepted v n) ≡ got p
    → (es : List FilterEntry) × (entries_of s ≡ got es) × ((k : ℕ) → nth_of k es ≡ on_got entry_of (filter_at as_places s p k))
unfolding filter_at
entries_nth s v n p e j =
    let (fs, f) = read_run s v n p e j in
    (map entry_of fs, entries_got s v n p fs (sym e) j f, λ k. nth_map entry_of k fs ∙ rw f)
