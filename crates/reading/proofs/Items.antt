-- The n-th item at a place: of a record that was read, items 0, 1, .. are the value's list in order, and then 21. Assumes nothing.
use mathlib.Core.Path.{◌≡◌, refl, ap, ◌∙◌, subst}
use mathlib.Core.Logic.{◌↔◌}
use mathlib.Core.Option.{Option, none, some}
use mathlib.Core.Bool.{Bool, true, false, cond}
use mathlib.Core.List.{List, [], ◌∷◌, map}
use Prim.Native.Nat.{ℕ, zero, suc, ◌+◌, ◌≤◌}
use native.Mathlib.Omega.{arith}
use lib.Dec.{eqb, leb, leb→le}
use lib.ListN.{length, take, drop, length-drop, take-append-drop}
use lib.Seq.{length-take-le}
use Rattle.grammar.specs.Gram.{Gram, Only, Many}
use Rattle.grammar.specs.Tables.{Row, publish_row, subscribe_row, ack_row, unsubscribe_row, reasons_of}
use Rattle.grammar.specs.Record.{PropOf, all_of, PublishProps, Props, Filter, publish, ack, subscribe, reply, unsubscribe, ping}
use Rattle.grammar.specs.Sentence.{Value, Prop, Text, Properties, FilterOf, ReasonOf, some_of, Packet}
use Rattle.reading.specs.Refusal.{Refusal, nr, accepted}
use Rattle.reading.specs.Reader.{Fit, got, bad, Filler, ◌>>=◌, ◌>>◌, guard}
use Rattle.reading.specs.Read.{Shape, as_bytes, reasons_fit, properties_fit, filters_fit, topics_fit, read_of}
use Rattle.reading.specs.Place.{Span, part_of, held_of, as_places, Placed, read_placed_of, no_item, or_no_item, again, nth_of, reason_at, values_at, user_at, subscription_at, filter_at, topic_at, on_got, if_some, say_val, say_prop, say_filter, say_publish_props, say_props, say, Lists, OnBoth, neither, each, PublishItems, PropsItems, Items, of_publish, of_ack, of_subscribe, of_reply, of_unsubscribe, of_ping}
use Rattle.reading.proofs.Lists.{T_of}
use Rattle.reading.proofs.Reading.{bad_got, got_inj, from_got, from_bind, Fills}
use Rattle.reading.proofs.Forget.{Like, gots, bads, Via, like_bind, like_guard, like_is, Stands, Drops}
use Rattle.reading.proofs.Places.{again_iff, block_iff, properties_says, filters_says, topics_says, placed_accepted}
use Rattle.reading.proofs.Packets.{fills_filters, fills_reasons, fills_topics}
use Rattle.reading.proofs.Refusing.{got_bad, of_bind}

-- ---- any place within s

span_stands : (s : List ℕ) (p : Span) → p.start + p.len ≤ length s → Stands s (p.start + p.len) (part_of s p)
span_stands s p h =
    let i : length (take p.start s) ≡ p.start = length-take-le p.start s (omega arith) in
    let j : length (part_of s p) ≡ p.len = length-take-le p.len (drop p.start s) (rw length-drop (omega arith)) in
    record {
      before = take p.start s;
      after = drop p.len (drop p.start s);
      whole = rw (take-append-drop p.len (drop p.start s), take-append-drop p.start s);
      stop = omega (arith, i, j);
    }

or_like : {A B : Type 0} {R : A → B → Type 0} (m : Fit A) (m' : Fit B) → Like R m m' → Like R (or_no_item m) (or_no_item m')
or_like _ _ (gots r) = gots r
or_like _ _ bads = bads

pub again_like : {A B : Type 0} {R : A → B → Type 0} {q : ℕ → Filler A} {q' : ℕ → Filler B} (s : List ℕ) → ((e : ℕ) → Drops s e R (q e) (q' e)) → (p : Span) → Like R (again q s p) (again q' s p)
unfolding again
again_like {q = q} {q' = q'} s H p =
    let e : ℕ = p.start + p.len in
    like_guard (leb e (length s)) no_item _ _ λ t.
    or_like (q e (part_of s p)) (q' e (part_of s p)) ((H e).like (part_of s p) (span_stands s p (leb→le e (length s) (T_of (leb e (length s)) t))))

-- the only refusal is 21
again_bad : {A : Type 0} (q : ℕ → Filler A) (s : List ℕ) (p : Span) (k : Refusal) → again q s p ≡ bad k → k ≡ nr 21 []
unfolding again
again_bad {A} q s p k = go (leb (p.start + p.len) (length s)) (q (p.start + p.len) (part_of s p))
  where
    go : (t : Bool) (m : Fit A) → (guard t no_item >> or_no_item m) ≡ bad k → k ≡ nr 21 []
    go false m e = cc
    go true (bad k') e = cc
    go true (got a) e = cc

-- ---- the n-th of a list

nth_like : {A B : Type 0} (f : A → B) (n : ℕ) (vs : List A) (ws : List B) → map f vs ≡ ws → Like (Via f) (nth_of n vs) (nth_of n ws)
nth_like {A = A} f n vs ws e = rw (← e) (go n vs)
  where
    go : (n : ℕ) (vs : List A) → Like (Via f) (nth_of n vs) (nth_of n (map f vs))
    go n [] = bads
    go zero (a ∷ vs) = gots refl
    go (suc n) (a ∷ vs) = go n vs

nth_bad : {A : Type 0} (n : ℕ) (vs : List A) (k : Refusal) → nth_of n vs ≡ bad k → k ≡ nr 21 []
nth_bad n [] k e = cc
nth_bad zero (a ∷ vs) k e = got_bad e
nth_bad (suc n) (a ∷ vs) k e = nth_bad n vs k e

pub all_says : (s : List ℕ) (i : ℕ) (ps : List (PropOf Span)) → map (say_val s) (all_of i ps) ≡ all_of i (map (say_prop s) ps)
unfolding all_of
all_says s i [] = refl
all_says s i (p ∷ ps) = one (eqb p.0 i) (all_says s i ps)
  where
    one : (t : Bool) → map (say_val s) (all_of i ps) ≡ all_of i (map (say_prop s) ps)
        → map (say_val s) (cond t (p.1 ∷ all_of i ps) (all_of i ps)) ≡ cond t (say_val s p.1 ∷ all_of i (map (say_prop s) ps)) (all_of i (map (say_prop s) ps))
    one true e = ap (λ (l : List Value). say_val s p.1 ∷ l) e
    one false e = e

values_only : (h : Shape) (s : List ℕ) (p : Span) (k : Refusal) (row : Row) (i : ℕ) → values_at h s p row i ≡ bad k → k ≡ nr 21 []
unfolding values_at
values_only h s p k row i = of_bind (again (properties_fit h row) s p) _ k (again_bad (properties_fit h row) s p k) (λ ps e e'. got_bad e')

-- ---- each kind of item, at any place p of any bytes s: what stands at the answer's places is the item in bytes

module _ (s : List ℕ) (p : Span) where
  values_like : (row : Row) (i : ℕ) → Like (Via (map (say_val s))) (values_at as_places s p row i) (values_at as_bytes s p row i)
  unfolding values_at
  values_like row i = like_bind (again (properties_fit as_places row) s p) (again (properties_fit as_bytes row) s p) _ _ (again_like s (properties_says s row) p) λ ps qs _ _ r.
      gots (all_says s i ps ∙ ap (all_of i) r)

  nth_value : (row : Row) (i n : ℕ) → on_got (say_val s) (values_at as_places s p row i >>= nth_of n) ≡ (values_at as_bytes s p row i >>= nth_of n)
  nth_value row i n =
      like_is (values_at as_places s p row i >>= nth_of n) (values_at as_bytes s p row i >>= nth_of n) (on_got (say_val s)) (λ _. refl) (λ _. refl)
      (like_bind (values_at as_places s p row i) (values_at as_bytes s p row i) (nth_of n) (nth_of n) (values_like row i) λ vs ws _ _ r. nth_like (say_val s) n vs ws r)

  pub nth_user : (row : Row) (n : ℕ) → on_got (say_val s) (user_at as_places s p row n) ≡ user_at as_bytes s p row n
  unfolding user_at
  nth_user row n = nth_value row _ n

  pub nth_subscription : (n : ℕ) → on_got (say_val s) (subscription_at as_places s p n) ≡ subscription_at as_bytes s p n
  unfolding subscription_at
  nth_subscription n = nth_value _ _ n

  -- an entry of a list that f looks up
  nth_entry : {A B : Type 0} (f : A → B) (q : ℕ → Filler (List A)) (q' : ℕ → Filler (List B)) → ((e : ℕ) → Drops s e (Via (map f)) (q e) (q' e)) → (n : ℕ)
      → on_got f (again q s p >>= nth_of n) ≡ (again q' s p >>= nth_of n)
  nth_entry f q q' H n =
      like_is (again q s p >>= nth_of n) (again q' s p >>= nth_of n) (on_got f) (λ _. refl) (λ _. refl)
      (like_bind (again q s p) (again q' s p) (nth_of n) (nth_of n) (again_like s H p) λ vs ws _ _ r. nth_like f n vs ws r)

  pub nth_filter : (n : ℕ) → on_got (say_filter s) (filter_at as_places s p n) ≡ filter_at as_bytes s p n
  unfolding filter_at
  nth_filter n = nth_entry (say_filter s) (filters_fit as_places) (filters_fit as_bytes) (filters_says s) n

  pub nth_topic : (n : ℕ) → on_got (held_of s) (topic_at as_places s p n) ≡ topic_at as_bytes s p n
  unfolding topic_at
  nth_topic n = nth_entry (held_of s) (topics_fit as_places) (topics_fit as_bytes) (topics_says s) n

-- ---- 01, row 21, without the reader: an item is given exactly when the place holds a list that has it, and all else is 21

bind_iff : {A B : Type 0} (m : Fit A) (f : A → Fit B) (z : B) → ((m >>= f) ≡ got z) ↔ ((a : A) × (m ≡ got a) × (f a ≡ got z))
bind_iff {A = A} {B = B} m f z = (from_bind {C = λ (y : B). (a : A) × (m ≡ got a) × (f a ≡ got y)} m f (λ a e y e'. (a, e, e')) z, λ (a, e, e'). rw e e')

module _ (s : List ℕ) (p : Span) (n : ℕ) where
  nth_iff : (row : Row) (i : ℕ) (v : Value) → ((values_at as_bytes s p row i >>= nth_of n) ≡ got v)
      ↔ ((ps : List Prop) × (p.start + p.len ≤ length s) × Properties row ps (part_of s p) × (nth_of n (all_of i ps) ≡ got v))
  unfolding values_at
  nth_iff row i v = (
    from_bind {C = λ (y : Value). (ps : List Prop) × (p.start + p.len ≤ length s) × Properties row ps (part_of s p) × (nth_of n (all_of i ps) ≡ got y)}
        (values_at as_bytes s p row i) (nth_of n) (from_values row i) v,
    λ (ps, h, g, e). rw ((block_iff row s p ps).1 (h, g)) e,
  )
    where
      from_values : (row : Row) (i : ℕ) (vs : List Value) → values_at as_bytes s p row i ≡ got vs → (y : Value) → nth_of n vs ≡ got y
          → (ps : List Prop) × (p.start + p.len ≤ length s) × Properties row ps (part_of s p) × (nth_of n (all_of i ps) ≡ got y)
      from_values row i vs e y e' =
          let (ps, a, b) = (bind_iff (again (properties_fit as_bytes row) s p) _ vs).0 e in
          let (h, g) = (block_iff row s p ps).0 a in
          (ps, h, g, ap (nth_of n) (got_inj b) ∙ e')

  -- an n-th user property is given exactly when the place is a well-formed block of the row, of the bytes, that has so many
  pub user_iff : (row : Row) (v : Value) → (user_at as_bytes s p row n ≡ got v)
      ↔ ((ps : List Prop) × (p.start + p.len ≤ length s) × Properties row ps (part_of s p) × (nth_of n (all_of 38 ps) ≡ got v))
  unfolding user_at
  user_iff row v = nth_iff row 38 v

  pub subscription_iff : (v : Value) → (subscription_at as_bytes s p n ≡ got v)
      ↔ ((ps : List Prop) × (p.start + p.len ≤ length s) × Properties publish_row ps (part_of s p) × (nth_of n (all_of 11 ps) ≡ got v))
  unfolding subscription_at
  subscription_iff v = nth_iff publish_row 11 v

  -- an entry exactly when the place holds a list of the grammar that has so many
  entry_iff : {A : Type 0} {q : ℕ → Filler (List A)} {G : Gram (List A)} → ((e : ℕ) → Fills (q e) G) → (a : A) → ((again q s p >>= nth_of n) ≡ got a)
      ↔ ((vs : List A) × (p.start + p.len ≤ length s) × G vs (part_of s p) × (nth_of n vs ≡ got a))
  entry_iff {q = q} S f = (
    λ e. let (fs, a, b) = (bind_iff (again q s p) (nth_of n) f).0 e in let (h, g) = (again_iff S s p fs).0 a in (fs, h, g, b),
    λ (fs, h, g, e). (bind_iff (again q s p) (nth_of n) f).1 (fs, (again_iff S s p fs).1 (h, g), e),
  )

  -- an n-th filter exactly when it is a run of filters that has so many
  pub filter_iff : (f : Filter (List ℕ)) → (filter_at as_bytes s p n ≡ got f)
      ↔ ((fs : List (Filter (List ℕ))) × (p.start + p.len ≤ length s) × Only some_of (Many FilterOf) fs (part_of s p) × (nth_of n fs ≡ got f))
  unfolding filter_at
  filter_iff f = entry_iff fills_filters f

  -- an n-th reason exactly when it is a run of reasons of the list that has so many
  pub reason_iff : (rs : List ℕ) (c : ℕ) → (reason_at s p rs n ≡ got c)
      ↔ ((cs : List ℕ) × (p.start + p.len ≤ length s) × Only some_of (Many (ReasonOf rs)) cs (part_of s p) × (nth_of n cs ≡ got c))
  unfolding reason_at
  reason_iff rs c = entry_iff (fills_reasons rs) c

  -- an n-th topic exactly when it is a run of texts that has so many
  pub topic_iff : (t : List ℕ) → (topic_at as_bytes s p n ≡ got t)
      ↔ ((ts : List (List ℕ)) × (p.start + p.len ≤ length s) × Only some_of (Many Text) ts (part_of s p) × (nth_of n ts ≡ got t))
  unfolding topic_at
  topic_iff t = entry_iff fills_topics t

entry_only : {A : Type 0} (s : List ℕ) (p : Span) (k : Refusal) (q : ℕ → Filler (List A)) (n : ℕ) → (again q s p >>= nth_of n) ≡ bad k → k ≡ nr 21 []
entry_only s p k q n = of_bind (again q s p) (nth_of n) k (again_bad q s p k) (λ vs e. nth_bad n vs k)

module _ (h : Shape) (s : List ℕ) (p : Span) (k : Refusal) where
  -- no other refusal is given, whatever the bytes, the place and n
  pub user_only : (row : Row) (n : ℕ) → user_at h s p row n ≡ bad k → k ≡ nr 21 []
  unfolding user_at
  user_only row n = of_bind (values_at h s p row 38) _ k (values_only h s p k row 38) (λ vs e. nth_bad n vs k)

  pub subscription_only : (n : ℕ) → subscription_at h s p n ≡ bad k → k ≡ nr 21 []
  unfolding subscription_at
  subscription_only n = of_bind (values_at h s p publish_row 11) _ k (values_only h s p k publish_row 11) (λ vs e. nth_bad n vs k)

  pub filter_only : (n : ℕ) → filter_at h s p n ≡ bad k → k ≡ nr 21 []
  unfolding filter_at
  filter_only n = entry_only s p k (filters_fit h) n

  pub topic_only : (n : ℕ) → topic_at h s p n ≡ bad k → k ≡ nr 21 []
  unfolding topic_at
  topic_only n = entry_only s p k (topics_fit h) n

pub reason_only : (s : List ℕ) (p : Span) (k : Refusal) (rs : List ℕ) (n : ℕ) → reason_at s p rs n ≡ bad k → k ≡ nr 21 []
unfolding reason_at
reason_only s p k rs n = entry_only s p k (reasons_fit rs) n

-- ---- what was read of what is present

pub if_some_lem : {A B : Type 0} {R : A → B → Type 0} (f : A → Fit B) → ((a : A) (b : B) → f a ≡ got b → R a b) → (o : Option A) (z : Option B) → if_some f o ≡ got z → OnBoth R o z
if_some_lem {R = R} f h none z e = subst (OnBoth R none) (got_inj e) neither
if_some_lem {A = A} {B = B} {R = R} f h (some a) z e = go (f a) refl z e
  where
    go : (m : Fit B) → f a ≡ m → (z : Option B) → on_got some m ≡ got z → OnBoth R (some a) z
    go (got b) e = from_got (OnBoth R (some a)) (some b) (each (h a b e))
    go (bad k) e = λ z e'. absurd (bad_got e')

-- ---- so of a placed record whose lists are read at their places: items from 0 on are the record's list, in order, and then 21

module _ (s : List ℕ) where
  user_lists : (row : Row) (p : Span) (vs : List Value) → values_at as_bytes s p row 38 ≡ got vs → Lists (user_at as_places s p row) (say_val s) vs
  unfolding user_at
  user_lists row p vs e n = nth_user s p row n ∙ rw e

  subscription_lists : (p : Span) (vs : List Value) → values_at as_bytes s p publish_row 11 ≡ got vs → Lists (subscription_at as_places s p) (say_val s) vs
  unfolding subscription_at
  subscription_lists p vs e n = nth_subscription s p n ∙ rw e

  filter_lists : (p : Span) (fs : List (Filter (List ℕ))) → again (filters_fit as_bytes) s p ≡ got fs → Lists (filter_at as_places s p) (say_filter s) fs
  unfolding filter_at
  filter_lists p fs e n = nth_filter s p n ∙ rw e

  topic_lists : (p : Span) (ts : List (List ℕ)) → again (topics_fit as_bytes) s p ≡ got ts → Lists (topic_at as_places s p) (held_of s) ts
  unfolding topic_at
  topic_lists p ts e n = nth_topic s p n ∙ rw e

  as_it_is : {A : Type 0} (m : Fit A) → on_got (λ a. a) m ≡ m
  as_it_is (got a) = refl
  as_it_is (bad k) = refl

  reason_lists : (p : Span) (rs cs : List ℕ) → again (reasons_fit rs) s p ≡ got cs → Lists (reason_at s p rs) (λ c. c) cs
  unfolding reason_at
  reason_lists p rs cs e n = as_it_is (again (reasons_fit rs) s p >>= nth_of n) ∙ rw e

  publish_items : (ps : PublishProps Span (λ A. Span)) (qs : PublishProps (List ℕ) List) → say_publish_props s ps ≡ got qs → PublishItems s ps qs
  publish_items ps =
      from_bind (values_at as_bytes s ps.user publish_row 38) _ λ us e.
      from_bind (values_at as_bytes s ps.subscriptions publish_row 11) _ λ ns e'.
      from_got (PublishItems s ps) _ (user_lists publish_row ps.user us e, subscription_lists ps.subscriptions ns e')

  props_items : (row : Row) (ps : Props Span (λ A. Span)) (qs : Props (List ℕ) List) → say_props s row ps ≡ got qs → PropsItems s row ps qs
  props_items row ps = from_bind (values_at as_bytes s ps.user row 38) _ λ us e. from_got (PropsItems s row ps) _ (user_lists row ps.user us e)

  -- so of any placed record that says w
  pub say_items : (v : Placed) (w : Packet) → say s v ≡ got w → Items s v w
  say_items (publish m) = from_bind (if_some (say_publish_props s) m.props) _ λ ps e. from_got (Items s (publish m)) _ (of_publish (if_some_lem (say_publish_props s) publish_items m.props ps e))
  say_items (ack k m) = from_bind (if_some (say_props s ack_row) m.props) _ λ ps e. from_got (Items s (ack k m)) _ (of_ack (if_some_lem (say_props s ack_row) (props_items ack_row) m.props ps e))
  say_items (subscribe m) = from_bind (if_some (say_props s subscribe_row) m.props) _ λ ps e. from_bind (again (filters_fit as_bytes) s m.filters) _ λ fs e'.
      from_got (Items s (subscribe m)) _ (of_subscribe (if_some_lem (say_props s subscribe_row) (props_items subscribe_row) m.props ps e) (filter_lists m.filters fs e'))
  say_items (reply k m) = from_bind (if_some (say_props s ack_row) m.props) _ λ ps e. from_bind (again (reasons_fit (reasons_of k)) s m.reasons) _ λ cs e'.
      from_got (Items s (reply k m)) _ (of_reply (if_some_lem (say_props s ack_row) (props_items ack_row) m.props ps e) (reason_lists m.reasons (reasons_of k) cs e'))
  say_items (unsubscribe m) = from_bind (if_some (say_props s unsubscribe_row) m.props) _ λ ps e. from_bind (again (topics_fit as_bytes) s m.topics) _ λ ts e'.
      from_got (Items s (unsubscribe m)) _ (of_unsubscribe (if_some_lem (say_props s unsubscribe_row) (props_items unsubscribe_row) m.props ps e) (topic_lists m.topics ts e'))
  say_items (ping k) = from_got (Items s (ping k)) (ping k) of_ping

-- 01: of a record that was read, with places v and in bytes w: the items from 0 on are w's lists, in order, and then 21
pub read_items : (limit : Option ℕ) (s : List ℕ) (v : Placed) (n : ℕ) → read_placed_of limit s ≡ accepted v n → (w : Packet) × (read_of limit s ≡ accepted w n) × Items s v w
read_items limit s v n e = let (w, i, j) = placed_accepted limit s v n e in (w, j, say_items s v w i)
