-- 01's row 21, exactly when: of every answer that meets an item function's contract, for any bytes, place and n, whether they were read
-- or not. Assumes nothing.
use Rattle.std.specs.Prelude.{Option, None}
use mathlib.Core.Path.{◌≡◌, refl, sym, ap, ◌∙◌}
use mathlib.Core.Logic.{◌↔◌}
use mathlib.Core.List.{List, [], ◌∷◌, ◌++◌}
use Prim.Native.Nat.{ℕ, zero, suc}
use lib.ListN.{length}
use Rattle.grammar.specs.Tables.{Row, reasons_of}
use Rattle.grammar.specs.Record as record_of
use Rattle.grammar.specs.Sentence.{Value}
use Rattle.reading.specs.Refusal.{Refusal}
use Rattle.reading.specs.Reader.{Fit, got, bad}
use Rattle.reading.specs.Place.{as_places, no_item, nth_of, on_got, held_of, say_val, say_filter}
use Rattle.reading.proofs.Reading.{bad_got, got_inj}
use Rattle.reading.proofs.Refusing.{got_bad}
use Rattle.reading.proofs.Items.{nth_user, nth_subscription, nth_filter, nth_topic, user_iff, subscription_iff, filter_iff, reason_iff, topic_iff, user_only, subscription_only, filter_only, reason_only, topic_only}
use Rattle.records.specs.AsNumbers.{told_span, told_reply_kind}
use Rattle.records.specs.Answered.{told_user, told_identifier, told_filter_item, told_reason_item, told_topic_item}
use Rattle.records.proofs.Laws.{injective_by}
use Rattle.records.proofs.Answered.{back_user, back_user_lem, back_identifier, back_identifier_lem, back_filter_item, back_filter_item_lem, back_reason_item, back_reason_item_lem, back_topic_item, back_topic_item_lem}
use Rattle.records.specs.declared.span.Span.{Span}
use Rattle.items.specs.Nth.{NthUser, NthIdentifier}
use Rattle.records.specs.declared.reply_record.ReplyKind.{ReplyKind}
use Rattle.filter_runs.specs.FilterRun.{NthFilter}
use Rattle.entry_runs.specs.EntryRun.{NthReason, NthTopic}
use Rattle.promises.specs.Item.{IsNth, HasUser, HasIdentifier, HasFilter, HasReason, HasTopic}
use Rattle.records.specs.declared.subscribe_record.Filter.{Filter}

-- the n-th of a list, in both spellings
pub nth_when : {A : Type 0} (n : ℕ) (vs : List A) (v : A) → (nth_of n vs ≡ got v) ↔ IsNth n vs v
nth_when {A = A} n vs v = (to n vs, λ (us, ws, e, h). rw (e, ← h) (from us ws))
  where
    to : (n : ℕ) (vs : List A) → nth_of n vs ≡ got v → IsNth n vs v
    to n [] e = absurd (bad_got e)
    to zero (a ∷ vs) e = ([], vs, ap (λ (x : A). x ∷ vs) (got_inj e), refl)
    to (suc n) (a ∷ vs) e = let (us, ws, i, h) = to n vs e in (a ∷ us, ws, ap (λ (l : List A). a ∷ l) i, ap suc h)

    from : (us ws : List A) → nth_of (length us) (us ++ (v ∷ ws)) ≡ got v
    from [] ws = refl
    from (u ∷ us) ws = from us ws

-- what holds exactly when the n-th of a list l is v, in the one spelling, does so in the other
has_when : {A B P E : Type 0} {G : A → Type 0} {kept : A → List B} {n : ℕ} {v : B} → E ↔ ((l : A) × P × G l × (nth_of n (kept l) ≡ got v)) → E ↔ ((l : A) × P × G l × IsNth n (kept l) v)
has_when {kept = kept} {n = n} {v = v} i = (
  λ x. let (l, h, g, e) = i.0 x in (l, h, g, (nth_when n (kept l) v).0 e),
  λ (l, h, g, e). i.1 (l, h, g, (nth_when n (kept l) v).1 e),
)

-- where m says v exactly when H v, and refuses with 21 alone, it does so exactly when there is no v
none_when : {R A B : Type 0} {H : B → Type 0} (f : A → B) (m : Fit A) → ((v : B) → (on_got f m ≡ got v) ↔ H v) → ((k : Refusal) → m ≡ bad k → k ≡ no_item) → R ↔ (m ≡ bad no_item) → R ↔ ((v : B) → H v → ⊥)
none_when f (got a) i only t = (λ x. got_bad (t.0 x), λ no. absurd (no (f a) ((i (f a)).0 refl)))
none_when f (bad k) i only t = (λ x v h. bad_got ((i v).1 h), λ no. t.1 (ap bad (only k refl)))

-- what is handed back as it is
itself : {A : Type 0} (m : Fit A) → on_got (λ x. x) m ≡ m
itself (got a) = refl
itself (bad k) = refl

module _ (s : List ℕ) (p : Span) (n : ℕ) where
  -- ---- `items::user_property`, of the block of a row

  module _ (row : Row) (r : Option (Span × Span)) (m : NthUser row s p n r) where
    -- what stands at the answer's places is v exactly when v is the n-th
    pub user_given : (v : Value) → (on_got (say_val s) (told_user r) ≡ got v) ↔ HasUser row s p n v
    user_given v = rw (m, nth_user s (told_span p) row n) (has_when (user_iff s (told_span p) n row v))

    -- 21 exactly when there is no n-th
    pub user_refused : (r ≡ None) ↔ ((v : Value) → HasUser row s p n v → ⊥)
    user_refused = none_when (say_val s) (told_user r) user_given (λ k e. user_only as_places s (told_span p) k row n (sym m ∙ e)) (ap told_user, injective_by told_user back_user back_user_lem)

  -- ---- `items::subscription_identifier`, of a Publish block

  module _ (r : Option ℕ) (m : NthIdentifier s p n r) where
    pub identifier_given : (v : Value) → (on_got (say_val s) (told_identifier r) ≡ got v) ↔ HasIdentifier s p n v
    identifier_given v = rw (m, nth_subscription s (told_span p) n) (has_when (subscription_iff s (told_span p) n v))

    pub identifier_refused : (r ≡ None) ↔ ((v : Value) → HasIdentifier s p n v → ⊥)
    identifier_refused = none_when (say_val s) (told_identifier r) identifier_given (λ k e. subscription_only as_places s (told_span p) k n (sym m ∙ e)) (ap told_identifier, injective_by told_identifier back_identifier back_identifier_lem)

  -- ---- `filter_runs::filter`, of a run of filters

  module _ (r : Option Filter) (m : NthFilter s p n r) where
    pub filter_given : (f : record_of.Filter (List ℕ)) → (on_got (say_filter s) (told_filter_item r) ≡ got f) ↔ HasFilter s p n f
    filter_given f = rw (m, nth_filter s (told_span p) n) (has_when {kept = λ fs. fs} (filter_iff s (told_span p) n f))

    pub filter_refused : (r ≡ None) ↔ ((f : record_of.Filter (List ℕ)) → HasFilter s p n f → ⊥)
    filter_refused = none_when (say_filter s) (told_filter_item r) filter_given (λ k e. filter_only as_places s (told_span p) k n (sym m ∙ e)) (ap told_filter_item, injective_by told_filter_item back_filter_item back_filter_item_lem)

  -- ---- `entry_runs::reason`, of the reasons of a SubAck or UnsubAck

  module _ (kind : ReplyKind) (r : Option ℕ) (m : NthReason s p kind n r) where
    pub reason_given_lem : (c : ℕ) → (on_got (λ x. x) (told_reason_item r) ≡ got c) ↔ HasReason (reasons_of (told_reply_kind kind)) s p n c
    reason_given_lem c = rw (itself (told_reason_item r), m) (has_when {kept = λ cs. cs} (reason_iff s (told_span p) n (reasons_of (told_reply_kind kind)) c))

    pub reason_refused : (r ≡ None) ↔ ((c : ℕ) → HasReason (reasons_of (told_reply_kind kind)) s p n c → ⊥)
    reason_refused = none_when (λ x. x) (told_reason_item r) reason_given_lem (λ k e. reason_only s (told_span p) k (reasons_of (told_reply_kind kind)) n (sym m ∙ e)) (ap told_reason_item, injective_by told_reason_item back_reason_item back_reason_item_lem)

  -- ---- `entry_runs::topic`, of the topics of an Unsubscribe

  module _ (r : Option Span) (m : NthTopic s p n r) where
    pub topic_given : (t : List ℕ) → (on_got (held_of s) (told_topic_item r) ≡ got t) ↔ HasTopic s p n t
    topic_given t = rw (m, nth_topic s (told_span p) n) (has_when {kept = λ ts. ts} (topic_iff s (told_span p) n t))

    pub topic_refused : (r ≡ None) ↔ ((t : List ℕ) → HasTopic s p n t → ⊥)
    topic_refused = none_when (held_of s) (told_topic_item r) topic_given (λ k e. topic_only as_places s (told_span p) k n (sym m ∙ e)) (ap told_topic_item, injective_by told_topic_item back_topic_item back_topic_item_lem)
