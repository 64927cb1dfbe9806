-- Which numbers the refusals of broken fields have: one law for each way to build a fault. Assumes nothing.
use mathlib.Core.Path.{◌≡◌, refl}
use mathlib.Core.Bool.{Bool, true}
use mathlib.Core.Option.{Option}
use mathlib.Core.List.{List, [], ◌∷◌}
use Prim.Native.Nat.{ℕ, zero, suc}
use Rattle.grammar.specs.Choice.{is_in}
use Rattle.grammar.specs.Gram.{Gram}
use Rattle.grammar.specs.Tables.{Form, u8, u16, u32, number, text, bytes, pair, Row, ack_row, Layout, a_publish, an_ack, a_subscribe, a_reply, an_unsubscribe, a_ping}
use Rattle.grammar.specs.Record.{flag_qos}
use Rattle.reading.specs.Refusal.{Refusal, nr}
use Rattle.reading.specs.Fault.{Fault, Sound, OnlyFault, under, fails, under_by, fails_by, ThenFault, first, second, SizedFault, sizes, crosses, fills, ChainFault, now, later, HeadFault, no_head, head, behind, ExactFault, before, follows, IsFault, isnt, ByteFault, no_byte, BigFault, fewer, NumFault, endless, long, BytesFault, TextFault, ValueFault, PropertyFault, no_id, unknown, value, BlockFault, AckFault, reason, block, IdentFault, SomeFault, no_entry, entry, FiltersFault, PublishFault, qos, fields, FieldsFault}
use Rattle.reading.specs.Rows.{Breaks}
use Rattle.reading.specs.Demand.{of_fields}

abbrev Numbered : Refusal → Type 0
Numbered (nr k vs) = is_in k of_fields ≡ true

-- the refusals of F have such numbers
abbrev Kept : Fault → Type 0
Kept F = (s : List ℕ) (k : Refusal) → F s k → Numbered k

kept_sound : Kept Sound
kept_sound s k h = elim h [ ]

kept_only : {A : Type 0} {t : A → Bool} {c : A → Refusal} {G : Gram A} {F : Fault} → ((a : A) → Numbered (c a)) → Kept F → Kept (OnlyFault t c G F)
kept_only C K s k (under f) = K s k f
kept_only C K _ _ (fails {a = a} r g h) = C a

kept_then : {A : Type 0} {G : Gram A} {F H : Fault} → Kept F → Kept H → Kept (ThenFault G F (λ _. H))
kept_then K L s k (first f) = K s k f
kept_then K L _ k (second {r = r} g h) = L r k h

kept_sized : {N : Gram ℕ} {F H : Fault} {c : ℕ → List ℕ → Refusal} → ((l : ℕ) (r : List ℕ) → Numbered (c l r)) → Kept F → Kept H → Kept (SizedFault N F c H)
kept_sized C K L s k (sizes f) = K s k f
kept_sized C K L _ _ (crosses {l = l} r g h) = C l r
kept_sized C K L _ k (fills {b = b} r g h) = L b k h

kept_chain : {S A : Type 0} {step : S → A → S} {G : S → Gram A} {F : S → Fault} → ((σ : S) → Kept (F σ)) → (σ : S) → Kept (ChainFault step G F σ)
kept_chain K σ _ k (now {x = x} {s = s} f) = K σ (x ∷ s) k f
kept_chain {step = step} K σ _ k (later {a = a} {s = s} g m) = kept_chain K (step σ a) s k m

kept_head : {t : ℕ → Bool} {c : ℕ → Refusal} {F : Fault} → ((i : ℕ) → Numbered (c i)) → Kept F → Kept (HeadFault t c F)
kept_head C K _ k (no_head f) = K [] k f
kept_head C K _ _ (head {i = i} h) = C i
kept_head C K _ k (behind {i = i} {s = s} h f) = K (i ∷ s) k f

kept_exact : {A : Type 0} {G : Gram A} {F : Fault} {c : Refusal} → Numbered c → Kept F → Kept (ExactFault G F c)
kept_exact C K s k (before f) = K s k f
kept_exact C K _ _ (follows y r g) = C

kept_is : {P : List ℕ → Type 0} {c : Refusal} → Numbered c → Kept (IsFault P c)
kept_is C _ _ (isnt h) = C

kept_byte : {c : Refusal} → Numbered c → Kept (ByteFault c)
kept_byte C _ _ no_byte = C

kept_big : {c : Refusal} {n : ℕ} → Numbered c → Kept (BigFault c n)
kept_big C _ _ (fewer h) = C

kept_num : {c : Refusal} {n : ℕ} → Numbered c → Numbered (nr 2 []) → Kept (NumFault c n)
kept_num C D _ _ (under_by (endless t h)) = C
kept_num C D _ _ (under_by (long r t h)) = D
kept_num C D _ _ (fails_by r g h) = D

kept_bytes : Kept BytesFault
kept_bytes = kept_sized (λ _ _. refl) (kept_big refl) kept_sound

kept_text : Kept TextFault
kept_text = kept_sized (λ _ _. refl) (kept_big refl) (kept_is refl)

kept_value : (k : Form) → Kept (ValueFault k)
kept_value u8 = kept_byte refl
kept_value u16 = kept_big refl
kept_value u32 = kept_big refl
kept_value number = kept_only (λ _. refl) (kept_num refl refl)
kept_value text = kept_text
kept_value bytes = kept_bytes
kept_value pair = kept_then kept_text kept_text

kept_property : (row : Row) → Kept (PropertyFault row)
kept_property row _ _ no_id = refl
kept_property row _ _ (unknown e) = refl
kept_property row _ k (value {f = t} {s = s} e f) = kept_value t s k f

kept_block : (row : Row) → Kept (BlockFault row)
kept_block row = kept_sized (λ _ _. refl) (kept_num refl refl) (kept_chain (λ σ. kept_head (λ _. refl) (kept_property row)) [])

kept_ack : (row : Row) (rs : List ℕ) → Kept (AckFault row rs)
kept_ack row rs _ _ (reason h) = refl
kept_ack row rs _ k (block {x = x} {r = r} h f) = kept_exact refl (kept_block _) (x ∷ r) k f

kept_ident : (q : ℕ) → Kept (IdentFault q)
kept_ident zero = kept_sound
kept_ident (suc q) = kept_only (λ _. refl) (kept_big refl)

kept_some : {A : Type 0} {G : Gram A} {F : Fault} → Kept F → Kept (SomeFault G F)
kept_some K _ _ no_entry = refl
kept_some K s k (entry f) = kept_chain (λ _. K) tt s k f

kept_filters : Kept FiltersFault
kept_filters = kept_some (kept_then kept_text (kept_only (λ _. refl) (kept_only (λ _. refl) (kept_byte refl))))

kept_publish : (x : ℕ) → Kept (PublishFault x)
kept_publish x _ _ (qos h) = refl
kept_publish x s k (fields h f) = kept_then kept_bytes (kept_then (kept_ident (flag_qos x)) (kept_then (kept_block _) kept_sound)) s k f

kept_fields : (f : Layout) (x : ℕ) → Kept (FieldsFault f x)
kept_fields a_publish x = kept_publish x
kept_fields (an_ack rs) x = kept_then (kept_big refl) (kept_ack ack_row rs)
kept_fields a_subscribe x = kept_then (kept_big refl) (kept_then (kept_block _) kept_filters)
kept_fields (a_reply rs) x = kept_then (kept_big refl) (kept_then (kept_block _) (kept_some (kept_only (λ _. refl) (kept_byte refl))))
kept_fields an_unsubscribe x = kept_then (kept_big refl) (kept_then (kept_block _) (kept_some kept_text))
kept_fields a_ping x = kept_sound

-- so of a frame whose fields break
pub field_numbers : (limit : Option ℕ) (s : List ℕ) (k t : ℕ) (vs : List ℕ) → Breaks limit s (nr k vs) t → is_in k of_fields ≡ true
field_numbers limit s k t vs (x, l, b, f, e, h, g) = kept_fields l x b (nr k vs) g
