-- Each entry of the tables, held against a second spelling, ordered by number, by computation. Assumes nothing.
use mathlib.Core.Path.{◌≡◌, refl}
use mathlib.Core.Bool.{Bool, true, false, not, ◌&&◌, cond}
use mathlib.Core.Option.{Option, none, some}
use mathlib.Core.List.{List, [], ◌∷◌}
use Prim.Native.Nat.{ℕ, zero, suc}
use Rattle.grammar.specs.Choice.{is_in, lookup}
use Rattle.grammar.specs.Tables.{u8, u16, u32, number, text, bytes, pair, is_list, publish_row, subscribe_row, ack_row, unsubscribe_row, reasons, release_reasons, sub_ack_reasons, unsub_ack_reasons, Layout, a_publish, an_ack, a_subscribe, a_reply, an_unsubscribe, a_ping, kinds, reserved, is_ping, reasons_of, form_at, row_of_kind, firsts, first_of}

-- k numbers from n on
abbrev pub count : ℕ → ℕ → List ℕ
count zero n = []
count (suc k) n = n ∷ count k (suc n)

-- the number with what is said of it, if anything is
abbrev entry : {A : Type 0} → ℕ → Option A → List (ℕ × A) → List (ℕ × A)
entry i none l = l
entry i (some a) l = (i, a) ∷ l

-- those of the numbers that f knows, and what it says of them
abbrev known : {A : Type 0} → (ℕ → Option A) → List ℕ → List (ℕ × A)
known f [] = []
known f (i ∷ l) = entry i (f i) (known f l)

-- those of the numbers that pass the test
abbrev pub chosen : (ℕ → Bool) → List ℕ → List ℕ
chosen t [] = []
chosen t (i ∷ l) = cond (t i) (i ∷ chosen t l) (chosen t l)

-- what f says of each of the numbers
abbrev each : {A : Type 0} → (ℕ → A) → List ℕ → List A
each f [] = []
each f (i ∷ l) = f i ∷ each f l

-- nothing is said
abbrev is_none : Option Layout → Bool
is_none none = true
is_none (some l) = false

-- 01, table of properties: of all 256 identifiers, in each row
publish_row_lem : known (form_at publish_row) (count 256 0) ≡ (1, u8) ∷ (2, u32) ∷ (3, text) ∷ (8, text) ∷ (9, bytes) ∷ (11, number) ∷ (35, u16) ∷ (38, pair) ∷ []
unfolding publish_row
publish_row_lem = refl

subscribe_row_lem : known (form_at subscribe_row) (count 256 0) ≡ (11, number) ∷ (38, pair) ∷ []
unfolding subscribe_row
subscribe_row_lem = refl

ack_row_lem : known (form_at ack_row) (count 256 0) ≡ (31, text) ∷ (38, pair) ∷ []
unfolding ack_row
ack_row_lem = refl

unsubscribe_row_lem : known (form_at unsubscribe_row) (count 256 0) ≡ (38, pair) ∷ []
unfolding unsubscribe_row
unsubscribe_row_lem = refl

-- 01, grammar: "38, and 11 in Publish, are lists": of all 256 identifiers, in each row
publish_lists_lem : chosen (is_list publish_row) (count 256 0) ≡ 11 ∷ 38 ∷ []
unfolding publish_row
publish_lists_lem = refl

subscribe_lists : chosen (is_list subscribe_row) (count 256 0) ≡ 38 ∷ []
unfolding subscribe_row
subscribe_lists = refl

ack_lists : chosen (is_list ack_row) (count 256 0) ≡ 38 ∷ []
unfolding ack_row
ack_lists = refl

unsubscribe_lists : chosen (is_list unsubscribe_row) (count 256 0) ≡ 38 ∷ []
unfolding unsubscribe_row
unsubscribe_lists = refl

-- 01, PubAck: of all 256 bytes, the nine reasons
nine_reasons : chosen (λ c. is_in c reasons) (count 256 0) ≡ 0 ∷ 16 ∷ 128 ∷ 131 ∷ 135 ∷ 144 ∷ 145 ∷ 151 ∷ 153 ∷ []
unfolding reasons
nine_reasons = refl

-- 02, P1: PubRel and PubComp; SubAck; UnsubAck
two_reasons : chosen (λ c. is_in c release_reasons) (count 256 0) ≡ 0 ∷ 146 ∷ []
unfolding release_reasons
two_reasons = refl

twelve_reasons : chosen (λ c. is_in c sub_ack_reasons) (count 256 0) ≡ 0 ∷ 1 ∷ 2 ∷ 128 ∷ 131 ∷ 135 ∷ 143 ∷ 145 ∷ 151 ∷ 158 ∷ 161 ∷ 162 ∷ []
unfolding sub_ack_reasons
twelve_reasons = refl

seven_reasons : chosen (λ c. is_in c unsub_ack_reasons) (count 256 0) ≡ 0 ∷ 17 ∷ 128 ∷ 131 ∷ 135 ∷ 143 ∷ 145 ∷ []
unfolding unsub_ack_reasons
seven_reasons = refl

-- 01, grammar, and 02, P1: of all 16 kinds, those that are carried
eleven_kinds : known (lookup kinds) (count 16 0)
    ≡ (3, a_publish) ∷ (4, an_ack reasons) ∷ (5, an_ack reasons) ∷ (6, an_ack release_reasons) ∷ (7, an_ack release_reasons)
    ∷ (8, a_subscribe) ∷ (9, a_reply sub_ack_reasons) ∷ (10, an_unsubscribe) ∷ (11, a_reply unsub_ack_reasons) ∷ (12, a_ping) ∷ (13, a_ping) ∷ []
unfolding kinds
eleven_kinds = refl

-- 02, P1: the reasons of all 16 kinds; none where a kind lists none
sixteen_lists : each reasons_of (count 16 0)
    ≡ [] ∷ [] ∷ [] ∷ [] ∷ reasons ∷ reasons ∷ release_reasons ∷ release_reasons ∷ [] ∷ sub_ack_reasons ∷ [] ∷ unsub_ack_reasons ∷ [] ∷ [] ∷ [] ∷ [] ∷ []
unfolding reasons_of kinds
sixteen_lists = refl

-- 01, row 6, as 02's P1 leaves it: "no longer names 5, 6, 7, 9, 10 or 11": the rest, but for row 4's
three_others : chosen (λ k. is_none (lookup kinds k) && not (is_in k reserved)) (count 16 0) ≡ 1 ∷ 2 ∷ 14 ∷ []
unfolding kinds
three_others = refl

-- 01, row 4: "k is 0 or 15"; row 5: the pings
zero_and_last : chosen (λ k. is_in k reserved) (count 16 0) ≡ 0 ∷ 15 ∷ []
zero_and_last = refl

two_pings : chosen (λ k. is_ping (lookup kinds k)) (count 16 0) ≡ 12 ∷ 13 ∷ []
unfolding kinds
two_pings = refl

-- 01, table of properties; 02, P1: of all 16 kinds, those that have a block, and its place
nine_blocks : known row_of_kind (count 16 0)
    ≡ (3, publish_row) ∷ (4, ack_row) ∷ (5, ack_row) ∷ (6, ack_row) ∷ (7, ack_row) ∷ (8, subscribe_row) ∷ (9, ack_row) ∷ (10, unsubscribe_row)
    ∷ (11, ack_row) ∷ []
unfolding row_of_kind kinds
nine_blocks = refl

-- 01, grammar, and 02, P1: the first bytes of all 16 kinds; 0 where the table has none
ten_firsts : each first_of (count 16 0) ≡ 0 ∷ 0 ∷ 0 ∷ 0 ∷ 64 ∷ 80 ∷ 98 ∷ 112 ∷ 130 ∷ 144 ∷ 162 ∷ 176 ∷ 192 ∷ 208 ∷ 0 ∷ 0 ∷ []
unfolding first_of firsts
ten_firsts = refl
