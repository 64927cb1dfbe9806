-- What tidying answers, and the output afterwards (02, P14). Assumes nothing.
use Rattle.std.specs.Prelude.{◌≡◌, Bool, true, false, cond, List, [], ◌∷◌, ◌++◌, ℕ, ◌≤◌, leb, length, drop, get_or, Result, Ok, Err}
use Rattle.std.proofs.Math.Option.{Option, none, some}
use Rattle.grammar.specs.Choice.{lookup}
use Rattle.grammar.specs.Record.{kind_of}
use Rattle.grammar.specs.Tables.{Layout, a_publish, an_ack, a_subscribe, a_reply, an_unsubscribe, a_ping, kinds}
use Rattle.reading.specs.Refusal.{nr, Answer, accepted, refused, refused_as}
use Rattle.reading.specs.Reader.{Fit, got, bad}
use Rattle.reading.specs.Read.{read_of}
use Rattle.records.specs.AsNumbers.{told_error}
use Rattle.packet.specs.PacketRead.{taken_in}
use Rattle.tidy_form.specs.Tidy.{tidy_of}
use Rattle.tidy_form.specs.Order.{success_in}
use Rattle.records.specs.declared.error.Error.{Error}

-- 02, P14: the size of the tidy form and how many bytes are taken; or the refusal, and how many
abbrev pub Tidied : Type 0
Tidied = Result (ℕ × ℕ) (Error × ℕ)

-- the size of the tidy form, or the refusal; and how many bytes of the stream are taken
abbrev pub told_tidied : Tidied → Answer ℕ
told_tidied (Ok (size, n)) = accepted size n
told_tidied (Err (e, n)) = refused_as (told_error e) n

-- the tidy form b of a frame of n bytes, for an output of `room` bytes; 01, row 19: the size, of which the output is short: then nothing is used up
abbrev pub room_for : ℕ → List ℕ → ℕ → Answer (List ℕ)
room_for room b n = cond (leb (length b) room) (accepted b n) (refused 19 (length b ∷ []) 0)

-- the tidy form if there is one, else the reader's refusal; n is what the reader takes
abbrev pub tidied : ℕ → Fit (List ℕ) → ℕ → Answer (List ℕ)
tidied room (got b) n = room_for room b n
tidied room (bad k) n = refused_as k n

-- 02, P14: of the frame at the start of s, read with no limit
unfoldable pub tidied_of : List ℕ → ℕ → Answer (List ℕ)
tidied_of s room = tidied room (tidy_of s) (taken_in (read_of none s))

-- how many bytes they are
abbrev pub size_in : Answer (List ℕ) → Answer ℕ
size_in (accepted b n) = accepted (length b) n
size_in (refused k vs n) = refused k vs n

-- the output afterwards: 01: "A refused write leaves the output as it stood. An accepted one sets the first size bytes, .. and keeps the rest"
abbrev pub stands_in : List ℕ → Answer (List ℕ) → List ℕ
stands_in out (accepted b n) = b ++ drop (length b) out
stands_in out (refused k vs n) = out

-- the contract of `tidy`: what its answer tells of the stream s, and the output before and after
pub record Tidies (s before after : List ℕ) (r : Tidied) : Type 0 where
  pub answer : told_tidied r ≡ size_in (tidied_of s (length before))
  pub output : after ≡ stands_in before (tidied_of s (length before))

-- ---- what the theorems say

-- the answer, whatever was taken
abbrev pub fit_of : {A : Type 0} → Answer A → Fit A
fit_of (accepted a n) = got a
fit_of (refused k vs n) = bad (nr k vs)

-- the length of the tidy form of a frame c, by its layout and whether it has no properties: that of the frame, but for a ping, and for an acknowledgement of a
-- publish with no properties: 01, grammar: "A successful PubAck with properties absent is 4 bytes", else "a reason and a block" (DECISIONS 30)
abbrev pub tidy_length : Option Layout → Bool → List ℕ → ℕ
tidy_length none bare c = length c
tidy_length (some a_publish) bare c = length c
tidy_length (some (an_ack rs)) true c = cond (success_in c) 4 6
tidy_length (some (an_ack rs)) false c = length c
tidy_length (some a_subscribe) bare c = length c
tidy_length (some (a_reply rs)) bare c = length c
tidy_length (some an_unsubscribe) bare c = length c
tidy_length (some a_ping) bare c = 2

-- the layout of a frame, by the kind in its first byte
abbrev pub layout_in : List ℕ → Option Layout
layout_in c = lookup kinds (kind_of (get_or c 0 0))

-- an acknowledgement of a publish with no properties (02, P7: "When absent they are equal"), whose reason is success or not
abbrev pub BareAck : List ℕ → ℕ → ℕ → Bool → Type 0
BareAck c start end t = (rs : List ℕ) × (layout_in c ≡ some (an_ack rs)) × (end ≤ start) × (success_in c ≡ t)
