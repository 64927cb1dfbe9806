-- What the words say that `desk` is started with: docs/DESK.md, "desk [--limit N] [--topic FILTER] [--payload N] [--ascii] [FILE]". Assumes nothing.
use Rattle.std.specs.Prelude as std
use Rattle.std.specs.Prelude.{Bool, true, false, cond, List, [], ◌∷◌, ℕ, ◌+◌, ◌-◌, ◌*◌, ◌^◌, eqb, leb, ltb, Some, None}
use Rattle.std.proofs.Math.Option.{Option, some, none}
use Rattle.records.specs.Ascii.{codes_of}
use Rattle.desk_arguments.specs.declared.Asked.{Asked}
use Rattle.desk_arguments.specs.declared.Awaited.{Awaited}
use Rattle.desk_arguments.specs.declared.Said.{Said}
use Rattle.desk_arguments.specs.declared.Style.{Style}

-- docs/DESK.md, the N of `--limit N`: the number, if the word is one
abbrev pub told_number : std.Option ℕ → Option ℕ
told_number (Some n) = some n
told_number None = none

-- are they the same bytes?
unfoldable pub same : List ℕ → List ℕ → Bool
same [] [] = true
same [] (y ∷ t) = false
same (x ∷ s) [] = false
same (x ∷ s) (y ∷ t) = cond (eqb x y) (same s t) false

-- the number n with the digit b behind it (`0` is 48, `9` 57), if b is one and 64 bits hold that; none stays none
unfoldable pub grow : Option ℕ → ℕ → Option ℕ
grow none b = none
grow (some n) b = cond (leb 48 b) (cond (leb b 57) (cond (ltb (n * 10 + (b - 48)) (2 ^ 64)) (some (n * 10 + (b - 48))) none) none) none

-- with all digits of a list behind it
unfoldable pub grown_by : Option ℕ → List ℕ → Option ℕ
grown_by m [] = m
grown_by m (b ∷ s) = grown_by (grow m b) s

-- a number in decimal: one digit at least
unfoldable pub number_of : List ℕ → Option ℕ
number_of [] = none
number_of (b ∷ s) = grown_by (some 0) (b ∷ s)

-- an option starts with `-` (45) and has more than that
abbrev pub is_option : List ℕ → Bool
is_option [] = false
is_option (x ∷ []) = false
is_option (x ∷ y ∷ w) = eqb x 45

-- what a word says that no other waits for
unfoldable pub said_of : List ℕ → Said
said_of w =
    cond (same w (codes_of "--limit")) Said.Limit
    (cond (same w (codes_of "--topic")) Said.Topic
    (cond (same w (codes_of "--payload")) Said.Payload
    (cond (same w (codes_of "--ascii")) Said.Ascii
    (cond (same w (codes_of "--colour")) Said.Colour
    (cond (same w (codes_of "--status")) Said.Status
    (cond (is_option w) Said.Unknown Said.Name))))))

-- before the first word
abbrev pub unasked : Asked
unasked = record { file = 0; limit = None; status = false; bad = false; named = false; topic = 0; style = record { ascii = false; colour = false; most = None }; awaits = Awaited.Nothing }

-- no words of desk's
abbrev pub as_bad : Asked → Asked
as_bad a = record { file = a.file; limit = a.limit; status = a.status; bad = true; named = a.named; topic = a.topic; style = a.style; awaits = Awaited.Nothing }

-- the next word is a value
abbrev pub as_awaiting : Asked → Awaited → Asked
as_awaiting a w = record { file = a.file; limit = a.limit; status = a.status; bad = a.bad; named = a.named; topic = a.topic; style = a.style; awaits = w }

-- lines are shown so
abbrev pub as_styled : Asked → Style → Asked
as_styled a s = record { file = a.file; limit = a.limit; status = a.status; bad = a.bad; named = a.named; topic = a.topic; style = s; awaits = Awaited.Nothing }

-- N behind `--limit`
abbrev pub with_limit : Asked → Option ℕ → Asked
with_limit a (some n) = record { file = a.file; limit = Some n; status = a.status; bad = a.bad; named = a.named; topic = a.topic; style = a.style; awaits = Awaited.Nothing }
with_limit a none = as_bad a

-- N behind `--payload`
abbrev pub with_most : Asked → Option ℕ → Asked
with_most a (some n) = as_styled a (record { ascii = a.style.ascii; colour = a.style.colour; most = Some n })
with_most a none = as_bad a

-- FILE, the i-th word, which is named once; `-` is standard input
abbrev pub with_name : Asked → List ℕ → ℕ → Asked
with_name a w i =
    cond a.named (as_bad a)
    (cond (same w (codes_of "-"))
    (record { file = a.file; limit = a.limit; status = a.status; bad = a.bad; named = true; topic = a.topic; style = a.style; awaits = a.awaits })
    (record { file = i; limit = a.limit; status = a.status; bad = a.bad; named = true; topic = a.topic; style = a.style; awaits = a.awaits }))

-- FILTER behind `--topic`, the i-th word
abbrev pub with_topic : Asked → ℕ → Asked
with_topic a i = record { file = a.file; limit = a.limit; status = a.status; bad = a.bad; named = a.named; topic = i; style = a.style; awaits = Awaited.Nothing }

abbrev pub with_said : Asked → Said → List ℕ → ℕ → Asked
with_said a Said.Limit w i = as_awaiting a Awaited.Limit
with_said a Said.Topic w i = as_awaiting a Awaited.Topic
with_said a Said.Payload w i = as_awaiting a Awaited.Payload
with_said a Said.Ascii w i = as_styled a (record { ascii = true; colour = a.style.colour; most = a.style.most })
with_said a Said.Colour w i = as_styled a (record { ascii = a.style.ascii; colour = true; most = a.style.most })
with_said a Said.Status w i = record { file = a.file; limit = a.limit; status = true; bad = a.bad; named = a.named; topic = a.topic; style = a.style; awaits = a.awaits }
with_said a Said.Unknown w i = as_bad a
with_said a Said.Name w i = with_name a w i

-- the word i behind what waits for one
abbrev pub behind : Awaited → Asked → List ℕ → ℕ → Asked
behind Awaited.Limit a w i = with_limit a (number_of w)
behind Awaited.Topic a w i = with_topic a i
behind Awaited.Payload a w i = with_most a (number_of w)
behind Awaited.Nothing a w i = with_said a (said_of w) w i

-- with the i-th word
abbrev pub with_word : Asked → List ℕ → ℕ → Asked
with_word a w i = behind a.awaits a w i

-- after the last word: N is awaited behind `--limit` and `--payload`, FILTER behind `--topic`
abbrev pub ended_by : Awaited → Asked → Asked
ended_by Awaited.Limit a = as_bad a
ended_by Awaited.Topic a = as_bad a
ended_by Awaited.Payload a = as_bad a
ended_by Awaited.Nothing a = a

abbrev pub with_end : Asked → Asked
with_end a = ended_by a.awaits a
