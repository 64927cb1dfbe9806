-- The size is the number of bytes written: a sum for each way that they are built. Assumes nothing.
use mathlib.Core.Path.{◌≡◌, refl, ap, ◌∙◌}
use mathlib.Core.Bool.{Bool, true, false, ◌||◌, cond}
use mathlib.Core.Option.{none, some}
use mathlib.Core.List.{List, [], ◌∷◌}
use Prim.Native.Nat.{ℕ, suc, ◌+◌, ◌*◌, ◌/◌, ◌%◌, ◌≤◌, ◌<◌}
use native.Mathlib.Omega.{arith}
use lib.Dec.{eqb, ltb, ltb→lt}
use lib.ListN.{length, take, drop, length-append, length-drop}
use lib.Seq.{length-take-le}
use borrow.Author.Tests.{lt-ltb, ltb-false, le-ltb}
use Rattle.grammar.specs.Tables.{Form, u8, u16, u32, number, text, bytes, pair, Forms, Row, publish_row, subscribe_row, ack_row, unsubscribe_row}
use Rattle.grammar.specs.Record.{str}
use Rattle.grammar.specs.Sentence.{Value}
use Rattle.grammar.specs.Octets.{Each, nil, ◌&◌}
use Rattle.reading.proofs.Lists.{T_of}
use Rattle.writing.specs.Lists.{flat, total, sum, pieces, beside}
use Rattle.writing.specs.Handed.{Run, SubscribeHanded, Handed, publish, ack, subscribe, reply, unsubscribe, ping, Given, one, lent, pairs, several, Givens, publish_given, subscribe_given, ack_given, unsubscribe_given, strings, duos, items, tag, filters}
use Rattle.writing.specs.Spell.{wide, spell_step, spell, short, string, numeral, value, entry, row_bytes, props_bytes, counted, block, filter_bytes}
use Rattle.writing.specs.Size.{len_len, with_length, num_size, given_size, props_size, no_ident, ident_size, is_plain, filters_size, topics_size, rest_is, size_is}
use Rattle.writing.specs.Write.{ident_bytes, body_bytes, frame_bytes}
use Rattle.writing.specs.Refuse.{AddsUp, Coherent, InBlock, Belongs}
use Rattle.writing.proofs.Says.{length_wide}

-- ---- numbers and strings

pub spell_less : (k n : ℕ) → n < 128 → length (spell (suc k) n) ≡ 1
unfolding spell spell_step
spell_less k n h = rw (lt-ltb n 128 h)

pub spell_more : (k n : ℕ) → 128 ≤ n → length (spell (suc k) n) ≡ suc (length (spell k (n / 128)))
unfolding spell spell_step
spell_more k n h = rw (le-ltb n 128 h)

spell_one : (n : ℕ) → length (spell 1 n) ≡ 1
unfolding spell spell_step
spell_one n = go (ltb n 128)
  where
    go : (t : Bool) → length (spell_step t n []) ≡ 1
    go true = refl
    go false = refl

pub length_short : (n : ℕ) → length (short n) ≡ len_len n
unfolding short
length_short n = go (ltb n 128) (ltb n 16384) (ltb n 2097152) refl refl refl
  where
    go : (t u w : Bool) → ltb n 128 ≡ t → ltb n 16384 ≡ u → ltb n 2097152 ≡ w → length (spell 4 n) ≡ cond t 1 (cond u 2 (cond w 3 4))
    go true u w e f h = spell_less 3 n (ltb→lt n 128 (T_of (ltb n 128) e))
    go false true w e f h =
        let l = ltb-false n 128 e in
        let m = ltb→lt n 16384 (T_of (ltb n 16384) f) in
        spell_more 3 n l ∙ ap suc (spell_less 2 (n / 128) (omega arith))
    go false false true e f h =
        let l = ltb-false n 16384 f in
        let m = ltb→lt n 2097152 (T_of (ltb n 2097152) h) in
        spell_more 3 n (omega arith) ∙ ap suc (spell_more 2 (n / 128) (omega arith) ∙ ap suc (spell_less 1 (n / 128 / 128) (omega arith)))
    go false false false e f h =
        let l = ltb-false n 2097152 h in
        spell_more 3 n (omega arith)
        ∙ ap suc (spell_more 2 (n / 128) (omega arith) ∙ ap suc (spell_more 1 (n / 128 / 128) (omega arith) ∙ ap suc (spell_one (n / 128 / 128 / 128))))

pub length_string : (s : List ℕ) → length (string s) ≡ 2 + length s
unfolding string
length_string s = length-append (wide 2 (length s)) s ∙ ap (λ (k : ℕ). k + length s) (length_wide 2 (length s))

length_counted : (b : List ℕ) → length (counted b) ≡ with_length (length b)
unfolding counted
length_counted b = length-append (short (length b)) b ∙ ap (λ (k : ℕ). k + length b) (length_short (length b))

length_numeral : (f : Form) (n : ℕ) → length (numeral f n) ≡ num_size f n
unfolding numeral
length_numeral u8 n = refl
length_numeral u16 n = length_wide 2 n
length_numeral u32 n = length_wide 4 n
length_numeral number n = length_short n
length_numeral text n = refl
length_numeral bytes n = refl
length_numeral pair n = refl

-- ---- runs: strings whose lengths add up

-- the pieces, each with c more bytes
pieces_total : (c : ℕ) (ns run : List ℕ) → sum ns ≡ length run → total (λ s. c + length s) (pieces ns run) ≡ c * length ns + length run
pieces_total c [] run e = omega arith
pieces_total c (n ∷ ns) run e =
    let l : length (take n run) ≡ n = length-take-le n run (omega arith) in
    let ih = pieces_total c ns (drop n run) (rw (length-drop n run) (omega arith)) in
    omega (arith, length-drop n run)

length_pieces : (ns run : List ℕ) → length (pieces ns run) ≡ length ns
length_pieces [] run = refl
length_pieces (n ∷ ns) run = ap suc (length_pieces ns (drop n run))

-- ---- properties

-- a row's values, each with its identifier byte
abbrev pub weigh : Form → List Value → ℕ
weigh f vs = total (λ v. suc (length (value f v))) vs

length_row : (r : ℕ × Form) (vs : List Value) → length (flat entry (tag r vs)) ≡ weigh r.1 vs
length_row r [] = refl
length_row r (v ∷ vs) = let e = length_row r vs in simp length-append (omega arith)

weigh_duos : (f : Form) (ss : List (List ℕ)) → length ss % 2 ≡ 0 → weigh f (duos ss) ≡ total (λ s. 2 + length s) ss + length ss / 2
unfolding value
weigh_duos f [] e = refl
weigh_duos f (k ∷ []) e = absurd (omega arith)
weigh_duos f (k ∷ v ∷ ss) e =
    let ih = weigh_duos f ss (omega arith) in
    rw (length-append (string k) (string v), length_string k, length_string v) (omega arith)

weigh_several : (f : Form) (ns : List ℕ) → weigh f (items (several ns)) ≡ given_size f (several ns)
unfolding value
weigh_several f [] = refl
weigh_several f (n ∷ ns) = rw (length_numeral f n, weigh_several f ns) (omega arith)

pub weigh_given : (f : Form) (g : Given) → Coherent g → weigh f (items g) ≡ given_size f g
unfolding value
weigh_given f (one none) w = refl
weigh_given f (one (some n)) w = rw (length_numeral f n) (omega arith)
weigh_given f (lent l) w = go l.on
  where
    go : (t : Bool) → weigh f (cond t (str l.bytes ∷ []) []) ≡ cond t (3 + length l.bytes) 0
    go true = rw (length_string l.bytes) (omega arith)
    go false = refl
weigh_given f (pairs r) (a, e) =
    let n = length_pieces r.lengths r.bytes in
    let d = weigh_duos f (strings r) (rw n e) in
    let t = pieces_total 2 r.lengths r.bytes a in
    omega arith
weigh_given f (several ns) w = weigh_several f ns

length_rows : {b : Bool} (g : Givens) {rs : Forms} → Each (InBlock b g) rs → length (flat (λ r. row_bytes r (g r.0)) rs) ≡ total (λ r. given_size r.1 (g r.0)) rs
length_rows g nil = refl
length_rows g (◌&◌ {a = r} {l = rs} p ps) =
    let ih = length_rows g ps in
    let e : length (row_bytes r (g r.0)) ≡ given_size r.1 (g r.0) = length_row r (items (g r.0)) ∙ weigh_given r.1 (g r.0) p.0 in
    omega (arith, length-append (row_bytes r (g r.0)) (flat (λ r. row_bytes r (g r.0)) rs))

-- L
pub length_props : (row : Row) (b : Bool) (g : Givens) → Each (InBlock b g) row.forms → length (props_bytes row g) ≡ props_size row g
unfolding props_bytes props_size
length_props row b g rows = length_rows g rows

length_block : (row : Row) (b : Bool) (g : Givens) → Each (InBlock b g) row.forms → length (block row g) ≡ with_length (props_size row g)
unfolding block
length_block row b g rows = length_counted (props_bytes row g) ∙ ap with_length (length_props row b g rows)

-- ---- identifiers and filters

-- 01, grammar: "QoS 0 writes no identifier"
pub no_ident_lem : (i : ℕ) → ident_bytes 0 i ≡ []
no_ident_lem i = refl

-- 01, writing order: "size leaves out a Publish identifier that is 0"
pub zero_left_out : (q : ℕ) → ident_size q 0 ≡ 0
zero_left_out q = go (eqb q 0)
  where
    go : (t : Bool) → ◌≡◌ {A = ℕ} (cond (t || true) 0 2) 0
    go true = refl
    go false = refl

length_ident : (q i : ℕ) → length (ident_bytes q i) ≡ ident_size q i
length_ident q i = go (no_ident q i)
  where
    go : (t : Bool) → length (cond t [] (wide 2 i)) ≡ cond t 0 2
    go true = refl
    go false = length_wide 2 i

length_beside : (ss : List (List ℕ)) (os : List ℕ) → length ss ≡ length os → length (flat filter_bytes (beside ss os)) ≡ total (λ s. 3 + length s) ss
length_beside [] os e = refl
length_beside (s ∷ ss) [] e = absurd (omega arith)
length_beside (s ∷ ss) (o ∷ os) e =
    let ih = length_beside ss os (omega arith) in
    simp (length-append, length_string) (omega arith)

length_filters : (h : SubscribeHanded) → AddsUp h.filters → length h.filters.lengths ≡ length h.options → length (flat filter_bytes (filters h)) ≡ filters_size h.filters.bytes h.options
unfolding filters
length_filters h a e =
    let n = length_pieces h.filters.lengths h.filters.bytes in
    let t = pieces_total 3 h.filters.lengths h.filters.bytes a in
    length_beside (strings h.filters) h.options (n ∙ e) ∙ omega arith

length_strings : (ss : List (List ℕ)) → length (flat string ss) ≡ total (λ s. 2 + length s) ss
length_strings [] = refl
length_strings (s ∷ ss) = let ih = length_strings ss in simp (length-append, length_string) (omega arith)

length_topics : (r : Run) → AddsUp r → length (flat string (strings r)) ≡ topics_size r
length_topics r a = length_strings (strings r) ∙ let t = pieces_total 2 r.lengths r.bytes a in omega arith

-- ---- R and the size

pub length_body : (h : Handed) → Belongs h → length (body_bytes h) ≡ rest_is h
unfolding body_bytes rest_is
length_body (publish h) w =
    let e = length_block publish_row h.block (publish_given h) w in
    simp (length-append, length_string, length_ident) (omega arith)
length_body (ack k h) w =
    let e = length_block ack_row h.block (ack_given h.text h.user) w in
    simp (length-append, length_wide) (go (is_plain h) e)
  where
    go : (t : Bool) → length (block ack_row (ack_given h.text h.user)) ≡ with_length (props_size ack_row (ack_given h.text h.user))
        → 2 + length (cond t [] (h.reason ∷ block ack_row (ack_given h.text h.user))) ≡ cond t 2 (3 + with_length (props_size ack_row (ack_given h.text h.user)))
    go true e = refl
    go false e = omega arith
length_body (subscribe h) (w, (a, n)) =
    let e = length_block subscribe_row h.block (subscribe_given h) w in
    let f = length_filters h a n in
    simp (length-append, length_wide) (omega arith)
length_body (reply k h) w =
    let e = length_block ack_row h.block (ack_given h.text h.user) w in
    simp (length-append, length_wide) (omega arith)
length_body (unsubscribe h) (w, a) =
    let e = length_block unsubscribe_row h.block (unsubscribe_given h.user) w in
    let f = length_topics h.topics a in
    simp (length-append, length_wide) (omega arith)
length_body (ping k) w = refl

-- 01: what is written has as many bytes as the size says
pub length_frame : (h : Handed) → Belongs h → length (frame_bytes h) ≡ size_is h
unfolding frame_bytes size_is
length_frame h w = ap suc (length_counted (body_bytes h) ∙ ap with_length (length_body h w)) ∙ omega arith
