-- UTF-8: how a byte finds its row of the Unicode table, and how a text goes on after bytes that fit a row. Assumes nothing.
use Rattle.std.proofs.Common.{◌≡◌, ℕ, zero, suc, ◌+◌, ◌-◌, ◌%◌, ◌<◌, ◌≤◌, Bool, true, false, cond, ◌&&◌, ltb, leb, List, [], ◌∷◌, ◌++◌, length, get_or, take, drop, replicate, sym, refl, ap, ◌∙◌, true≢false, add-zero, add-one, arith, length-drop, take-append-drop, drop_of_length-le, take_all, drop-cons, drop-drop, take-add, le-leb, leb-false, leb-true}
use mathlib.Core.Bool.{false≢true, and_assoc, and-true, and-false}
use mathlib.Core.Option.{Option, none, some}
use native.Mathlib.Nat.{sub-zero}
use lib.Bits.{bit_or, or_lt, or_add_and, and_le_l, and_le_r}
use lib.ListN.{length-replicate}
use borrow.Author.Tests.{lt-leb}
use Rattle.grammar.specs.Gram.{forget}
use Rattle.grammar.specs.Text.{Range, in_range, TextRow, rows, row_at, cons}
use Rattle.reading.specs.Refusal.{nr}
use Rattle.reading.specs.Reader.{Fit, got, bad, ◌>>=◌, none_of, never_of, map_of, only_of, then_of, then_fit, many_fit, is_got}
use Rattle.reading.specs.Read.{byte_of, follow_of, rest_of, char_of, is_text}
use Rattle.reading.proofs.Reading.{less, solid_map, solid_then}
use Rattle.reading.proofs.Fields.{byte_solid, reads_char}
use Rattle.positions.proofs.Walk.{Less, chain_nil, chain_bad, chain_next}
use Rattle.text_chars.specs.Text.{plain, flaw_of, due_of, text_after, Followed, Passed, all_ascii}

-- ---- tests of a byte

-- a number is below another, or it is not
pub either : {A : Type 0} (n b : ℕ) → (b < n → A) → (n ≤ b → A) → A
either {A} n b f g = go (leb n b) refl
  where
    go : (t : Bool) → leb n b ≡ t → A
    go true e = g (leb-true n b e)
    go false e = f (leb-false n b e)

pub in_range_lem : (lo hi b : ℕ) → lo ≤ b → b ≤ hi → in_range (lo, hi) b ≡ true
in_range_lem lo hi b l h = rw (le-leb lo b l, le-leb b hi h)

pub below_range : (lo hi b : ℕ) → b < lo → in_range (lo, hi) b ≡ false
below_range lo hi b h = rw (lt-leb lo b h)

pub over_range : (lo hi b : ℕ) → hi < b → in_range (lo, hi) b ≡ false
over_range lo hi b h = rw (lt-leb b hi h) (go (leb lo b))
  where
    go : (t : Bool) → cond t false false ≡ false
    go true = refl
    go false = refl

-- ---- a row of the table

-- b is above the first bytes of n rows
abbrev pub Above : ℕ → List TextRow → ℕ → Type 0
Above zero rs b = Unit {0}
Above (suc n) [] b = Unit {0}
Above (suc n) (r ∷ rs) b = (r.0.1 < b) × Above n rs b

-- b is below the first bytes of all rows
abbrev pub Below : List TextRow → ℕ → Type 0
Below [] b = Unit {0}
Below (r ∷ rs) b = (b < r.0.0) × Below rs b

-- b is a first byte of the first row
abbrev pub Here : List TextRow → ℕ → Type 0
Here [] b = ⊥
Here (r ∷ rs) b = (r.0.0 ≤ b) × (b ≤ r.0.1)

-- what is to follow in the first row
abbrev pub row_rest : List TextRow → Option (List Range)
row_rest [] = none
row_rest (r ∷ rs) = some r.1

not_in : (r : Range) (b : ℕ) → r.1 < b → in_range r b ≡ false
not_in r b h = rw (lt-leb b r.1 h) (go (leb r.0 b))
  where
    go : (t : Bool) → cond t false false ≡ false
    go true = refl
    go false = refl

above : (n : ℕ) (rs : List TextRow) (b : ℕ) → Above n rs b → row_at rs b ≡ row_at (drop n rs) b
above zero rs b h = refl
above (suc n) [] b h = refl
above (suc n) (r ∷ rs) b h = rw (not_in r.0 b h.0) (above n rs b h.1)

below : (rs : List TextRow) (b : ℕ) → Below rs b → row_at rs b ≡ none
below [] b h = refl
below (r ∷ rs) b h = rw (lt-leb r.0.0 b h.0) (below rs b h.1)

here : (rs : List TextRow) (b : ℕ) → Here rs b → row_at rs b ≡ row_rest rs
here [] b h = absurd h
here (r ∷ rs) b h = rw (le-leb r.0.0 b h.0, le-leb b r.0.1 h.1)

module _ (n b : ℕ) (a : Above n rows b) where
  pub row_at_lem : Here (drop n rows) b → row_at rows b ≡ row_rest (drop n rows)
  row_at_lem h = above n rows b a ∙ here (drop n rows) b h

  pub no_row : Below (drop n rows) b → row_at rows b ≡ none
  no_row h = above n rows b a ∙ below (drop n rows) b h

-- ---- how a text goes on

char_less : (bound : ℕ) → Less bound char_of
char_less bound s z h e = less reads_char (solid_map cons (solid_then byte_solid)) s z e

-- how a text goes on after a first byte
abbrev pub rest_text : Option (List Range) → List ℕ → Bool
rest_text none s = false
rest_text (some rs) s = text_after rs s

then_got : {A B : Type 0} (f : A → B) (m : Fit A) → is_got (m >>= λ a. got (f a)) ≡ is_got m
then_got f (got a) = refl
then_got f (bad k) = refl

module _ (x : ℕ) (s : List ℕ) where
  char_at : (m : Fit (List ℕ × List ℕ)) → rest_of (row_at rows x) s ≡ m → char_of (x ∷ s) ≡ (m >>= λ z. got (x ∷ z.0, z.1))
  unfolding char_of map_of then_of byte_of
  char_at (got z) e = rw e
  char_at (bad k) e = rw e

  text_row : (rs : List Range) (m : Fit (List ℕ × List ℕ)) → rest_of (row_at rows x) s ≡ m → follow_of rs s ≡ m → is_text (x ∷ s) ≡ text_after rs s
  unfolding is_text text_after then_fit
  text_row rs (got z) e f =
      rw (chain_next forget (λ _. char_of) (length (x ∷ s)) (λ _. char_less (length (x ∷ s))) tt x s (x ∷ z.0, z.1) (omega arith) (char_at (got z) e), f)
      (then_got _ (many_fit char_of z.1) ∙ sym (then_got _ (many_fit char_of z.1)))
  text_row rs (bad k) e f = rw (chain_bad forget (λ _. char_of) (length (x ∷ s)) (λ _. char_less (length (x ∷ s))) tt x s k (char_at (bad k) e), f)

  -- a first byte, by its row
  pub text_first : (o : Option (List Range)) → row_at rows x ≡ o → is_text (x ∷ s) ≡ rest_text o s
  unfolding rest_of never_of is_text
  text_first (some rs) e = text_row rs (follow_of rs s) (rw e) refl
  text_first none e = rw (chain_bad forget (λ _. char_of) (length (x ∷ s)) (λ _. char_less (length (x ∷ s))) tt x s (nr 9 []) (char_at (bad (nr 9 [])) (rw e)))

pub text_end : is_text [] ≡ true
unfolding is_text
text_end = rw (chain_nil forget (λ _. char_of) 0 (λ _. char_less 0) tt)

-- nothing is due
pub after_none : (s : List ℕ) → text_after [] s ≡ is_text s
unfolding text_after is_text then_fit follow_of none_of
after_none s = then_got _ (many_fit char_of s)

module _ (r : Range) (rs : List Range) where
  pub after_end : text_after (r ∷ rs) [] ≡ false
  unfolding text_after then_fit follow_of map_of then_of only_of byte_of
  after_end = refl

  module _ (b : ℕ) (s : List ℕ) where
    pub after_out : in_range r b ≡ false → text_after (r ∷ rs) (b ∷ s) ≡ false
    unfolding text_after then_fit follow_of map_of then_of only_of byte_of
    after_out e = rw e

    after_go : in_range r b ≡ true → (m : Fit (List ℕ × List ℕ)) → follow_of rs s ≡ m → text_after (r ∷ rs) (b ∷ s) ≡ text_after rs s
    unfolding text_after then_fit follow_of map_of then_of only_of byte_of
    after_go e (got z) f = rw (e, f) (then_got _ (many_fit char_of z.1) ∙ sym (then_got _ (many_fit char_of z.1)))
    after_go e (bad k) f = rw (e, f)

    pub after_in : in_range r b ≡ true → text_after (r ∷ rs) (b ∷ s) ≡ text_after rs s
    after_in e = after_go e (follow_of rs s) refl

-- too few bytes for what is due
after_short : (rs : List Range) (s : List ℕ) → length s < length rs → text_after rs s ≡ false
after_short [] s h = absurd (omega arith)
after_short (r ∷ rs) [] h = after_end r rs
after_short (r ∷ rs) (b ∷ s) h = go (in_range r b) refl (after_short rs s (omega arith))
  where
    go : (t : Bool) → in_range r b ≡ t → text_after rs s ≡ false → text_after (r ∷ rs) (b ∷ s) ≡ false
    go true e i = after_in r rs b s e ∙ i
    go false e i = after_out r rs b s e

-- ---- the bytes after the first

same_due : (n : ℕ) → replicate n (0x80, 0xBF) ≡ due_of n 0x80 0xBF
same_due zero = refl
same_due (suc n) = refl

due_length : (n low high : ℕ) → length (due_of n low high) ≡ n
due_length zero low high = refl
due_length (suc n) low high = ap suc (length-replicate n (0x80, 0xBF))

due_more : (n low high : ℕ) → 0 < n → due_of n low high ≡ (low, high) ∷ due_of (n - 1) 0x80 0xBF
due_more zero low high h = absurd (omega arith)
due_more (suc n) low high h =
    let e : n ≡ suc n - 1 = omega arith in
    ap (λ (l : List Range). (low, high) ∷ l) (same_due n ∙ ap (λ (k : ℕ). due_of k 0x80 0xBF) e)

pub follow_short : (s : List ℕ) (at n low high : ℕ) → at ≤ length s → length s - at < n → Followed s at n low high false
follow_short s at n low high h o = record {
  within = λ e. absurd (false≢true e);
  yes = λ e. absurd (false≢true e);
  no = λ e. after_short (due_of n low high) (drop at s) (rw (length-drop at s, due_length n low high) o);
}

-- i of the n bytes due from index `at` were passed, and the next is to be from lo to hi
pub record Following (s : List ℕ) (at n low high lo hi i : ℕ) : Type 0 where
  pub room : at + n ≤ length s
  pub within : i ≤ n
  pub rest : text_after (due_of n low high) (drop at s) ≡ text_after (due_of (n - i) lo hi) (drop (at + i) s)

pub follow_start : (s : List ℕ) (at n low high : ℕ) → at ≤ length s → n ≤ length s - at → Following s at n low high low high 0
follow_start s at n low high h o = record { room = omega arith; within = omega arith; rest = rw (add-zero at, sub-zero n) }

module _ {s : List ℕ} {at n low high lo hi i : ℕ} (f : Following s at n low high lo hi i) where
  module _ (h : i < n) where
    next_due : text_after (due_of n low high) (drop at s) ≡ text_after ((lo, hi) ∷ due_of (n - (i + 1)) 0x80 0xBF) (get_or s (at + i) 0 ∷ drop (at + (i + 1)) s)
    next_due =
        let e : n - i - 1 ≡ n - (i + 1) = omega arith in
        let j : suc (at + i) ≡ at + (i + 1) = omega arith in
        f.rest ∙ rw (due_more (n - i) lo hi (omega arith), e, drop-cons s (at + i) 0 (omega (arith, f.room)), j)

    pub follow_out : in_range (lo, hi) (get_or s (at + i) 0) ≡ false → Followed s at n low high false
    follow_out e = record {
      within = λ e. absurd (false≢true e);
      yes = λ e. absurd (false≢true e);
      no = λ _. next_due ∙ after_out (lo, hi) (due_of (n - (i + 1)) 0x80 0xBF) (get_or s (at + i) 0) (drop (at + (i + 1)) s) e;
    }

    pub follow_in : in_range (lo, hi) (get_or s (at + i) 0) ≡ true → Following s at n low high 0x80 0xBF (i + 1)
    follow_in e = record {
      room = f.room;
      within = omega arith;
      rest = next_due ∙ after_in (lo, hi) (due_of (n - (i + 1)) 0x80 0xBF) (get_or s (at + i) 0) (drop (at + (i + 1)) s) e;
    }

  pub follow_end : n ≤ i → Followed s at n low high true
  follow_end h =
      let e : n - i ≡ 0 = omega (arith, f.within) in
      let j : i ≡ n = omega (arith, f.within) in
      record {
        within = λ _. f.room;
        yes = λ _. f.rest ∙ rw (e, j) (after_none (drop (at + n) s));
        no = λ e. absurd (true≢false e);
      }

-- the last of them
pub follow_last : {s : List ℕ} {at n low high lo hi i : ℕ} → Following s at n low high lo hi i → (r : Bool) → i + 1 ≡ n → r ≡ in_range (lo, hi) (get_or s (at + i) 0) → Followed s at n low high r
follow_last f true h e = follow_end (follow_in f (omega arith) (sym e)) (omega arith)
follow_last f false h e = follow_out f (omega arith) (sym e)

-- the first of them
module _ (s : List ℕ) (at n low high : ℕ) (h : at ≤ length s) (l : n ≤ length s - at) (p : 0 < n) where
  pub follow_low : get_or s at 0 < low → Followed s at n low high false
  follow_low b = follow_out (follow_start s at n low high h l) p (rw (add-zero at, lt-leb low (get_or s at 0) b))

  pub follow_high : high < get_or s at 0 → Followed s at n low high false
  follow_high b = follow_out (follow_start s at n low high h l) p (rw (add-zero at) (not_in (low, high) (get_or s at 0) b))

  pub follow_first : low ≤ get_or s at 0 → get_or s at 0 ≤ high → Following s at n low high 0x80 0xBF 1
  follow_first b c = follow_in (follow_start s at n low high h l) p (rw (add-zero at, le-leb low (get_or s at 0) b, le-leb (get_or s at 0) high c))

-- the only one
pub follow_only : (s : List ℕ) (at low high : ℕ) → at ≤ length s → 1 ≤ length s - at → (r : Bool) → r ≡ in_range (low, high) (get_or s at 0) → Followed s at 1 low high r
follow_only s at low high h l r e = follow_last (follow_start s at 1 low high h l) r refl (rw (add-zero at) e)

-- ---- what is passed at once

module _ (s : List ℕ) (at : ℕ) where
  -- nothing was passed
  pub stuck : at ≤ length s → is_text (drop at s) ≡ false → Passed s at at
  stuck h e = record { ahead = omega arith; within = h; yes = λ l. absurd (omega arith); no = λ _. e }

  -- something was
  pub went : (r : ℕ) → at < r → r ≤ length s → is_text (drop at s) ≡ is_text (drop r s) → Passed s at r
  went r h h' e = record { ahead = omega arith; within = h'; yes = λ _. e; no = λ i. absurd (omega arith) }

  module _ (h : at < length s) where
    first_at : (o : Option (List Range)) → row_at rows (get_or s at 0) ≡ o → is_text (drop at s) ≡ rest_text o (drop (at + 1) s)
    first_at o e = rw (drop-cons s at 0 h, add-one at) (text_first (get_or s at 0) (drop (suc at) s) o e)

    pub no_char : row_at rows (get_or s at 0) ≡ none → Passed s at at
    no_char e = stuck (omega arith) (first_at none e)

    module _ {n low high : ℕ} {r : Bool} (f : Followed s (at + 1) n low high r) (e : row_at rows (get_or s at 0) ≡ some (due_of n low high)) where
      pub char_whole : r ≡ true → Passed s at (at + 1 + n)
      char_whole t = went (at + 1 + n) (omega arith) (f.within t) (first_at (some (due_of n low high)) e ∙ f.yes t)

      pub char_broken : r ≡ false → Passed s at at
      char_broken t = stuck (omega arith) (first_at (some (due_of n low high)) e ∙ f.no t)

    -- an ASCII byte
    pub ascii : 0 < get_or s at 0 → get_or s at 0 < 128 → is_text (drop at s) ≡ is_text (drop (at + 1) s)
    unfolding rows
    ascii z l = first_at (some []) (row_at_lem 0 (get_or s at 0) tt (omega arith)) ∙ after_none (drop (at + 1) s)

-- nothing is left at the end
pub text_over : (s : List ℕ) (i : ℕ) → length s ≤ i → is_text (drop i s) ≡ true
text_over s i h = rw (drop_of_length-le s h) text_end

-- ---- bytes that are all ASCII

pub and_both : (a b : Bool) → (a && b) ≡ true → (a ≡ true) × (b ≡ true)
and_both true b e = (refl, e)
and_both false b e = absurd (false≢true e)

pub ascii_append : (xs ys : List ℕ) → all_ascii (xs ++ ys) ≡ (all_ascii xs && all_ascii ys)
ascii_append [] ys = refl
ascii_append (x ∷ xs) ys = rw (ascii_append xs ys) (sym (and_assoc (plain x) (all_ascii xs) (all_ascii ys)))

-- the first n, and the others
pub ascii_split : (n : ℕ) (s : List ℕ) → all_ascii s ≡ (all_ascii (take n s) && all_ascii (drop n s))
ascii_split n s = ap all_ascii (sym (take-append-drop n s)) ∙ ascii_append (take n s) (drop n s)

pub or_low : (a b : ℕ) → ltb (bit_or a b) 128 ≡ (ltb a 128 && ltb b 128)
or_low a b = go (ltb a 128) refl (ltb b 128) refl
  where
    go : (p : Bool) → ltb a 128 ≡ p → (q : Bool) → ltb b 128 ≡ q → ltb (bit_or a b) 128 ≡ (ltb a 128 && ltb b 128)
    go true e true f = rw (e, f) (le-leb (suc (bit_or a b)) 128 (or_lt 7 a b (leb-true (suc a) 128 e) (leb-true (suc b) 128 f)))
    go true e false f = rw (e, f) (lt-leb (suc (bit_or a b)) 128 (omega (arith, leb-false (suc b) 128 f, or_add_and a b, and_le_l a b)))
    go false e q f = rw e (lt-leb (suc (bit_or a b)) 128 (omega (arith, leb-false (suc a) 128 e, or_add_and a b, and_le_r a b)))

pub ascii_push : (s : List ℕ) (b : ℕ) → all_ascii (s ++ b ∷ []) ≡ (all_ascii s && plain b)
ascii_push s b = rw (ascii_append s (b ∷ []), and-true (plain b))

module _ (s : List ℕ) (at i : ℕ) (h : at ≤ i) (l : i < length s) where
  -- one byte more
  pub ascii_more : all_ascii (take (i + 1 - at) (drop at s)) ≡ (all_ascii (take (i - at) (drop at s)) && plain (get_or s i 0))
  ascii_more =
      let e : i + 1 - at ≡ i - at + 1 = omega arith in
      let f : at + (i - at) ≡ i = omega arith in
      rw (e, take-add (i - at) 1 (drop at s), ascii_append (take (i - at) (drop at s)) (take 1 (drop (i - at) (drop at s))), drop-drop (i - at) at s, f, drop-cons s i 0 l, and-true (plain (get_or s i 0)))

-- an ASCII byte that is not 0, wherever it stands
pub plain_at : (s : List ℕ) (i : ℕ) → i < length s → plain (get_or s i 0) ≡ true → is_text (drop i s) ≡ is_text (drop (i + 1) s)
plain_at s i h e =
    let (z, b) = and_both (ltb 0 (get_or s i 0)) (ltb (get_or s i 0) 128) e in
    ascii s i h (leb-true 1 (get_or s i 0) z) (leb-true (suc (get_or s i 0)) 128 b)

plain_first : (x : ℕ) (s : List ℕ) → plain x ≡ true → is_text (x ∷ s) ≡ is_text s
plain_first x s e = plain_at (x ∷ s) 0 (omega arith) e

-- text, whatever part of it
pub ascii_text : (s : List ℕ) → all_ascii s ≡ true → is_text s ≡ true
ascii_text [] e = text_end
ascii_text (x ∷ s) e =
    let (b, t) = and_both (plain x) (all_ascii s) e in
    plain_first x s b ∙ ascii_text s t

-- so many of them, and the text goes on behind them
pub plain_front : (n : ℕ) (s : List ℕ) → n ≤ length s → all_ascii (take n s) ≡ true → is_text s ≡ is_text (drop n s)
plain_front zero s h e = refl
plain_front (suc n) [] h e = refl
plain_front (suc n) (x ∷ s) h e =
    let (b, t) = and_both (plain x) (all_ascii (take n s)) e in
    plain_first x s b ∙ plain_front n s (omega arith) t

-- those from the i-th on decide: n of them at once
module _ (s : List ℕ) (i n : ℕ) (d : all_ascii s ≡ all_ascii (drop i s)) where
  chunk_split : all_ascii s ≡ (all_ascii (take n (drop i s)) && all_ascii (drop (i + n) s))
  chunk_split = d ∙ ascii_split n (drop i s) ∙ rw (drop-drop n i s)

  pub chunk_broken : all_ascii (take n (drop i s)) ≡ false → false ≡ all_ascii s
  chunk_broken e = sym (chunk_split ∙ rw e)

  pub chunk_passed : all_ascii (take n (drop i s)) ≡ true → all_ascii s ≡ all_ascii (drop (i + n) s)
  chunk_passed e = chunk_split ∙ rw e

-- the last n, where some of them may be among the first i
module _ (s : List ℕ) (i j n : ℕ) (h : j ≤ i) (l : length s ≤ j + n) where
  last_all : all_ascii (take n (drop j s)) ≡ all_ascii (drop j s)
  last_all = ap all_ascii (take_all n (drop j s) (omega (arith, length-drop j s)))

  last_rest : all_ascii (take n (drop j s)) ≡ true → all_ascii (drop i s) ≡ true
  last_rest e =
      let k : j + (i - j) ≡ i = omega arith in
      rw (drop-drop (i - j) j s, k) at (and_both (all_ascii (take (i - j) (drop j s))) (all_ascii (drop (i - j) (drop j s))) (sym (ascii_split (i - j) (drop j s)) ∙ sym last_all ∙ e)).1

  -- what stands from the i-th on is text
  pub last_text : all_ascii (take n (drop j s)) ≡ true → is_text (drop i s) ≡ true
  last_text e = ascii_text (drop i s) (last_rest e)

  -- where those from the i-th on decide, the last n do
  pub last_decide : all_ascii s ≡ all_ascii (drop i s) → all_ascii (take n (drop j s)) ≡ all_ascii s
  last_decide d = go (all_ascii (take n (drop j s))) refl
    where
      go : (t : Bool) → all_ascii (take n (drop j s)) ≡ t → t ≡ all_ascii s
      go true e = sym (d ∙ last_rest e)
      go false e = sym (ascii_split j s ∙ rw (sym last_all ∙ e) (and-false (all_ascii (take j s))))

-- what a loop over the bytes from `at` on has found when it comes to the end
pub ascii_all : (s : List ℕ) (at end all : ℕ) {i : ℕ} → ltb all 128 ≡ all_ascii (take (i - at) (drop at s)) → i ≡ end → at ≤ end → end ≤ length s
    → (ltb all 128 ≡ true → is_text (drop at s) ≡ is_text (drop end s)) × (ltb all 128 ≡ all_ascii (take (end - at) (drop at s)))
ascii_all s at end all e j h o =
    let f : ltb all 128 ≡ all_ascii (take (end - at) (drop at s)) = rw j at e in
    let n : at + (end - at) ≡ end = omega arith in
    (λ t. rw (drop-drop (end - at) at s, n) at (plain_front (end - at) (drop at s) (rw length-drop (omega arith)) (sym f ∙ t)), f)

-- x is b - 1, wrapped
pub flaw_none : (b x : ℕ) → (x + 1) % 256 ≡ b → x < 127 → 0 ≡ flaw_of b
flaw_none b x e h = let i : b ≡ x + 1 = omega arith in rw (le-leb 1 b (omega arith), le-leb (suc b) 128 (omega arith))

pub flaw_some : (b x : ℕ) → (x + 1) % 256 ≡ b → x < 256 → 127 ≤ x → 128 ≡ flaw_of b
flaw_some b x e l h = go (ltb b 128) refl
  where
    go : (t : Bool) → ltb b 128 ≡ t → ◌≡◌ {A = ℕ} 128 (cond (ltb 0 b && t) 0 128)
    go true m = let i : b ≡ 0 = omega (arith, leb-true (suc b) 128 m) in rw i
    go false m = rw (and-false (ltb 0 b))

pub flaw_low : (b x : ℕ) → x ≡ flaw_of b → ltb x 128 ≡ plain b
flaw_low b x e = rw e (go (plain b))
  where
    go : (t : Bool) → ltb (cond {A = ℕ} t 0 128) 128 ≡ t
    go true = refl
    go false = refl
