-- What the crates above use of ASCII bytes. Assumes nothing.
use mathlib.Core.Path.{◌≡◌, ap, ◌∙◌}
use mathlib.Core.Bool.{Bool, true, ◌&&◌}
use mathlib.Core.List.{List}
use Prim.Native.Nat.{ℕ, ◌+◌, ◌-◌, ◌≤◌}
use native.Mathlib.Omega.{arith}
use lib.ListN.{length, take, drop, length-drop}
use lib.Seq.{take-add, drop-drop}
use Rattle.reading.specs.Read.{is_text}
use Rattle.utf8.specs.Text.{all_ascii}
use Rattle.text_chars.proofs.Laws as chars

pub and_both : (a b : Bool) → (a && b) ≡ true → (a ≡ true) × (b ≡ true)
and_both = chars.and_both

-- the first n, and the others
pub ascii_split : (n : ℕ) (s : List ℕ) → all_ascii s ≡ (all_ascii (take n s) && all_ascii (drop n s))
ascii_split = chars.ascii_split

-- text, whatever part of it
pub ascii_text : (s : List ℕ) → all_ascii s ≡ true → is_text s ≡ true
ascii_text = chars.ascii_text

-- n of them from the i-th on, and the text goes on behind them
pub plain_on : (s : List ℕ) (i n : ℕ) → i + n ≤ length s → all_ascii (take n (drop i s)) ≡ true → is_text (drop i s) ≡ is_text (drop (i + n) s)
plain_on s i n h e = rw (drop-drop n i s) at (chars.plain_front n (drop i s) (simp length-drop (omega arith)) e)

-- what is left, behind n bytes more
pub left_on : (s rest : List ℕ) (n : ℕ) → length rest ≤ length s → n ≤ length rest → rest ≡ drop (length s - length rest) s → drop n rest ≡ drop (length s - length (drop n rest)) s
left_on s rest n w h e =
    let k : length s - length (drop n rest) ≡ (length s - length rest) + n = simp length-drop (omega arith) in
    rw k (ap (drop n) e ∙ drop-drop n (length s - length rest) s)

-- two chunks of sixteen, one behind the other
pub ascii_pair : (s : List ℕ) (j : ℕ) → all_ascii (take 16 (drop j s)) ≡ true → all_ascii (take 16 (drop (j + 16) s)) ≡ true → all_ascii (take 32 (drop j s)) ≡ true
ascii_pair s j e f = rw (take-add 16 16 (drop j s), chars.ascii_append (take 16 (drop j s)) (take 16 (drop 16 (drop j s))), drop-drop 16 j s, e) f
