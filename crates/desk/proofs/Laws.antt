-- How what is held moves to the front, byte by byte, and is still held there. Assumes nothing.
use Rattle.std.proofs.Common.{◌≡◌, ℕ, suc, ◌+◌, ◌-◌, ◌<◌, ◌≤◌, List, length, get_or, take, drop, set, sym, refl, ap, ◌∙◌, add-one, arith, length-append, length-drop, length-take-le, get_or-drop, take_at, drop_at}
use lib.Seq.{sets, length-sets, paste, paste-suc}
use Rattle.reading.specs.Place.{Span}
use Rattle.wire.proofs.Laws.{held_within}
use Rattle.desk.specs.Held.{fronted, Kept}
use Rattle.desk.specs.Put.{StandsBefore}

module _ (s : List ℕ) (start : ℕ) where
  pub front_none : s ≡ fronted s start 0
  unfolding fronted
  front_none = refl

  front_paste : (n : ℕ) → paste s 0 (drop start s) n ≡ fronted s start n
  unfolding fronted
  front_paste n = let e : 0 + n ≡ n = omega arith in rw e

  module _ (i : ℕ) (h : start + i < length s) where
    left : i < length (drop start s)
    left = rw length-drop (omega arith)

    -- what is not yet written over is as it was
    behind : drop i (fronted s start i) ≡ drop i s
    unfolding fronted
    behind = drop_at (take i (drop start s)) (drop i s) i (length-take-le i (drop start s) (omega (arith, left)))

    moved : get_or (fronted s start i) (start + i) 0 ≡ get_or (drop start s) i 0
    moved =
        let e : start + i ≡ i + start = omega arith in
        ap (λ (k : ℕ). get_or (fronted s start i) k 0) e
        ∙ sym (get_or-drop i (fronted s start i) start 0)
        ∙ ap (λ (l : List ℕ). get_or l start 0) behind
        ∙ get_or-drop i s start 0
        ∙ ap (λ (k : ℕ). get_or s k 0) (sym e)
        ∙ sym (get_or-drop start s i 0)

    pub front_next : set (fronted s start i) i (get_or (fronted s start i) (start + i) 0) ≡ fronted s start (i + 1)
    front_next =
        let z : 0 + i ≡ i = omega arith in
        let v : ℕ = get_or (drop start s) i 0 in
        ap (λ (b : ℕ). set (fronted s start i) i b) moved
        ∙ ap (λ (l : List ℕ). set l i v) (sym (front_paste i))
        ∙ ap (λ (k : ℕ). set (paste s 0 (drop start s) i) k v) (sym z)
        ∙ paste-suc s 0 (drop start s) i 0 (omega arith) left
        ∙ front_paste (suc i)
        ∙ ap (fronted s start) (sym (add-one i))

-- ---- what is held

-- nothing is held
pub kept_none : (s : List ℕ) (p : Span) → p.len ≡ 0 → Kept s p s (record { start = 0; len = p.len })
kept_none s p e h =
    let x : take p.len s ≡ take p.len (drop p.start s) = rw e in
    sym (held_within s (record { start = 0; len = p.len }) (omega (arith, e))) ∙ x ∙ held_within s p h

pub kept_moved : (s o : List ℕ) (p : Span) → (p.start + p.len ≤ length s → o ≡ fronted s p.start p.len) → Kept s p o (record { start = 0; len = p.len })
unfolding fronted
kept_moved s o p f h =
    let part : List ℕ = take p.len (drop p.start s) in
    let n : length part ≡ p.len = length-take-le p.len (drop p.start s) (rw length-drop (omega arith)) in
    let g : p.len ≤ length o = rw (f h, length-append) (omega (arith, n)) in
    sym (held_within o (record { start = 0; len = p.len }) (omega (arith, g))) ∙ ap (take p.len) (f h) ∙ take_at part (drop p.len s) p.len n ∙ held_within s p h

-- ---- what was put
pub put_whole : (l w : List ℕ) (from : ℕ) {o : List ℕ} {next : ℕ} → o ≡ sets l from w → (next ≤ length o → next ≡ from + length w) → StandsBefore l w o next
put_whole l w from {o} {next} e f h =
    let n : next ≡ from + length w = f (rw (e, length-sets l from w) h) in
    let m : from ≡ next - length w = omega arith in
    (omega arith, e ∙ ap (λ (k : ℕ). sets l k w) m)

-- the same of a number of bytes that is told
pub put_counted : (l w : List ℕ) (from k : ℕ) {o : List ℕ} {next : ℕ} → o ≡ sets l from w → k ≡ length w → (next ≤ length o → next ≡ from + k) → StandsBefore l w o next
put_counted l w from k e c f = put_whole l w from e (λ h. f h ∙ ap (λ (m : ℕ). from + m) c)
