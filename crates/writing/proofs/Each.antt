-- Facts of every element, and of lists one after the other. Assumes nothing.
use mathlib.Core.Path.{◌≡◌, refl}
use mathlib.Core.List.{List, [], ◌∷◌, ◌++◌, map, append_assoc}
use Prim.Native.Nat.{ℕ, zero, suc}
use lib.ListN.{take, drop}
use Rattle.grammar.specs.Octets.{Each, nil, ◌&◌, Octets}
use Rattle.writing.specs.Lists.{flat, pieces}

module _ {A : Type 0} {P : A → Type 0} where
  pub each_head : {a : A} {l : List A} → Each P (a ∷ l) → P a
  each_head (p & q) = p

  pub each_tail : {a : A} {l : List A} → Each P (a ∷ l) → Each P l
  each_tail (p & q) = q

  pub each_append : {s t : List A} → Each P s → Each P t → Each P (s ++ t)
  each_append nil q = q
  each_append (p & ps) q = p & each_append ps q

  pub each_left : (s t : List A) → Each P (s ++ t) → Each P s
  each_left [] t p = nil
  each_left (a ∷ s) t p = each_head p & each_left s t (each_tail p)

  pub each_right : (s t : List A) → Each P (s ++ t) → Each P t
  each_right [] t p = p
  each_right (a ∷ s) t p = each_right s t (each_tail p)

  each_take : (n : ℕ) {l : List A} → Each P l → Each P (take n l)
  each_take zero p = nil
  each_take (suc n) nil = nil
  each_take (suc n) (p & ps) = p & each_take n ps

  each_drop : (n : ℕ) {l : List A} → Each P l → Each P (drop n l)
  each_drop zero p = p
  each_drop (suc n) nil = nil
  each_drop (suc n) (p & ps) = each_drop n ps

  pub each_imp : {Q : A → Type 0} → ((a : A) → P a → Q a) → {l : List A} → Each P l → Each Q l
  each_imp f nil = nil
  each_imp f (◌&◌ {a = a} p ps) = f a p & each_imp f ps

  pub each_both : {Q : A → Type 0} {l : List A} → Each P l → Each Q l → Each (λ a. P a × Q a) l
  each_both nil nil = nil
  each_both (p & ps) (q & qs) = (p, q) & each_both ps qs

  pub map_each : {B : Type 0} (f : B → A) (l : List B) → Each P (map f l) → Each (λ b. P (f b)) l
  map_each f [] p = nil
  map_each f (b ∷ l) p = each_head p & map_each f l (each_tail p)

  pub each_flat : {B : Type 0} (f : B → List A) (l : List B) → Each P (flat f l) → Each (λ b. Each P (f b)) l
  each_flat f [] p = nil
  each_flat f (b ∷ l) p = each_left (f b) (flat f l) p & each_flat f l (each_right (f b) (flat f l) p)

  pub flat_each : {B : Type 0} (f : B → List A) {l : List B} → Each (λ b. Each P (f b)) l → Each P (flat f l)
  flat_each f nil = nil
  flat_each f (p & ps) = each_append p (flat_each f ps)

-- the strings that a run is cut into are bytes if the run is
pub each_piece : (ns : List ℕ) {run : List ℕ} → Octets run → Each Octets (pieces ns run)
each_piece [] p = nil
each_piece (n ∷ ns) p = each_take n p & each_piece ns (each_drop n p)

-- ---- tables

-- a proof for each row, one after the other, of the table l: names the table where the goal has it computed
pub rows_of : {A : Type 0} (P : A → Type 0) (l : List A) → Each P l → Each P l
rows_of P l p = p

-- ---- one after the other

pub flat_append : {A B : Type 0} (f : A → List B) (l m : List A) → flat f (l ++ m) ≡ flat f l ++ flat f m
flat_append f [] m = refl
flat_append f (a ∷ l) m = rw (flat_append f l m, append_assoc (f a) (flat f l) (flat f m))
