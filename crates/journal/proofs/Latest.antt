-- What the latest of a list of blocks is, and when one leads.
-- Assumes nothing.
use mathlib.Core.Path.{◌≡◌, refl, sym, ap, ◌∙◌, subst}
use mathlib.Core.Bool.{Bool, true, false, ◌&&◌, cond}
use mathlib.Core.List.{List, [], ◌∷◌}
use mathlib.Core.Option.{Option, none, some}
use Prim.Native.Nat.{ℕ, zero, suc, ◌<◌, ◌≤◌}
use native.Mathlib.Nat.{not-suc-le-zero}
use native.Mathlib.Omega.{arith}
use borrow.Author.Tests.{le-leb, lt-leb, leb-true, leb-false, eqb-true, eqb-false}
use lib.Dec.{eqb, leb}
use lib.ListN.{length, get_or}
use Rattle.journal.specs.Block.{good, number_of}
use Rattle.journal.specs.Area.{newer, latest}

no_some : {A : Type 0} {x : Option (List ℕ)} {c : List ℕ} → x ≡ none → x ≡ some c → A
no_some e f = let z : ◌≡◌ {A = ℕ} 0 1 = cc in absurd (omega arith)

false_true : {A : Type 0} {b : Bool} → b ≡ false → b ≡ true → A
false_true e f = let z : ◌≡◌ {A = ℕ} 0 1 = cc in absurd (omega arith)

-- ---- no block is good

nothing_step : (l : ℕ) (b : List ℕ) (bs : List (List ℕ)) → (latest l bs ≡ none → (j : ℕ) → j < length bs → good l (get_or bs j []) ≡ false)
    → (m : Option (List ℕ)) → latest l bs ≡ m → (g : Bool) → good l b ≡ g → newer l b m ≡ none
    → (j : ℕ) → j < suc (length bs) → good l (get_or (b ∷ bs) j []) ≡ false
unfolding newer
nothing_step l b bs ih none p true q r j h = no_some (rw q at r) refl
nothing_step l b bs ih none p false q r zero h = q
nothing_step l b bs ih none p false q r (suc j) h = ih p j (omega arith)
nothing_step l b bs ih (some c) p g q r j h = last (good l b && leb (number_of c) (number_of b)) r
  where
    last : (x : Bool) → cond x (some b) (some c) ≡ none → good l (get_or (b ∷ bs) j []) ≡ false
    last true r = no_some r refl
    last false r = no_some r refl

pub nothing : (l : ℕ) (bs : List (List ℕ)) → latest l bs ≡ none → (j : ℕ) → j < length bs → good l (get_or bs j []) ≡ false
unfolding latest
nothing l [] e j h = absurd (not-suc-le-zero h)
nothing l (b ∷ bs) e j h = nothing_step l b bs (nothing l bs) (latest l bs) refl (good l b) refl e j h

pub none_good : (l : ℕ) (bs : List (List ℕ)) → ((j : ℕ) → j < length bs → good l (get_or bs j []) ≡ false) → latest l bs ≡ none
unfolding latest newer
none_good l [] h = refl
none_good l (b ∷ bs) h = rw (none_good l bs (λ j g. h (suc j) (omega arith)), h 0 (omega arith))

-- ---- the latest is one of the blocks, none has a higher number, and it is "the first of equals"

pub record Found (l : ℕ) (bs : List (List ℕ)) (c : List ℕ) : Type 0 where
  pub at : ℕ
  pub inside : at < length bs
  pub is : get_or bs at [] ≡ c
  pub fine : good l c ≡ true
  pub most : (j : ℕ) → j < length bs → good l (get_or bs j []) ≡ true → number_of (get_or bs j []) ≤ number_of c
  pub first : (j : ℕ) → j < at → good l (get_or bs j []) ≡ true → number_of (get_or bs j []) < number_of c

-- the first block is it
first_found : (l : ℕ) (b c : List ℕ) (bs : List (List ℕ)) → b ≡ c → good l b ≡ true
    → ((j : ℕ) → j < length bs → good l (get_or bs j []) ≡ true → number_of (get_or bs j []) ≤ number_of b) → Found l (b ∷ bs) c
first_found l b c bs e g most =
    record { at = 0; inside = omega arith; is = e; fine = sym (ap (good l) e) ∙ g; most = over; first = λ j h q. absurd (not-suc-le-zero h) }
  where
    over : (j : ℕ) → j < suc (length bs) → good l (get_or (b ∷ bs) j []) ≡ true → number_of (get_or (b ∷ bs) j []) ≤ number_of c
    over zero h q = rw e (omega arith)
    over (suc j) h q = subst (λ (x : List ℕ). number_of (get_or bs j []) ≤ number_of x) e (most j (omega arith) q)

later_found : (l : ℕ) (b c : List ℕ) (bs : List (List ℕ)) → Found l bs c → (good l b ≡ true → number_of b < number_of c) → Found l (b ∷ bs) c
later_found l b c bs f h =
    record { at = suc f.at; inside = omega (arith, f.inside); is = f.is; fine = f.fine; most = over; first = before }
  where
    over : (j : ℕ) → j < suc (length bs) → good l (get_or (b ∷ bs) j []) ≡ true → number_of (get_or (b ∷ bs) j []) ≤ number_of c
    over zero g q = let v : number_of b < number_of c = h q in omega (arith, v)
    over (suc j) g q = f.most j (omega arith) q

    before : (j : ℕ) → j < suc f.at → good l (get_or (b ∷ bs) j []) ≡ true → number_of (get_or (b ∷ bs) j []) < number_of c
    before zero g q = h q
    before (suc j) g q = f.first j (omega arith) q

some_is : {b c : List ℕ} → some b ≡ some c → b ≡ c
some_is e = cc

found_step : (l : ℕ) (b c : List ℕ) (bs : List (List ℕ)) → ((d : List ℕ) → latest l bs ≡ some d → Found l bs d)
    → (m : Option (List ℕ)) → latest l bs ≡ m → (g : Bool) → good l b ≡ g → newer l b m ≡ some c → Found l (b ∷ bs) c
unfolding newer
found_step l b c bs ih none p true q r =
    first_found l b c bs (some_is (rw q at r)) q (λ j h f. false_true (nothing l bs p j h) f)
found_step l b c bs ih none p false q r = no_some refl (rw q at r)
found_step l b c bs ih (some d) p true q r = last (leb (number_of d) (number_of b)) refl (rw q at r)
  where
    last : (x : Bool) → leb (number_of d) (number_of b) ≡ x → cond x (some b) (some d) ≡ some c → Found l (b ∷ bs) c
    last true e r =
        first_found l b c bs (some_is r) q
        (λ j h f. let u : number_of (get_or bs j []) ≤ number_of d = (ih d p).most j h f in
        let v : number_of d ≤ number_of b = leb-true (number_of d) (number_of b) e in omega (arith, u, v))
    last false e r =
        subst (λ (x : List ℕ). Found l (b ∷ bs) x) (some_is r)
        (later_found l b d bs (ih d p) (λ f. leb-false (number_of d) (number_of b) e))
found_step l b c bs ih (some d) p false q r =
    subst (λ (x : List ℕ). Found l (b ∷ bs) x) (some_is (rw q at r)) (later_found l b d bs (ih d p) (λ f. false_true q f))

pub found : (l : ℕ) (bs : List (List ℕ)) (c : List ℕ) → latest l bs ≡ some c → Found l bs c
unfolding latest
found l [] c e = no_some refl e
found l (b ∷ bs) c e = found_step l b c bs (λ d p. found l bs d p) (latest l bs) refl (good l b) refl e

-- ---- a good block that has the highest number, and a higher one than any before it, is the latest

lead_first : (l : ℕ) (b : List ℕ) (bs : List (List ℕ)) → good l b ≡ true
    → ((j : ℕ) → j < length bs → good l (get_or bs j []) ≡ true → number_of (get_or bs j []) ≤ number_of b)
    → (m : Option (List ℕ)) → latest l bs ≡ m → newer l b m ≡ some b
unfolding newer
lead_first l b bs g h none p = rw g
lead_first l b bs g h (some c) p = rw (g, le-leb (number_of c) (number_of b) below)
  where
    below : number_of c ≤ number_of b
    below =
        let f : Found l bs c = found l bs c p in
        let q : number_of (get_or bs f.at []) ≤ number_of b = h f.at f.inside (ap (good l) f.is ∙ f.fine) in
        let e : number_of (get_or bs f.at []) ≡ number_of c = ap number_of f.is in
        omega (arith, q, e)

lead_later : (l : ℕ) (b c : List ℕ) → (good l b ≡ true → number_of b < number_of c) → (g : Bool) → good l b ≡ g → newer l b (some c) ≡ some c
unfolding newer
lead_later l b c h true q = rw (q, lt-leb (number_of c) (number_of b) (h q))
lead_later l b c h false q = rw q

pub lead_is : (l : ℕ) (bs : List (List ℕ)) (i : ℕ) → i < length bs → good l (get_or bs i []) ≡ true
    → ((j : ℕ) → j < length bs → good l (get_or bs j []) ≡ true → number_of (get_or bs j []) ≤ number_of (get_or bs i []))
    → ((j : ℕ) → j < i → good l (get_or bs j []) ≡ true → number_of (get_or bs j []) < number_of (get_or bs i []))
    → latest l bs ≡ some (get_or bs i [])
unfolding latest
lead_is l [] i h g m n = absurd (not-suc-le-zero h)
lead_is l (b ∷ bs) zero h g m n = lead_first l b bs g (λ j k q. m (suc j) (omega arith) q) (latest l bs) refl
lead_is l (b ∷ bs) (suc i) h g m n =
    ap (newer l b) (lead_is l bs i (omega arith) g (λ j k q. m (suc j) (omega arith) q) (λ j k q. n (suc j) (omega arith) q))
    ∙ lead_later l b (get_or bs i []) (λ q. n 0 (omega arith) q) (good l b) refl

-- so a good block whose number is above every other's
pub lead : (l : ℕ) (bs : List (List ℕ)) (i : ℕ) → i < length bs → good l (get_or bs i []) ≡ true
    → ((j : ℕ) → j < length bs → (j ≡ i → ⊥) → good l (get_or bs j []) ≡ true → number_of (get_or bs j []) < number_of (get_or bs i []))
    → latest l bs ≡ some (get_or bs i [])
lead l bs i h g m = lead_is l bs i h g (λ j k q. go j k q (eqb j i) refl) (λ j k q. m j (omega arith) (λ e. omega (arith, e)) q)
  where
    go : (j : ℕ) → j < length bs → good l (get_or bs j []) ≡ true → (x : Bool) → eqb j i ≡ x → number_of (get_or bs j []) ≤ number_of (get_or bs i [])
    go j k q true e = let f : j ≡ i = eqb-true j i e in rw f (omega arith)
    go j k q false e = let f : number_of (get_or bs j []) < number_of (get_or bs i []) = m j k (eqb-false j i e) q in omega (arith, f)
