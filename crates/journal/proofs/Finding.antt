-- The walk over the blocks from the last to the first, and what the three calls leave.
-- Assumes nothing.
use mathlib.Core.Path.{◌≡◌, refl, sym, ap, ap₂, ◌∙◌}
use mathlib.Core.Bool.{Bool, true, false, ◌&&◌, cond}
use mathlib.Core.List.{List, [], ◌∷◌, ◌++◌, append_assoc, append-nil}
use mathlib.Core.Option.{Option, none, some}
use Prim.Native.Nat.{ℕ, zero, suc, ◌+◌, ◌*◌, ◌-◌, ◌/◌, ◌%◌, ◌^◌, ◌<◌, ◌≤◌}
use native.Mathlib.Omega.{arith}
use native.Mathlib.Nat.{mod-lt}
use borrow.Author.Tests.{ne_eqb, le-leb, lt-leb, le-ltb, lt-ltb, eqb-true, leb-true}
use lib.Dec.{eqb, leb}
use lib.ListN.{length, get_or, take, drop, replicate}
use lib.Seq.{sets, sets-eq, drop-drop}
use Rattle.inflight.specs.Rules.{limit}
use Rattle.std.specs.Prelude as prelude
use Rattle.std.specs.Prelude.{Result, Ok, Err}
use Rattle.std.specs.Result.{IsErrAnd}
use Rattle.std.specs.Option.{ok_or}
use Rattle.std.proofs.lemmas.Result.{err_from_is_err_and}
use Rattle.std.specs.Simd.{first_chunks}
use Rattle.std.proofs.Common.{Bor}
use Rattle.journal.specs.declared.SaveError.{SaveError}
use Rattle.journal.specs.declared.FindError.{FindError}
use Rattle.journal.specs.declared.Stored.{Stored}
use Rattle.journal.specs.Block.{good, number_of, table_in, block_of}
use Rattle.journal.specs.Area.{whole, blocks, count_of, newer, latest, latest_in, highest, stored, journal_empty, journal_ended, bad_area, recovered, started, saved, recover, recovered_from, save, save_after, start, left, look, look_at}
use Rattle.journal.specs.JournalAnswer.{save_of, told_block, block_says}
use Rattle.journal.proofs.Good.{length_block}
use Rattle.journal.proofs.Places.{length_blocks, block_of_blocks}

-- ---- one block more

highest_some : (o : Option (List ℕ)) (b : List ℕ) → o ≡ some b → highest o ≡ number_of b
unfolding highest
highest_some o b q = ap highest q

highest_none : highest none ≡ 0
unfolding highest
highest_none = refl

pub newer_bad : (b : List ℕ) (m : Option (List ℕ)) → good limit b ≡ false → m ≡ newer limit b m
unfolding newer
newer_bad b none g = rw g
newer_bad b (some c) g = rw g

pub newer_taken : (b : List ℕ) (m : Option (List ℕ)) → highest m ≤ number_of b → good limit b ≡ true → some b ≡ newer limit b m
unfolding newer highest
newer_taken b none h g = rw g
newer_taken b (some c) h g = rw (g, le-leb (number_of c) (number_of b) h)

pub newer_less : (b : List ℕ) (m : Option (List ℕ)) → number_of b < highest m → m ≡ newer limit b m
unfolding newer highest
newer_less b none h = absurd (omega (arith, h))
newer_less b (some c) h = rw (lt-leb (number_of c) (number_of b) h) (go (good limit b))
  where
    go : (x : Bool) → some c ≡ cond (x && false) (some b) (some c)
    go true = refl
    go false = refl

-- ---- the blocks

pub blocks_are : (k : ℕ) (a : List ℕ) → first_chunks 512 k a ≡ blocks k a
unfolding blocks
blocks_are zero a = refl
blocks_are (suc k) a = ap (λ (bs : List (List ℕ)). take 512 a ∷ bs) (blocks_are k (drop 512 a))

-- one block more, where the blocks are counted
one_more_lem : (a : List ℕ) (count i : ℕ) → 0 < i → i ≤ count
    → newer limit (take 512 (drop ((i - 1) * 512) a)) (latest limit (blocks (count - i) (drop (i * 512) a))) ≡ latest limit (blocks (count - (i - 1)) (drop ((i - 1) * 512) a))
unfolding blocks latest
one_more_lem a count i h g =
    (let e : i * 512 ≡ (i - 1) * 512 + 512 = omega arith in
    ap (λ (n : ℕ). newer limit (take 512 (drop ((i - 1) * 512) a)) (latest limit (blocks (count - i) (drop n a)))) e)
    ∙ ap (λ (s : List ℕ). newer limit (take 512 (drop ((i - 1) * 512) a)) (latest limit (blocks (count - i) s))) (sym (drop-drop 512 ((i - 1) * 512) a))
    ∙ (let e : suc (count - i) ≡ count - (i - 1) = omega arith in ap (λ (n : ℕ). latest limit (blocks n (drop ((i - 1) * 512) a))) e)

-- ---- the walk from the last block to the first

-- the blocks that are left, and the latest of those behind them
pub record Walked (bs : List (List ℕ)) (best : Option (List ℕ)) (rest : List (List ℕ)) : Type 0 where
  pub behind : List (List ℕ)
  pub split : rest ++ behind ≡ bs
  pub finds : best ≡ latest limit behind

pub walk_none : (bs : List (List ℕ)) {rest : List (List ℕ)} → rest ≡ bs → Walked bs none rest
unfolding latest
walk_none bs e = record { behind = []; split = append-nil _ ∙ e; finds = refl }

pub walk_more : {bs rest less : List (List ℕ)} {m n : Option (List ℕ)} (b : List ℕ) → Walked bs m rest → rest ≡ less ++ (b ∷ []) → n ≡ newer limit b m → Walked bs n less
unfolding latest
walk_more {bs} {rest} {less} b w e f = record {
  behind = b ∷ w.behind;
  split = sym (append_assoc less (b ∷ []) w.behind) ∙ ap (λ (s : List (List ℕ)). s ++ w.behind) (sym e) ∙ w.split;
  finds = f ∙ ap (newer limit b) w.finds;
}

pub walk_all : {bs rest : List (List ℕ)} {m : Option (List ℕ)} → Walked bs m rest → length rest ≡ 0 → m ≡ latest limit bs
walk_all {bs} {rest} w h = w.finds ∙ ap (latest limit) (nothing rest w.split h)
  where
    nothing : (rest : List (List ℕ)) → rest ++ w.behind ≡ bs → length rest ≡ 0 → w.behind ≡ bs
    nothing [] e g = e
    nothing (b ∷ s) e g = absurd (omega (arith, g))

-- ---- the three calls

-- the number of the latest block, or 0
pub latest_number : (a : List ℕ) {bs : List (List ℕ)} {o : Option (List ℕ)} {n : ℕ} → bs ≡ blocks (count_of a) a → o ≡ latest limit bs → n ≡ highest o → n ≡ highest (latest_in limit a)
unfolding latest_in
latest_number a e f g = g ∙ ap highest (f ∙ ap (latest limit) e)

pub length_of_blocks : (a : List ℕ) {bs : List (List ℕ)} → bs ≡ blocks (count_of a) a → length bs ≡ length a / 512
length_of_blocks a e = ap (λ (bs : List (List ℕ)). length bs) e ∙ length_blocks (count_of a) a

pub start_bad : (a : List ℕ) → whole a ≡ false → left a bad_area ≡ start a
unfolding start
start_bad a e = rw e

pub start_done : (a : List ℕ) {b : List ℕ} → whole a ≡ true → b ≡ replicate (length a) 0 → left b started ≡ start a
unfolding start
start_done a e f = rw (e, f)

pub save_bad : (a t : List ℕ) → whole a ≡ false → left a bad_area ≡ save limit t a
unfolding save
save_bad a t e = rw e

pub save_ended : (a t : List ℕ) (h : ℕ) → whole a ≡ true → h ≡ highest (latest_in limit a) → h ≡ 2 ^ 64 - 1 → left a journal_ended ≡ save limit t a
unfolding save save_after
save_ended a t h e f g = rw (e, ← f, g)

-- a whole area has room for each of its blocks
pub whole_count : (a : List ℕ) → whole a ≡ true → (length a ≡ length a / 512 * 512) × (2 ≤ length a / 512)
unfolding whole
whole_count a e = go (eqb (length a % 512) 0) refl (leb 2 (length a / 512)) refl e
  where
    go : (x : Bool) → eqb (length a % 512) 0 ≡ x → (y : Bool) → leb 2 (length a / 512) ≡ y → x && y ≡ true → (length a ≡ length a / 512 * 512) × (2 ≤ length a / 512)
    go true p true q r =
        let u : length a % 512 ≡ 0 = eqb-true (length a % 512) 0 p in
        (omega (arith, u), leb-true 2 (length a / 512) q)
    go true p false q r = let z : ◌≡◌ {A = ℕ} 0 1 = cc in absurd (omega (arith, z))
    go false p y q r = let z : ◌≡◌ {A = ℕ} 0 1 = cc in absurd (omega (arith, z))

pub save_stored : (a t : List ℕ) (h i : ℕ) {b : List ℕ} → whole a ≡ true → h ≡ highest (latest_in limit a) → (h ≡ 2 ^ 64 - 1 → ⊥) → i ≡ h % (length a / 512)
    → b ≡ sets a (i * 512) (block_of (h + 1) t) → left b (saved (h + 1) i) ≡ save limit t a
unfolding save save_after stored
save_stored a t h i {b} e f g p q =
    rw (e, ← f, ne_eqb h (2 ^ 64 - 1) g)
    (ap₂ (λ (x : List ℕ) (y : ℕ). left x (saved (h + 1) y)) (q ∙ (let u : i * 512 ≡ 512 * i = omega arith in ap (λ (n : ℕ). sets a n (block_of (h + 1) t)) u) ∙ ap (λ (n : ℕ). sets a (512 * n) (block_of (h + 1) t)) place) place)
  where
    place : i ≡ (h + 1 - 1) % (length a / 512)
    place = p ∙ (let u : h ≡ h + 1 - 1 = omega arith in ap (λ (n : ℕ). n % (length a / 512)) u)

-- a part that is put back
pub put_back : (a b : List ℕ) (i : ℕ) → length b ≡ 512 → i * 512 + 512 ≤ length a
    → take (i * 512) a ++ (b ++ drop (i * 512 + 512 - i * 512) (drop (i * 512) a)) ≡ sets a (i * 512) b
put_back a b i e h =
    ap (λ (s : List ℕ). take (i * 512) a ++ (b ++ s))
    (drop-drop (i * 512 + 512 - i * 512) (i * 512) a
    ∙ (let u : i * 512 + (i * 512 + 512 - i * 512) ≡ i * 512 + length b = omega (arith, e) in ap (λ (n : ℕ). drop n a) u))
    ∙ sym (append_assoc (take (i * 512) a) b (drop (i * 512 + length b) a))
    ∙ sym (sets-eq b a (i * 512) (omega (arith, e)))

pub block_fits : (a : List ℕ) (h : ℕ) {k : ℕ} → whole a ≡ true → k ≡ length a / 512 → h % k * 512 + 512 ≤ length a
block_fits a h {k} e q =
    let w : (length a ≡ length a / 512 * 512) × (2 ≤ length a / 512) = whole_count a e in
    let m : h % k < k = mod-lt h (omega (arith, q, w.1)) in
    omega (arith, w.0, m, q)

recover_whole : (a : List ℕ) → whole a ≡ true → recover limit a ≡ recovered_from limit (latest_in limit a)
unfolding recover
recover_whole a e = rw e

-- a bad area, by any call that looks for a block
pub bad_says : (r : Result (Bor (List ℕ)) FindError) → IsErrAnd r (λ e. e ≡ FindError.BadArea) → block_says r ≡ bad_area
bad_says r p = let q = err_from_is_err_and r p in rw (q.1, q.2)

pub bad_save : (r : Result Stored SaveError) → IsErrAnd r (λ e. e ≡ SaveError.BadArea) → save_of r ≡ bad_area
bad_save r p = let q = err_from_is_err_and r p in rw (q.1, q.2)

pub recover_bad : (a : List ℕ) → whole a ≡ false → bad_area ≡ recover limit a
unfolding recover
recover_bad a e = rw e

pub recover_latest : (a : List ℕ) {bs : List (List ℕ)} (o : prelude.Option (Bor (List ℕ))) → whole a ≡ true → bs ≡ blocks (count_of a) a → told_block o ≡ latest limit bs
    → block_says (ok_or o FindError.JournalEmpty) ≡ recover limit a
unfolding latest_in recovered_from
recover_latest a {bs} o e f g = told o ∙ ap (recovered_from limit) (g ∙ ap (latest limit) f) ∙ sym (recover_whole a e)
  where
    told : (o : prelude.Option (Bor (List ℕ))) → block_says (ok_or o FindError.JournalEmpty) ≡ recovered_from limit (told_block o)
    told (prelude.Some b) = refl
    told prelude.None = refl

-- one block alone
pub look_bad : (a : List ℕ) (i : ℕ) → whole a ≡ false → bad_area ≡ look limit a i
unfolding look
look_bad a i e = rw e

pub look_past : (a : List ℕ) (i : ℕ) {bs : List (List ℕ)} → whole a ≡ true → bs ≡ blocks (count_of a) a → length bs ≤ i → journal_empty ≡ look limit a i
unfolding look
look_past a i e q h = let l : length a / 512 ≤ i = omega (arith, length_of_blocks a q, h) in rw (e, le-ltb i (count_of a) l)

look_in : (a : List ℕ) (i : ℕ) {bs : List (List ℕ)} → whole a ≡ true → bs ≡ blocks (count_of a) a → i < length bs → look limit a i ≡ look_at limit (get_or bs i [])
unfolding look
look_in a i {bs} e q h =
    let l : i < length a / 512 = omega (arith, length_of_blocks a q, h) in
    rw (e, lt-ltb i (count_of a) l) (ap (look_at limit) (sym (ap (λ (cs : List (List ℕ)). get_or cs i []) q ∙ block_of_blocks (count_of a) a i l)))

not_good_lem : (b : List ℕ) → good limit b ≡ false → look_at limit b ≡ journal_empty
unfolding look_at
not_good_lem b g = rw g

pub look_not : (a : List ℕ) (i : ℕ) {bs : List (List ℕ)} → whole a ≡ true → bs ≡ blocks (count_of a) a → i < length bs → good limit (get_or bs i []) ≡ false → journal_empty ≡ look limit a i
look_not a i {bs} e q h g = sym (look_in a i e q h ∙ not_good_lem (get_or bs i []) g)

pub look_good : (a : List ℕ) (i : ℕ) {bs : List (List ℕ)} → whole a ≡ true → bs ≡ blocks (count_of a) a → i < length bs → good limit (get_or bs i []) ≡ true
    → recovered (number_of (get_or bs i [])) (table_in limit (get_or bs i [])) ≡ look limit a i
unfolding look_at
look_good a i {bs} e q h g = sym (look_in a i e q h ∙ rw g)

-- the block is stored through a part of the area
pub save_put : (a t : List ℕ) (h : ℕ) {k : ℕ} {b c : List ℕ} → whole a ≡ true → k ≡ length a / 512 → h ≡ highest (latest_in limit a) → (h ≡ 2 ^ 64 - 1 → ⊥) → c ≡ b → b ≡ block_of (h + 1) t
    → left (take (h % k * 512) a ++ (c ++ drop (h % k * 512 + 512 - h % k * 512) (drop (h % k * 512) a))) (saved (h + 1) (h % k)) ≡ save limit t a
save_put a t h {k} {b} {c} e l f g p q =
    save_stored a t h (h % k) e f g (ap (λ (n : ℕ). h % n) l)
    (put_back a c (h % k) (ap length (p ∙ q) ∙ length_block (h + 1) t) (block_fits a h e l) ∙ ap (sets a (h % k * 512)) (p ∙ q))
