-- "The area was started and only saves wrote to it; a cut during a save leaves the block being stored as it was, as it should be, or
-- not good." `l` is the limit that saves go by; what a cut leaves is not good under `r`, which is `l` until P12 raises it.
use Rattle.std.specs.Prelude.{◌≡◌, false, List, [], ◌∷◌, ◌++◌, ℕ, ◌+◌, ◌*◌, ◌^◌, ◌<◌, length, get_or, replicate}
use Rattle.inflight.specs.Rules.{free, Call, call, one_if_granted, one_if_freed, waiting}
use Rattle.journal.specs.Block.{good, block_of}
use Rattle.journal.specs.Area.{latest_in, highest, stored, Says, journal_empty, refused, recovered, save, recover}

-- a table under the limit: a state for each identifier
pub record Table (l : ℕ) (t : List ℕ) : Type 0 where
  pub long : length t ≡ l
  pub states : (i : ℕ) → get_or t i 0 < 4

-- what a save stores next
abbrev pub next : ℕ → List ℕ → ℕ
next l a = highest (latest_in l a) + 1

-- the area a while t is being stored, when the power is cut
pub data Cut (l r k : ℕ) (a t : List ℕ) : List ℕ → Type 0 where
  as_it_was : Cut l r k a t a
  as_it_should_be : Cut l r k a t (stored a (next l a) (block_of (next l a) t))
  not_good : (b : List ℕ) → length b ≡ 512 → good r b ≡ false → Cut l r k a t (stored a (next l a) b)

-- any number of saves, each done or cut, after a start; k is the count of blocks
pub data Lived (l r k : ℕ) : List ℕ → Type 0 where
  started : Lived l r k (replicate (k * 512) 0)
  saved : {a : List ℕ} (t : List ℕ) → Lived l r k a → Table l t → next l a < 2 ^ 64 → Lived l r k (stored a (next l a) (block_of (next l a) t))
  cut : {a b : List ℕ} (t : List ℕ) → Lived l r k a → Table l t → next l a < 2 ^ 64 → Cut l r k a t b → Lived l r k b

-- what recovery may say after a history: of a save that was cut, the table before it or after it
pub data Allows (l r k : ℕ) : List ℕ → List Says → Type 0 where
  started : Allows l r k (replicate (k * 512) 0) (journal_empty ∷ [])
  saved : {a : List ℕ} {s : List Says} (t : List ℕ) → Allows l r k a s → Table l t → next l a < 2 ^ 64
      → Allows l r k (stored a (next l a) (block_of (next l a) t)) (recovered (next l a) t ∷ [])
  cut : {a b : List ℕ} {s : List Says} (t : List ℕ) → Allows l r k a s → Table l t → next l a < 2 ^ 64 → Cut l r k a t b
      → Allows l r k b (recovered (next l a) t ∷ s)

pub data In (x : Says) : List Says → Type 0 where
  here : {s : List Says} → In x (x ∷ s)
  later : {y : Says} {s : List Says} → In x s → In x (y ∷ s)

-- P12: the same table, with d free places more
abbrev pub widened : ℕ → Says → Says
widened d Says.started = Says.started
widened d (Says.saved n i) = Says.saved n i
widened d (refused k) = refused k
widened d (recovered n t) = recovered n (t ++ replicate d 0)

-- the area a when the power goes: during a save of t, or between calls. "A save after the largest 64-bit number .. stores nothing", so
-- no save is under way then
pub data Stop (l r k : ℕ) (a t : List ℕ) : List ℕ → Type 0 where
  between : Stop l r k a t a
  during : {b : List ℕ} → next l a < 2 ^ 64 → Cut l r k a t b → Stop l r k a t b

-- a client's life with a journal: calls, saves, and stops each followed by a recovery; where that says JournalEmpty, a fresh table. "The
-- history that P4 counts starts afresh at a recovery, with the recovered table's waiting number added": the area, the table, what was
-- there at the start, claims granted, answers that freed one. A life begins with a start, or with an area that has lived (P12: perhaps
-- under another limit) and its recovery
pub data Life (l r k : ℕ) : List ℕ → List ℕ → ℕ → ℕ → ℕ → Type 0 where
  begun : Life l r k (replicate (k * 512) 0) (replicate l free) 0 0 0
  taken : {a u : List ℕ} {n : ℕ} → Lived l r k a → recover l a ≡ recovered n u → Life l r k a u (waiting u) 0 0
  called : {a t : List ℕ} {s g f : ℕ} (c : Call) → Life l r k a t s g f
      → Life l r k a (call c t).table s (g + one_if_granted (call c t).says) (f + one_if_freed (call c t).says)
  kept : {a t : List ℕ} {s g f : ℕ} → Life l r k a t s g f → Life l r k (save l t a).area t s g f
  back : {a b t u : List ℕ} {s g f n : ℕ} → Life l r k a t s g f → Stop l r k a t b → recover l b ≡ recovered n u → Life l r k b u (waiting u) 0 0
  anew : {a b t : List ℕ} {s g f : ℕ} → Life l r k a t s g f → Stop l r k a t b → recover l b ≡ journal_empty → Life l r k b (replicate l free) 0 0 0
