-- How tests go in a list: those that hold are passed, the first that fails says the refusal. Assumes nothing.
use mathlib.Core.Path.{◌≡◌, refl}
use mathlib.Core.Bool.{Bool, true, false}
use mathlib.Core.Option.{Option, none, some}
use mathlib.Core.List.{List, [], ◌∷◌, ◌++◌}
use Prim.Native.Nat.{ℕ, ◌<◌}
use lib.ListN.{length}
use borrow.Author.Tests.{le-leb, lt-leb}
use Rattle.grammar.specs.Text.{Utf8}
use Rattle.grammar.specs.Octets.{Each, nil, ◌&◌}
use Rattle.reading.specs.Refusal.{Refusal, nr}
use Rattle.reading.specs.Reader.{got, bad, ◌>>◌, guard}
use Rattle.reading.specs.Read.{is_text}
use Rattle.reading.proofs.Fields.{text_fine}
use Rattle.writing.specs.Lists.{flat}
use Rattle.writing.specs.Size.{most}
use Rattle.writing.specs.Order.{Test, judge, Field, raw, word, filter, code, field_tests, number_tests, limit_tests}
use Rattle.writing.specs.Refuse.{Writable, Faulty, long_raw, long_word, long_filter, bad_word, bad_filter, bad_rule, bad_qos, unlisted, FirstFault, Fine, Unfit, large, nought, FirstUnfit, Within}
use Rattle.writing.proofs.Tests.{fails_when}
use Rattle.writing.specs.Refuse as r

-- tests, and then others
pub judge_append : (ts us : List Test) → judge (ts ++ us) ≡ (judge ts >> judge us)
unfolding judge
judge_append [] us = refl
judge_append (t ∷ ts) us = go t.0 (judge_append ts us)
  where
    go : (b : Bool) → judge (ts ++ us) ≡ (judge ts >> judge us) → (guard b t.1 >> judge (ts ++ us)) ≡ ((guard b t.1 >> judge ts) >> judge us)
    go true e = e
    go false e = refl

-- ---- fields

text_no : (s : List ℕ) → (Utf8 s → ⊥) → is_text s ≡ false
text_no s = fails_when (is_text s) (text_fine s)

pub field_fault : {f : Field} {k : Refusal} → Faulty f k → judge (field_tests f) ≡ bad k
unfolding judge
field_fault (long_raw {s} h) = rw (lt-leb (length s) 65535 h)
field_fault (long_word {s} h) = rw (lt-leb (length s) 65535 h)
field_fault (long_filter {s} h) = rw (lt-leb (length s) 65535 h)
field_fault (bad_word {s} h n) = rw (le-leb (length s) 65535 h, text_no s n)
field_fault (bad_filter {s} h n) = rw (le-leb (length s) 65535 h, text_no s n)
field_fault (bad_rule {s} h u p) = rw (le-leb (length s) 65535 h, (text_fine s).1 u, p)
field_fault (bad_qos {s} h u p q) = rw (le-leb (length s) 65535 h, (text_fine s).1 u, p, q)
field_fault (unlisted p) = rw p

pub field_pass : (f : Field) → Writable f → judge (field_tests f) ≡ got tt
unfolding judge
field_pass (raw s) h = rw (le-leb (length s) 65535 h)
field_pass (word s) (h, u) = rw (le-leb (length s) 65535 h, (text_fine s).1 u)
field_pass (filter s o) (h, u, p, q) = rw (le-leb (length s) 65535 h, (text_fine s).1 u, p, q)
field_pass (code rs c) p = rw p

-- the first field, and then the others
pub fields_more : (f : Field) (fs : List Field) → judge (flat field_tests (f ∷ fs)) ≡ (judge (field_tests f) >> judge (flat field_tests fs))
fields_more f fs = judge_append (field_tests f) (flat field_tests fs)

pub fields_pass : {fs : List Field} → Each Writable fs → judge (flat field_tests fs) ≡ got tt
unfolding judge
fields_pass nil = refl
fields_pass (◌&◌ {a = f} {l = fs} p ps) = rw (fields_more f fs, field_pass f p) (fields_pass ps)

pub fields_fault : {k : Refusal} {fs : List Field} → FirstFault k fs → judge (flat field_tests fs) ≡ bad k
fields_fault (r.FirstFault.here {f = f} {fs = fs} p) = rw (fields_more f fs, field_fault p)
fields_fault (r.FirstFault.later {f = f} {fs = fs} p ps) = rw (fields_more f fs, field_pass f p) (fields_fault ps)

-- ---- numbers and the limit

pub numbers_pass : {ns : List ℕ} → Each Fine ns → judge (flat number_tests ns) ≡ got tt
unfolding judge
numbers_pass nil = refl
numbers_pass (◌&◌ {a = n} (p, q) ps) = rw (le-leb n most p, q) (numbers_pass ps)

pub number_unfit : {n : ℕ} {k : Refusal} → Unfit n k → judge (number_tests n) ≡ bad k
unfolding judge
number_unfit (large {n = n} p) = rw (lt-leb n most p)
number_unfit nought = refl

pub numbers_fault : {k : Refusal} {ns : List ℕ} → FirstUnfit k ns → judge (flat number_tests ns) ≡ bad k
unfolding judge
numbers_fault (r.FirstUnfit.here {n = n} {ns = ns} p) = rw (judge_append (number_tests n) (flat number_tests ns), number_unfit p)
numbers_fault (r.FirstUnfit.later {n = n} (p, q) ps) = rw (le-leb n most p, q) (numbers_fault ps)

pub limit_pass : (limit : Option ℕ) (n : ℕ) → Within limit n → judge (limit_tests limit n) ≡ got tt
unfolding judge
limit_pass none n h = refl
limit_pass (some m) n h = rw (le-leb n m h)

pub limit_fault : (m n : ℕ) → m < n → judge (limit_tests (some m) n) ≡ bad (nr 16 (n ∷ m ∷ []))
unfolding judge
limit_fault m n h = rw (lt-leb n m h)
