-- The properties of a block in the order of its row, as bytes (02, P14). Assumes nothing.
use Rattle.std.specs.Prelude.{◌≡◌, Bool, ◌||◌, cond, List, [], ◌∷◌, ◌++◌, ℕ, suc, ◌+◌, eqb, leb, length, get_or}
use Rattle.grammar.specs.Tables.{Row, Forms}
use Rattle.grammar.specs.Gram.{Only, Then, Many}
use Rattle.grammar.specs.Number.{Byte}
use Rattle.grammar.specs.Octets.{Each}
use Rattle.grammar.specs.Sentence.{Prop, Property, Text, qos_fine, rule_fine}
use Rattle.writing.specs.Lists.{flat}
use Rattle.writing.specs.Handed.{Handed}
use Rattle.writing.specs.Spell.{string, filter_bytes}
use Rattle.writing.specs.Write.{frame_bytes}
use Rattle.tidy_form.specs.Form.{property_bytes}

-- 01, grammar: ".. are lists kept in order": the properties with identifier i
abbrev pub of_id : ℕ → List Prop → List Prop
of_id i [] = []
of_id i (p ∷ ps) = cond (eqb p.0 i) (p ∷ of_id i ps) (of_id i ps)

-- their bytes
abbrev pub id_bytes : Row → List Prop → ℕ → List ℕ
id_bytes row ps i = flat (property_bytes row) (of_id i ps)

-- 01, grammar: "The writer emits the properties in the order of the table above": by the rows rs of the table
abbrev pub rows_bytes : Row → List Prop → Forms → List ℕ
rows_bytes row ps = flat (λ r. id_bytes row ps r.0)

-- the identifiers of the rows, in the order of the table
abbrev pub ids_of : Forms → List ℕ
ids_of [] = []
ids_of (r ∷ rs) = r.0 ∷ ids_of rs

-- by all rows of the place
abbrev pub ordered_bytes : Row → List Prop → List ℕ
ordered_bytes row ps = rows_bytes row ps row.forms

-- a property, in the bytes that are written for it: after 02's P8 there are no others (`property_exact`)
pub record Exact (row : Row) (p : Prop) (b : List ℕ) : Type 0 where
  pub spelt : Property row p b
  pub bytes : b ≡ property_bytes row p

-- properties in the order of the identifiers: a run of each, which may be empty
pub data Runs : List ℕ → List Prop → Type 0 where
  none_left : Runs [] []
  run : {i : ℕ} {is : List ℕ} (qs : List Prop) {ps : List Prop} → Each (λ p. p.0 ≡ i) qs → Runs is ps → Runs (i ∷ is) (qs ++ ps)

-- 01, grammar, Subscribe: "text, then an options byte"
abbrev pub FilterSpelt : List ℕ × ℕ → List ℕ → Type 0
FilterSpelt = Then Text (λ _. Only qos_fine (Only rule_fine Byte))

-- a filter's text and its options byte, in the bytes that are written for the text; bits 6-7 of the options byte are as they were sent
pub record ExactFilter (z : List ℕ × ℕ) (b : List ℕ) : Type 0 where
  pub spelt : FilterSpelt z b
  pub bytes : b ≡ string z.0 ++ (z.1 ∷ [])

-- 01, grammar: "A successful PubAck with properties absent is 4 bytes": a frame of 4 bytes, or the reason 0
abbrev pub success_in : List ℕ → Bool
success_in c = leb (length c) 4 || eqb (get_or c 4 0) 0

-- 02, P14, and DECISIONS 30: the tidy form of an acknowledgement with no properties, from its first byte and its frame c; else "a reason and a block", which is empty
unfoldable pub short_ack : ℕ → List ℕ → List ℕ
short_ack first c = cond (success_in c) (first ∷ 2 ∷ get_or c 2 0 ∷ get_or c 3 0 ∷ []) (first ∷ 4 ∷ get_or c 2 0 ∷ get_or c 3 0 ∷ get_or c 4 0 ∷ 0 ∷ [])

-- ---- the frame

-- the rest as it stands
abbrev pub AsIs : List ℕ → List ℕ → Type 0
AsIs t o = o ≡ t

-- 01, "What must change shape": "bits 6-7 written as 0": the filters, their options bytes without these bits
pub record Masked (t o : List ℕ) : Type 0 where
  pub list : List (List ℕ × ℕ)
  pub exact : Many ExactFilter list t
  pub bytes : o ≡ flat filter_bytes list

-- 02, P14: the frame c, whose properties stand from `start` to `end`, and its tidy form, in which `first` is the first byte
pub record FrameLaid (row : Row) (T : List ℕ → List ℕ → Type 0) (h : Handed) (first : ℕ) (c : List ℕ) (start end : ℕ) : Type 0 where
  pub byte : ℕ
  pub head : List ℕ
  pub props : List ℕ
  pub tail : List ℕ
  pub other : List ℕ
  pub list : List Prop
  pub whole : c ≡ byte ∷ (head ++ (props ++ tail))
  pub starts : start ≡ suc (length head)
  pub ends : end ≡ suc (length head + length props)
  pub exact : Many (Exact row) list props
  pub light : length (ordered_bytes row list) ≡ length props
  pub kept : T tail other
  pub even : length other ≡ length tail
  pub form : frame_bytes h ≡ first ∷ (head ++ (ordered_bytes row list ++ other))
