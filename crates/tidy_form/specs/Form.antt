-- The bytes of a Publish from its record and the order of its properties (02, P8). Assumes nothing.
use Rattle.std.specs.Prelude.{◌≡◌, true, List, [], ◌∷◌, ◌++◌, ℕ}
use Rattle.std.proofs.Math.Option.{Option, none, some}
use Rattle.grammar.specs.Tables.{Form, Row, publish_row, form_at}
use Rattle.grammar.specs.Record.{Publish}
use Rattle.grammar.specs.Sentence.{Value, Prop, none_twice, publish_of}
use Rattle.writing.specs.Lists.{flat}
use Rattle.writing.specs.Handed.{publish}
use Rattle.writing.specs.Spell.{string, value, counted}
use Rattle.writing.specs.Write.{first_byte, ident_bytes}
use Rattle.tidy_form.specs.Tidy.{publish_from, no_publish}

-- 01, table of properties: a value in the form of its row, if it has one
abbrev pub value_in : Option Form → Value → List ℕ
value_in none v = []
value_in (some f) v = value f v

-- 01, grammar: "an identifier byte and a value"
abbrev pub property_bytes : Row → Prop → List ℕ
property_bytes row p = p.0 ∷ value_in (form_at row p.0) p.1

-- 01, grammar: "A property block is a variable length number L and L bytes", filled by ps in their order
unfoldable pub block_of : Row → List Prop → List ℕ
block_of row ps = counted (flat (property_bytes row) ps)

-- 01, grammar, Publish: what fills the frame
unfoldable pub body_of : Publish (List ℕ) List → List Prop → List ℕ
body_of m ps = string m.topic ++ (ident_bytes m.qos m.ident ++ (block_of publish_row ps ++ m.payload))

-- 01, grammar, Publish: "flags are dup (8), QoS (6), retain (1)"
unfoldable pub first_of_publish : Publish (List ℕ) List → ℕ
first_of_publish m = first_byte (publish (publish_from m true no_publish))

-- the frame
unfoldable pub form_of : Publish (List ℕ) List → List Prop → List ℕ
form_of m ps = first_of_publish m ∷ counted (body_of m ps)

-- 02, P8: c is the frame of the record m for some order of its properties
pub record Formed (m : Publish (List ℕ) List) (c : List ℕ) : Type 0 where
  pub order : List Prop
  pub single : none_twice publish_row order ≡ true
  pub props : m.props ≡ publish_of order
  pub bytes : c ≡ form_of m order
