-- A name is put as the part that its length says. Assumes nothing.
use mathlib.Core.Path.{◌≡◌, sym, ap, ◌∙◌}
use mathlib.Core.List.{List, ◌++◌}
use Prim.Native.Nat.{ℕ, ◌-◌}
use native.Mathlib.Omega.{arith}
use lib.ListN.{length, replicate, length-append}
use lib.Seq.{sets, take-append_seam}
use Rattle.reading.specs.Place.{held_of}
use Rattle.refusal_names.specs.Names.{padded}
use Rattle.refusal_names.specs.declared.text.Name.{Name}
use Rattle.wire.proofs.Laws.{held_within}

-- the front of a list, as it is looked up by its place
front_held : (b r : List ℕ) → held_of (b ++ r) (record { start = 0; len = length b }) ≡ b
front_held b r = sym (held_within (b ++ r) (record { start = 0; len = length b }) (omega (arith, length-append b r))) ∙ take-append_seam b r

-- the name m of b
pub name_put : (out b : List ℕ) {m : Name} {part after : List ℕ} → m ≡ padded b → part ≡ held_of m.bytes (record { start = 0; len = m.len }) → after ≡ sets out 0 part → (m.len ≡ length b) × (after ≡ sets out 0 b)
name_put out b e p q = (
  ap (λ (a : Name). a.len) e,
  q ∙ ap (λ (l : List ℕ). sets out 0 l) (p ∙ ap (λ (a : Name). held_of a.bytes (record { start = 0; len = a.len })) e ∙ front_held b (replicate (24 - length b) 0)),
)
