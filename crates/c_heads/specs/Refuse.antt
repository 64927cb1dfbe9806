-- When a write or a size that C asks for is refused, said of what is handed over and not of the tests. Assumes nothing.
use Rattle.std.specs.Prelude.{◌≡◌, [], ◌∷◌, ℕ, ◌≤◌, ◌<◌}
use Rattle.std.proofs.Math.Option.{Option}
use Rattle.grammar.specs.Octets.{Each}
use Rattle.reading.specs.Refusal.{Refusal, nr}
use Rattle.writing.specs.Refuse.{Belongs, Refuses, Unsized}
use Rattle.c_heads.specs.By.{By}

-- 01, row 20: nothing "is handed over for an absent value": a number whose flag is 0 is 0
abbrev pub ZeroIfOff : ℕ × ℕ → Type 0
ZeroIfOff f = f.0 ≡ 0 → f.1 ≡ 0

-- 01, row 20, does not apply
abbrev pub BelongsBy : By → Type 0
BelongsBy b = Each ZeroIfOff b.numbers × Belongs b.handed

-- 01, writing order: 20; then row 11 for the QoS, which stands in the first byte; then the packet's own rows in their order
pub data InOrder (b : By) (Own : Refusal → Type 0) : Refusal → Type 0 where
  mismatch : (BelongsBy b → ⊥) → InOrder b Own (nr 20 [])
  quality : BelongsBy b → 2 < b.quality → InOrder b Own (nr 11 (b.quality ∷ []))
  own : {k : Refusal} → BelongsBy b → b.quality ≤ 2 → Own k → InOrder b Own k

-- of a write
abbrev pub RefusesBy : Option ℕ → ℕ → By → Refusal → Type 0
RefusesBy limit room b = InOrder b (Refuses limit room b.handed)

-- of a size: "Asked alone, size refuses only with 20, then 17 for R"
abbrev pub UnsizedBy : By → Refusal → Type 0
UnsizedBy b = InOrder b (Unsized b.handed)
