-- Flags, options and big_endian numbers, put together again: the bits that are taken apart are just the byte's, each in its place. By
-- computation over all 256 bytes. Assumes nothing.
use mathlib.Core.Path.{◌≡◌, refl}
use mathlib.Core.Bool.{Bool, true, false, cond}
use mathlib.Core.List.{List, [], ◌∷◌, map}
use Prim.Native.Nat.{ℕ, ◌+◌, ◌*◌, ◌/◌}
use lib.Dec.{leb}
use Rattle.grammar.specs.Number.{big_from}
use Rattle.grammar.specs.Record.{kind_of, flag_dup, flag_qos, flag_retain, option_qos, option_no_local, option_preserve, option_rule}
use Rattle.grammar.specs.Sentence.{qos_fine, rule_fine}
use Rattle.grammar.proofs.Tables.{count, chosen}

-- every byte
abbrev bytes : List ℕ
bytes = count 256 0

-- each is at most its bound
abbrev within : List (ℕ × ℕ) → Bool
within [] = true
within (z ∷ l) = cond (leb z.0 z.1) (within l) false

-- 01, grammar: "kind in the high four bits, flags in the low"; "dup (8), QoS (6), retain (1)"
flags_again : map (λ x. 16 * kind_of x + (8 * flag_dup x + (2 * flag_qos x + flag_retain x))) bytes ≡ bytes
flags_again = refl

-- each within its bits
flags_within : chosen (λ x. within ((flag_dup x, 1) ∷ (flag_qos x, 3) ∷ (flag_retain x, 1) ∷ [])) bytes ≡ bytes
flags_within = refl

-- 01, grammar: "QoS bits 0-1, no-local 2, preserve-retain 3, forward rule 4-5, 6-7 ignored"
options_again : map (λ o. 64 * (o / 64) + (16 * option_rule o + (8 * option_preserve o + (4 * option_no_local o + option_qos o)))) bytes ≡ bytes
options_again = refl

-- each within its bits
options_within : chosen (λ o. within ((option_rule o, 3) ∷ (option_preserve o, 1) ∷ (option_no_local o, 1) ∷ (option_qos o, 3) ∷ [])) bytes ≡ bytes
options_within = refl

-- 01, grammar: "QoS 3, in flags or options, and forward rule 3 stand in no sentence": of the bytes whose other bits are clear, and of those whose other bits are set
options_fine : map (λ o. cond (qos_fine o) 1 0 + cond (rule_fine o) 2 0) (0x00 ∷ 0x01 ∷ 0x02 ∷ 0x03 ∷ 0x10 ∷ 0x20 ∷ 0x30 ∷ 0x33 ∷ 0xFF ∷ 0xFC ∷ 0xCF ∷ 0xDF ∷ 0xEF ∷ 0xCE ∷ 0xFD ∷ []) ≡ 3 ∷ 3 ∷ 3 ∷ 2 ∷ 3 ∷ 3 ∷ 1 ∷ 0 ∷ 0 ∷ 1 ∷ 2 ∷ 2 ∷ 2 ∷ 3 ∷ 1 ∷ []
options_fine = refl

-- 01, grammar: "Numbers are big_endian"
big_endian_lem : map (big_from 0) ((0x07 ∷ []) ∷ (0x01 ∷ 0x02 ∷ []) ∷ (0xFF ∷ 0xFF ∷ []) ∷ (0x01 ∷ 0x02 ∷ 0x03 ∷ 0x04 ∷ []) ∷ []) ≡ 7 ∷ 258 ∷ 65535 ∷ 16909060 ∷ []
big_endian_lem = refl
