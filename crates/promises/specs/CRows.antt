-- Which refusals each writer and each size of C gives, by their numbers, in the order in which they are tested. Assumes nothing.
use Rattle.std.specs.Prelude.{◌≡◌, List, [], ◌∷◌, ℕ}
use Rattle.writing.specs.Handed.{Handed, publish, ack, subscribe, reply, unsubscribe, ping}

-- 01, writing order: "20; then 18, and 9 for text, field by field as written, with 14 then 11 after a filter's text; 17 for R; 16; 12; 17 for identifiers in
-- order; 13; 19"; 02, P1: 15 "where 14 stands"; 02, P9: 23 beside 17 for identifiers; of a Publish 11 for the QoS of its first byte
abbrev pub write_rows : Handed → List ℕ
write_rows (publish h) = 20 ∷ 11 ∷ 18 ∷ 9 ∷ 17 ∷ 16 ∷ 12 ∷ 23 ∷ 19 ∷ []
write_rows (ack k h) = 20 ∷ 15 ∷ 18 ∷ 9 ∷ 17 ∷ 16 ∷ 19 ∷ []
write_rows (subscribe h) = 20 ∷ 18 ∷ 9 ∷ 14 ∷ 11 ∷ 17 ∷ 16 ∷ 23 ∷ 13 ∷ 19 ∷ []
write_rows (reply k h) = 20 ∷ 18 ∷ 9 ∷ 15 ∷ 17 ∷ 16 ∷ 13 ∷ 19 ∷ []
write_rows (unsubscribe h) = 20 ∷ 18 ∷ 9 ∷ 17 ∷ 16 ∷ 13 ∷ 19 ∷ []
write_rows (ping k) = 20 ∷ 17 ∷ 16 ∷ 19 ∷ []

-- 01: "Asked alone, size refuses only with 20, then 17 for R"; of a Publish 11 between them
abbrev pub size_rows : Handed → List ℕ
size_rows (publish h) = 20 ∷ 11 ∷ 17 ∷ []
size_rows (ack k h) = 20 ∷ 17 ∷ []
size_rows (subscribe h) = 20 ∷ 17 ∷ []
size_rows (reply k h) = 20 ∷ 17 ∷ []
size_rows (unsubscribe h) = 20 ∷ 17 ∷ []
size_rows (ping k) = 20 ∷ 17 ∷ []

-- only a Publish has a QoS in its first byte
abbrev pub Quality : Handed → ℕ → Type 0
Quality (publish h) q = Unit {0}
Quality (ack k h) q = q ≡ 0
Quality (subscribe h) q = q ≡ 0
Quality (reply k h) q = q ≡ 0
Quality (unsubscribe h) q = q ≡ 0
Quality (ping k) q = q ≡ 0
