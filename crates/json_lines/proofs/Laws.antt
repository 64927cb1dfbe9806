-- What is put one behind the other is the line: the members of an object, with their commas. Assumes nothing.
use mathlib.Core.Path.{◌≡◌, refl, sym, ap, subst, ◌∙◌}
use mathlib.Core.List.{List, [], ◌∷◌, ◌++◌, append_assoc}
use Prim.Native.Nat.{ℕ}
use Rattle.records.specs.AsNumbers.{told_error, row_of, values_of}
use Rattle.records.specs.declared.error.Error.{Error}
use Rattle.records.specs.Ascii.{codes_of}
use Rattle.refusal_names.specs.Names.{name_of}
use Rattle.desk_render.specs.Shown.{decimal_of}
use Rattle.json_text.specs.Text.{escaped_of, each}
use Rattle.json_text.specs.Put.{PutIn}
use Rattle.json_text.specs.Value.{joined, array, member}
use Rattle.json_lines.specs.Line.{number_is, word_is, head_of, head_text, numbers, refusal_text, line_of, refused_line, skipped_line}

-- the same bytes in another spelling
pub put_as : {l xs ys o : List ℕ} {at r : ℕ} → PutIn l at xs o r → xs ≡ ys → PutIn l at ys o r
put_as {l} {xs} {ys} {o} {at} {r} p e = subst (λ (zs : List ℕ). PutIn l at zs o r) e p

pub head_text_lem : (index offset : ℕ) (kind : List ℕ) (taken : ℕ)
    → ((((codes_of "{\"index\":" ++ decimal_of index) ++ (codes_of ",\"offset\":" ++ decimal_of offset)) ++ codes_of ",\"kind\":\"") ++ kind) ++ (codes_of "\",\"taken\":" ++ decimal_of taken) ≡ head_text index offset kind taken
unfolding head_text each escaped_of
head_text_lem index offset kind taken = simp append_assoc

seven : (a b c d f g h : List ℕ) → (((((a ++ b) ++ c) ++ d) ++ f) ++ g) ++ h ≡ a ++ (b ++ (c ++ (d ++ (f ++ (g ++ h)))))
seven a b c d f g h = simp append_assoc

-- number n, name w and values v of a refusal: what ends each of the last two, and the line, moves out
refusal_shape : (n w v : List ℕ)
    → codes_of ",\"number\":" ++ (n ++ (codes_of ",\"name\":\"" ++ (w ++ (codes_of "\",\"values\":[" ++ (v ++ codes_of "]}\n")))))
    ≡ 44 ∷ (joined (member (codes_of "number") n ∷ member (codes_of "name") (34 ∷ (w ++ (34 ∷ []))) ∷ member (codes_of "values") (91 ∷ (v ++ (93 ∷ []))) ∷ []) ++ (125 ∷ 10 ∷ []))
unfolding each escaped_of
refusal_shape n w v =
    let tail : List ℕ = 125 ∷ 10 ∷ [] in
    let named : List ℕ = w ++ (34 ∷ []) in
    let valued : List ℕ = v ++ (93 ∷ []) in
    let mid : List ℕ = codes_of ",\"values\":[" in
    ap (λ (r : List ℕ). codes_of ",\"number\":" ++ (n ++ (codes_of ",\"name\":\"" ++ (w ++ (codes_of "\",\"values\":[" ++ r))))) (sym (append_assoc v (93 ∷ []) tail))
    ∙ ap (λ (r : List ℕ). codes_of ",\"number\":" ++ (n ++ (codes_of ",\"name\":\"" ++ r))) (sym (append_assoc w (34 ∷ []) (mid ++ (valued ++ tail))) ∙ sym (append_assoc named (mid ++ valued) tail))
    ∙ ap (λ (r : List ℕ). codes_of ",\"number\":" ++ r) (sym (append_assoc n (codes_of ",\"name\":\"" ++ (named ++ (mid ++ valued))) tail))

pub refusal_text_lem : (e : Error)
    → (((((codes_of ",\"number\":" ++ decimal_of (row_of (told_error e))) ++ codes_of ",\"name\":\"") ++ name_of e) ++ codes_of "\",\"values\":[") ++ joined (numbers (values_of (told_error e)))) ++ codes_of "]}\n" ≡ refusal_text e
unfolding refusal_text
refusal_text_lem e =
    seven (codes_of ",\"number\":") (decimal_of (row_of (told_error e))) (codes_of ",\"name\":\"") (name_of e) (codes_of "\",\"values\":[") (joined (numbers (values_of (told_error e)))) (codes_of "]}\n")
    ∙ refusal_shape (decimal_of (row_of (told_error e))) (name_of e) (joined (numbers (values_of (told_error e))))

-- members behind others
joined_behind : (v : List ℕ) (vs : List (List ℕ)) (m : List ℕ) (ms : List (List ℕ)) → joined ((v ∷ vs) ++ (m ∷ ms)) ≡ joined (v ∷ vs) ++ (44 ∷ joined (m ∷ ms))
joined_behind v [] m ms = refl
joined_behind v (w ∷ vs) m ms = ap (λ (r : List ℕ). v ++ (44 ∷ r)) (joined_behind w vs m ms) ∙ sym (append_assoc v (44 ∷ joined (w ∷ vs)) (44 ∷ joined (m ∷ ms)))

-- members behind those that every object begins with, and the end of the line
line_behind : (index offset : ℕ) (kind : List ℕ) (taken : ℕ) (m : List ℕ) (ms : List (List ℕ))
    → head_text index offset kind taken ++ (44 ∷ (joined (m ∷ ms) ++ (125 ∷ 10 ∷ []))) ≡ line_of (head_of index offset kind taken ++ (m ∷ ms))
unfolding head_text line_of
line_behind index offset kind taken m ms =
    let hs : List (List ℕ) = head_of index offset kind taken in
    let tail : List ℕ = 125 ∷ 10 ∷ [] in
    ap
    (λ (r : List ℕ). 123 ∷ r)
    (sym (append_assoc (joined hs) (44 ∷ joined (m ∷ ms)) tail)
    ∙ ap (λ (r : List ℕ). r ++ tail) (sym (joined_behind (number_is "index" index) (number_is "offset" offset ∷ word_is "kind" kind ∷ number_is "taken" taken ∷ []) m ms))
    ∙ sym (append_assoc (joined (hs ++ (m ∷ ms))) (125 ∷ []) (10 ∷ [])))

pub refused_line_lem : (index offset : ℕ) (e : Error) (taken : ℕ) → head_text index offset (codes_of "refused") taken ++ refusal_text e ≡ refused_line index offset e taken
unfolding refusal_text refused_line
refused_line_lem index offset e taken =
    line_behind index offset (codes_of "refused") taken (number_is "number" (row_of (told_error e))) (word_is "name" (name_of e) ∷ member (codes_of "values") (array (numbers (values_of (told_error e)))) ∷ [])

pub skipped_line_lem : (index offset taken kind : ℕ)
    → (head_text index offset (codes_of "skipped") taken ++ (codes_of ",\"type\":" ++ decimal_of kind)) ++ codes_of "}\n" ≡ skipped_line index offset taken kind
unfolding skipped_line each escaped_of
skipped_line_lem index offset taken kind = append_assoc (head_text index offset (codes_of "skipped") taken) _ _ ∙ line_behind index offset (codes_of "skipped") taken (number_is "type" kind) []
