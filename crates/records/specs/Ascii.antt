-- Names and words as bytes. Assumes nothing.
use Rattle.std.specs.Prelude.{List, [], ◌∷◌, ℕ}
use Prim.Native.Char.{code}
use Prim.Native.String.{String, [] as empty, ◌∷◌ as ◌then◌}

-- a name is spelled in ASCII: the codes of its characters
abbrev pub codes_of : String → List ℕ
codes_of empty = []
codes_of (c then s) = code c ∷ codes_of s
