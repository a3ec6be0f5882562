-- The bytes of a line.
use Rattle.std.specs.Prelude.{ℕ, List, [], ◌∷◌, ◌++◌, map, codes}
use Rattle.std.specs.Borrow.{Bor}

-- what references to words point to
abbrev pub all_now : List (Bor (List ℕ)) → List (List ℕ)
all_now words = map (λ (w : Bor (List ℕ)). w.now) words

-- words, each after a blank
abbrev pub behind : List (List ℕ) → List ℕ
behind [] = []
behind (word ∷ words) = codes " " ++ (word ++ behind words)

-- words with one blank between them
abbrev pub line_of : List (List ℕ) → List ℕ
line_of [] = []
line_of (word ∷ words) = word ++ behind words

-- a line and what is answered to it
abbrev pub answered : List ℕ → List ℕ → List ℕ
answered line answer = line ++ (codes " = " ++ (answer ++ codes "\n"))
