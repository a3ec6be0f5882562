-- The bytes by which a refusal is told.
use Rattle.std.specs.Prelude.{ℕ, List, ◌++◌, codes, decimal}

-- refused N layer M place P
abbrev pub refusal_with : ℕ → ℕ → ℕ → List ℕ
refusal_with n l p = codes "refused " ++ (decimal n ++ (codes " layer " ++ (decimal l ++ (codes " place " ++ decimal p))))
